-- Notes whose numbers rise, each of which stands in a book, stand in it in their order.
use Rattle.std.proofs.Common.{◌≡◌, ◌⊎◌, ℕ, ◌+◌, ◌<◌, ◌≤◌, Bool, true, false, cond, List, [], ◌∷◌, ◌++◌, Some, None}
use Rattle.std.proofs.Common.{refl, sym, ◌∙◌, ap, subst, inl, inr, arith}
use Rattle.std.specs.Prelude.{IsSome, nat_lt}
use Rattle.std.specs.List.{filter, AllByRecursion as Each}
use Rattle.std.proofs.lemmas.Bool.Decides.{nat_tests}
use Rattle.tc_locked.specs.declared.view.Note.{Note}
use Rattle.tc_locked.specs.Books.{AreNumbered}
use Rattle.tc_locked.specs.HallBooks.{entries_in}
use Rattle.tc_links.specs.Talks.{last_after}
use Rattle.tc_workers.specs.Answering.{IsPart}
use Rattle.tc_links.proofs.Latest.{fell}

-- the note is one of these
abbrev pub In : Note → List Note → Type 0
In n [] = ⊥
In n (m ∷ ms) = (n ≡ m) ⊎ In n ms

pub in-front : (n : Note) (xs ys : List Note) → In n xs → In n (xs ++ ys)
in-front n [] ys i = absurd i
in-front n (x ∷ xs) ys (inl same) = inl same
in-front n (x ∷ xs) ys (inr i) = inr (in-front n xs ys i)

pub in-behind : (n : Note) (xs ys : List Note) → In n ys → In n (xs ++ ys)
in-behind n [] ys i = i
in-behind n (x ∷ xs) ys i = inr (in-behind n xs ys i)

-- what passes a test
in-with_or_without : (n y : Note) (ys : List Note) (b : Bool) → In n ys → In n (cond b (y ∷ ys) ys)
in-with_or_without n y ys true i = inr i
in-with_or_without n y ys false i = i

pub in-filter : (test : Note → Bool) (n : Note) (ys : List Note) → test n ≡ true → In n ys → In n (filter test ys)
in-filter test n [] passes i = absurd i
in-filter test n (y ∷ ys) passes (inl same) =
    let own : test y ≡ true = ap test (sym same) ∙ passes in
    subst (λ (b : Bool). In n (cond b (y ∷ filter test ys) (filter test ys))) (sym own) (inl same)
in-filter test n (y ∷ ys) passes (inr i) =
    in-with_or_without n y (filter test ys) (test y) (in-filter test n ys passes i)

pub of-filter : (test : Note → Bool) (n : Note) (ys : List Note) → In n (filter test ys) → In n ys
of-filter test n [] i = absurd i
of-filter test n (y ∷ ys) i = go (of-filter test n ys) (test y) i
  where
    go : (In n (filter test ys) → In n ys) → (b : Bool) → In n (cond b (y ∷ filter test ys) (filter test ys)) → In n (y ∷ ys)
    go f true (inl same) = inl same
    go f true (inr j) = inr (f j)
    go f false j = inr (f j)

-- ---- what holds of each
pub each-as : {X : Type 0} (P Q : X → Type 0) (xs : List X) → ((x : X) → P x → Q x) → Each P xs → Each Q xs
each-as P Q [] f all = tt
each-as P Q (x ∷ xs) f all = (f x all.0, each-as P Q xs f all.1)

pub each-append : {X : Type 0} (P : X → Type 0) (xs ys : List X) → Each P xs → Each P ys → Each P (xs ++ ys)
each-append P [] ys h k = k
each-append P (x ∷ xs) ys h k = (h.0, each-append P xs ys h.1 k)

pub each-split : {X : Type 0} (P : X → Type 0) (xs ys : List X) → Each P (xs ++ ys) → Each P xs × Each P ys
each-split P [] ys h = (tt, h)
each-split P (x ∷ xs) ys h = let more = each-split P xs ys h.1 in ((h.0, more.0), more.1)

pub each-in : (P : Note → Type 0) (xs : List Note) → ((n : Note) → In n xs → P n) → Each P xs
each-in P [] f = tt
each-in P (x ∷ xs) f = (f x (inl refl), each-in P xs (λ n i. f n (inr i)))

pub each-filter : (test : Note → Bool) (P Q : Note → Type 0) (xs : List Note) → ((n : Note) → test n ≡ true → P n → Q n)
    → Each P xs → Each Q (filter test xs)
each-filter test P Q [] f all = tt
each-filter test P Q (x ∷ xs) f all = go (each-filter test P Q xs f all.1) (test x) refl
  where
    go : Each Q (filter test xs) → (b : Bool) → test x ≡ b → Each Q (cond b (x ∷ filter test xs) (filter test xs))
    go rest true passes = (f x passes all.0, rest)
    go rest false fails = rest

-- ---- numbers
-- the notes' numbers rise from above this one
abbrev pub Above : ℕ → List Note → Type 0
Above from [] = Unit {0}
Above from (n ∷ ns) = (from < n.entry.number) × Above n.entry.number ns

above-less : (less from : ℕ) (ns : List Note) → less ≤ from → Above from ns → Above less ns
above-less less from [] le h = tt
above-less less from (n ∷ ns) le h = (let lt = h.0 in omega arith, h.1)

pub above-filter : (test : Note → Bool) (from : ℕ) (ns : List Note) → Above from ns → Above from (filter test ns)
above-filter test from [] h = tt
above-filter test from (n ∷ ns) h = go (above-filter test n.entry.number ns h.1) (test n)
  where
    go : Above n.entry.number (filter test ns) → (b : Bool) → Above from (cond b (n ∷ filter test ns) (filter test ns))
    go rest true = (h.0, rest)
    go rest false = let lt = h.0 in above-less from n.entry.number (filter test ns) (omega arith) rest

lt-is : (a b : ℕ) → nat_lt a b ≡ true → a < b
lt-is a b is = grind (arith, nat_tests)

pub rose-above : (last : ℕ) (ns : List Note) → IsSome (last_after (Some last) ns) → Above last ns
rose-above last [] rose = tt
rose-above last (n ∷ ns) rose =
    let higher : nat_lt last n.entry.number ≡ true = go (nat_lt last n.entry.number) rose in (
      lt-is last n.entry.number higher,
      rose-above n.entry.number ns
          (subst (λ (b : Bool). IsSome (last_after (cond b (Some n.entry.number) None) ns)) higher rose),
    )
  where
    go : (b : Bool) → IsSome (last_after (cond b (Some n.entry.number) None) ns) → b ≡ true
    go true up = refl
    go false up = absurd (fell ns up)

-- the notes of a book are numbered one after another
abbrev pub Numbered : ℕ → List Note → Type 0
Numbered start [] = Unit {0}
Numbered start (n ∷ ns) = (n.entry.number ≡ start + 1) × Numbered (start + 1) ns

pub numbered-entries : (start : ℕ) (counts : List ℕ) (log : List Note) → AreNumbered start counts (entries_in log)
    → Numbered start log
numbered-entries start counts [] h = tt
numbered-entries start counts (n ∷ ns) h = (h.0.number_is, numbered-entries (start + 1) _ ns h.1)

numbered-past : (start : ℕ) (log : List Note) (n : Note) → Numbered start log → In n log → start < n.entry.number
numbered-past start [] n h i = absurd i
numbered-past start (m ∷ ms) n h (inl same) =
    let own : n.entry.number ≡ m.entry.number = ap (λ (x : Note). x.entry.number) same in let is = h.0 in omega arith
numbered-past start (m ∷ ms) n h (inr i) = let lt = numbered-past (start + 1) ms n h.1 i in omega arith

-- notes above the first of these are among the others
in-rest : (m : Note) (ms ns : List Note) → Above m.entry.number ns → Each (λ n. In n (m ∷ ms)) ns → Each (λ n. In n ms) ns
in-rest m ms [] h all = tt
in-rest m ms (n ∷ ns) h (inl same, all) =
    let own : n.entry.number ≡ m.entry.number = ap (λ (x : Note). x.entry.number) same in
    let lt : m.entry.number < n.entry.number = h.0 in absurd (omega arith)
in-rest m ms (n ∷ ns) h (inr i, all) =
    let lt : m.entry.number < n.entry.number = h.0 in
    (i, in-rest m ms ns (above-less m.entry.number n.entry.number ns (omega arith) h.1) all)

pub part-nil : (ys : List Note) → IsPart [] ys
part-nil [] = refl
part-nil (y ∷ ys) = inl (part-nil ys)

pub numbered-part : (start : ℕ) (log ns : List Note) → Numbered start log → Above start ns → Each (λ n. In n log) ns
    → IsPart ns log
numbered-part start [] [] h above all = refl
numbered-part start [] (n ∷ ns) h above all = absurd all.0
numbered-part start (m ∷ ms) [] h above all = inl (part-nil ms)
numbered-part start (m ∷ ms) (n ∷ ns) h above (inl same, all) =
    let own : n.entry.number ≡ m.entry.number = ap (λ (x : Note). x.entry.number) same in
    let is : m.entry.number ≡ start + 1 = h.0 in
    let rest : Above m.entry.number ns = above-less m.entry.number n.entry.number ns (omega arith) above.1 in
    let next : Above (start + 1) ns = above-less (start + 1) n.entry.number ns (omega arith) above.1 in
    inr (ns, ap (λ (x : Note). x ∷ ns) same, numbered-part (start + 1) ms ns h.1 next (in-rest m ms ns rest all))
numbered-part start (m ∷ ms) (n ∷ ns) h above (inr i, all) =
    let past : start + 1 < n.entry.number = numbered-past (start + 1) ms n h.1 i in
    let is : m.entry.number ≡ start + 1 = h.0 in
    let rest : Above m.entry.number (n ∷ ns) = (omega arith, above.1) in
    inl (numbered-part (start + 1) ms (n ∷ ns) h.1 (past, above.1) (in-rest m ms (n ∷ ns) rest (inr i, all)))
