-- What keys hold after look-ups: all that they held before, but for what has gone.
use Rattle.std.specs.Prelude.{find, not, sum_by, nat_lt, ◌-◌}
use Rattle.std.specs.Str.{bytes_eq}
use Rattle.std.proofs.Common.{◌≡◌, ℕ, ◌+◌, ◌≤◌, Bool, true, false, cond, List, [], ◌∷◌, ◌++◌, Option, Some, None, refl, sym, ◌∙◌}
use Rattle.std.proofs.Common.{ap, arith}
use Rattle.std.proofs.lemmas.List.Sums.{sum_by-cons}
use Rattle.std.proofs.lemmas.Slice.Eq.{bytes_eq-Decides}
use Rattle.tc_model.specs.Areas.{Areas, Limits, fitting, beyond, without, raised, demoted, is_in}
use Rattle.tc_model.proofs.Totals.{parts}
use Rattle.tc_plain.specs.declared.shared.entry.Entry.{Entry}
use Rattle.tc_plain.specs.Entries.{weight, has_key}
use Rattle.tc_plain.specs.EvictionState.{held}
use Rattle.tc_plain.specs.Placing.{without_key}
use Rattle.tc_plain.specs.Soundness.{count_under}

-- the first, or else the second
abbrev pub or_else : {A : Type 0} → Option A → Option A → Option A
or_else None o = o
or_else (Some x) o = Some x

or_else_none : {A : Type 0} (o : Option A) → or_else o None ≡ o
or_else_none None = refl
or_else_none (Some x) = refl

pub find-append : {A : Type 0} (p : A → Bool) (xs ys : List A) → find p (xs ++ ys) ≡ or_else (find p xs) (find p ys)
find-append p [] ys = refl
find-append {A} p (x ∷ xs) ys = go (p x) (find-append p xs ys)
  where
    go : (b : Bool) → find p (xs ++ ys) ≡ or_else (find p xs) (find p ys)
        → cond b (Some x) (find p (xs ++ ys)) ≡ or_else (cond b (Some x) (find p xs)) (find p ys)
    go true h = refl
    go false h = h

-- what one test finds is not among what another, which excludes it, takes out
find-without : (k q : List ℕ) → bytes_eq k q ≡ false → (xs : List Entry)
    → find (has_key q) (without (has_key k) xs) ≡ find (has_key q) xs
find-without k q ne [] = refl
find-without k q ne (x ∷ xs) = go (has_key k x) refl (has_key q x) refl (find-without k q ne xs)
  where
    go : (a : Bool) → has_key k x ≡ a → (b : Bool) → has_key q x ≡ b
        → find (has_key q) (without (has_key k) xs) ≡ find (has_key q) xs
        → find (has_key q) (cond (not a) (x ∷ without (has_key k) xs) (without (has_key k) xs))
        ≡ cond b (Some x) (find (has_key q) xs)
    go true s true t h =
        let one : x.key ≡ k = (bytes_eq-Decides x.key k).0 s in
        let two : x.key ≡ q = (bytes_eq-Decides x.key q).0 t in
        let both : bytes_eq k q ≡ true = (bytes_eq-Decides k q).1 (sym one ∙ two) in
        absurd (grind (arith, both, ne))
    go true s false t h = h
    go false s true t h = rw t refl
    go false s false t h = rw t h

find-without_own : (k : List ℕ) (xs : List Entry) → find (has_key k) (without (has_key k) xs) ≡ None
find-without_own k [] = refl
find-without_own k (x ∷ xs) = go (has_key k x) refl (find-without_own k xs)
  where
    go : (a : Bool) → has_key k x ≡ a → find (has_key k) (without (has_key k) xs) ≡ None
        → find (has_key k) (cond (not a) (x ∷ without (has_key k) xs) (without (has_key k) xs)) ≡ None
    go true s h = h
    go false s h = rw s h

-- what a key holds by the three lists
held_by : (q : List ℕ) (a : Areas Entry)
    → held q a ≡ or_else (find (has_key q) a.window) (or_else (find (has_key q) a.probation) (find (has_key q) a.protected))
held_by q a =
    find-append (has_key q) a.window (a.probation ++ a.protected)
    ∙ ap (or_else (find (has_key q) a.window)) (find-append (has_key q) a.probation a.protected)

-- what is taken out of one key leaves what others hold
pub held-without_key : (k q : List ℕ) (a : Areas Entry) → bytes_eq k q ≡ false → held q (without_key k a) ≡ held q a
held-without_key k q a ne =
    held_by q (without_key k a)
    ∙ rw (find-without k q ne a.window, find-without k q ne a.probation, find-without k q ne a.protected) (sym (held_by q a))

pub held-without_key_own : (k : List ℕ) (a : Areas Entry) → held k (without_key k a) ≡ None
held-without_key_own k a =
    held_by k (without_key k a)
    ∙ rw (find-without_own k a.window, find-without_own k a.probation, find-without_own k a.protected) refl

-- what is raised leaves what others hold, and stands under its key
pub held-raised : (k q : List ℕ) (x : Entry) (a : Areas Entry) → x.key ≡ k → bytes_eq k q ≡ false
    → held q (raised (has_key k) x a) ≡ held q a
held-raised k q x a at ne = go (is_in (has_key k) a.window)
  where
    off : has_key q x ≡ false
    off = ap (λ j. bytes_eq j q) at ∙ ne

    go : (b : Bool) → held q (cond b
        (record {
          window = x ∷ without (has_key k) a.window;
          probation = without (has_key k) a.probation;
          protected = without (has_key k) a.protected;
        })
        (record {
          window = without (has_key k) a.window;
          probation = without (has_key k) a.probation;
          protected = x ∷ without (has_key k) a.protected;
        }))
        ≡ held q a
    go true =
        held_by q (record {
          window = x ∷ without (has_key k) a.window;
          probation = without (has_key k) a.probation;
          protected = without (has_key k) a.protected;
        })
        ∙ rw (off, find-without k q ne a.window, find-without k q ne a.probation, find-without k q ne a.protected)
        (sym (held_by q a))
    go false =
        held_by q (record {
          window = without (has_key k) a.window;
          probation = without (has_key k) a.probation;
          protected = x ∷ without (has_key k) a.protected;
        })
        ∙ rw (off, find-without k q ne a.window, find-without k q ne a.probation, find-without k q ne a.protected)
        (sym (held_by q a))

pub held-raised_own : (k : List ℕ) (x : Entry) (a : Areas Entry) → x.key ≡ k → held k (raised (has_key k) x a) ≡ Some x
held-raised_own k x a at = go (is_in (has_key k) a.window)
  where
    on : has_key k x ≡ true
    on = (bytes_eq-Decides x.key k).1 at

    go : (b : Bool) → held k (cond b
        (record {
          window = x ∷ without (has_key k) a.window;
          probation = without (has_key k) a.probation;
          protected = without (has_key k) a.protected;
        })
        (record {
          window = without (has_key k) a.window;
          probation = without (has_key k) a.probation;
          protected = x ∷ without (has_key k) a.protected;
        }))
        ≡ Some x
    go true =
        held_by k (record {
          window = x ∷ without (has_key k) a.window;
          probation = without (has_key k) a.probation;
          protected = without (has_key k) a.protected;
        })
        ∙ rw on refl
    go false =
        held_by k (record {
          window = without (has_key k) a.window;
          probation = without (has_key k) a.probation;
          protected = x ∷ without (has_key k) a.protected;
        })
        ∙ rw (on, find-without_own k a.window, find-without_own k a.probation) refl

-- what is found counts
found_counts : (p : Entry → Bool) (xs : List Entry) (e : Entry) → find p xs ≡ Some e → 1 ≤ sum_by (λ e. cond (p e) 1 0) xs
found_counts p [] e h = grind (arith, h)
found_counts p (x ∷ xs) e h = go (p x) refl h (λ g. found_counts p xs e g)
  where
    f : Entry → ℕ
    f y = cond (p y) 1 0

    go : (b : Bool) → p x ≡ b → cond b (Some x) (find p xs) ≡ Some e → (find p xs ≡ Some e → 1 ≤ sum_by (λ e. cond (p e) 1 0) xs)
        → 1 ≤ sum_by (λ e. cond (p e) 1 0) (x ∷ xs)
    go true t g later =
        let c : Entry → ℕ = λ e. cond (p e) 1 0 in let own : c x ≡ 1 = rw t refl in omega (arith, own, sum_by-cons c x xs)
    go false t g later = let c : Entry → ℕ = λ e. cond (p e) 1 0 in omega (arith, later g, sum_by-cons c x xs)

-- at most one of three lists holds anything, so that their order means nothing
one_of_three : (p : Entry → Bool) (b m f : List Entry)
    → sum_by (λ e. cond (p e) 1 0) b + (sum_by (λ e. cond (p e) 1 0) m + sum_by (λ e. cond (p e) 1 0) f) ≤ 1
    → or_else (or_else (find p b) (find p m)) (find p f) ≡ or_else (find p m) (or_else (find p f) (find p b))
one_of_three p b m f few = go (find p b) refl (find p m) refl (find p f) refl
  where
    go : (ob : Option Entry) → find p b ≡ ob → (om : Option Entry) → find p m ≡ om → (of : Option Entry) → find p f ≡ of
        → or_else (or_else ob om) of ≡ or_else om (or_else of ob)
    go None r None s o t = sym (or_else_none o)
    go None r (Some x) s o t = refl
    go (Some y) r None s None t = refl
    go (Some y) r None s (Some z) t = absurd (omega (arith, found_counts p b y r, found_counts p f z t, few))
    go (Some y) r (Some x) s o t = absurd (omega (arith, found_counts p b y r, found_counts p m x s, few))

pub held-demoted : (q : List ℕ) (limits : Limits) (a : Areas Entry) → count_under q a ≤ 1
    → held q (demoted weight limits a) ≡ held q a
held-demoted q limits a once =
    let p : Entry → Bool = has_key q in
    let b : List Entry = beyond weight limits.protected a.protected in
    let f : List Entry = fitting weight limits.protected a.protected in
    let c : Entry → ℕ = λ e. cond (p e) 1 0 in
    let split : find p a.protected ≡ or_else (find p f) (find p b) =
    ap (find p) (sym (whole weight limits.protected a.protected)) ∙ find-append p f b in
    let few : sum_by c b + (sum_by c a.probation + sum_by c f) ≤ 1 =
    omega (arith, parts c weight limits.protected a.protected, once) in
    held_by q (demoted weight limits a)
    ∙ ap (λ o. or_else (find p a.window) (or_else o (find p f))) (find-append p b a.probation)
    ∙ ap (or_else (find p a.window)) (one_of_three p b a.probation f few)
    ∙ ap (λ o. or_else (find p a.window) (or_else (find p a.probation) o)) (sym split)
    ∙ sym (held_by q a)
  where
    whole : (weigh : Entry → ℕ) (room : ℕ) (xs : List Entry) → fitting weigh room xs ++ beyond weigh room xs ≡ xs
    whole weigh room [] = refl
    whole weigh room (x ∷ xs) = go (nat_lt room (weigh x)) (whole weigh (room - weigh x) xs)
      where
        go : (t : Bool) → fitting weigh (room - weigh x) xs ++ beyond weigh (room - weigh x) xs ≡ xs
            → cond t [] (x ∷ fitting weigh (room - weigh x) xs) ++ cond t (x ∷ xs) (beyond weigh (room - weigh x) xs) ≡ x ∷ xs
        go true h = refl
        go false h = ap (λ ys. x ∷ ys) h
