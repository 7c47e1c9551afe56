-- Settle brings each area within its limit, and leaves what is within.
use Rattle.std.specs.Prelude.{sum_by, nat_lt, reverse, take, ◌==◌}
use Rattle.std.specs.List.{list_all}
use Rattle.std.proofs.Common.{◌≡◌, ℕ, zero, suc, ◌+◌, ◌-◌, ◌≤◌, Bool, true, false, cond, List, [], ◌∷◌, ◌++◌, length, refl, sym}
use Rattle.std.proofs.Common.{◌∙◌, ap, arith}
use Rattle.std.proofs.lemmas.Bool.{ltb-false, le-ltb, eqb-true, eq-eqb}
use Rattle.std.proofs.lemmas.List.{reverse-append, reverse-reverse, length-reverse, take-append-le, take_all}
use Rattle.std.proofs.lemmas.List.Sums.{sum_by-cons, sum_by-append, sum_by-take-le}
use Rattle.tc_model.specs.Areas.{Areas, Limits, Settled, fitting, beyond, shortest, main_weight, demoted, without_last, from_tail}
use Rattle.tc_model.specs.Areas.{trimmed, victims, entered, admitted, and_then, all_admitted, narrowed}
use Rattle.tc_model.specs.Within.{SettlesWithin, SettlesOnce}
use Rattle.tc_model.proofs.Last.{fitting_all}
use Rattle.tc_model.proofs.Every.{Every, Every-reverse, Every-beyond, every_of_all}

pub sum-fitting : {A : Type 0} (weigh : A → ℕ) (room : ℕ) (xs : List A) → sum_by weigh (fitting weigh room xs) ≤ room
sum-fitting weigh room [] = omega arith
sum-fitting {A} weigh room (x ∷ xs) = go (nat_lt room (weigh x)) refl (sum-fitting weigh (room - weigh x) xs)
  where
    go : (b : Bool) → nat_lt room (weigh x) ≡ b → sum_by weigh (fitting weigh (room - weigh x) xs) ≤ room - weigh x
        → sum_by weigh (cond b [] (x ∷ fitting weigh (room - weigh x) xs)) ≤ room
    go true e h = omega arith
    go false e h =
        let le : weigh x ≤ room = ltb-false room (weigh x) e in
        omega (arith, sum_by-cons weigh x (fitting weigh (room - weigh x) xs))

sum-shortest : {A : Type 0} (weigh : A → ℕ) (need : ℕ) (xs : List A) → need ≤ sum_by weigh xs
    → need ≤ sum_by weigh (shortest weigh need xs)
sum-shortest weigh need [] h = h
sum-shortest {A} weigh need (x ∷ xs) h =
    go (need == 0) refl (sum-shortest weigh (need - weigh x) xs (omega (arith, sum_by-cons weigh x xs)))
  where
    go : (b : Bool) → (need == 0) ≡ b → need - weigh x ≤ sum_by weigh (shortest weigh (need - weigh x) xs)
        → need ≤ sum_by weigh (cond b [] (x ∷ shortest weigh (need - weigh x) xs))
    go true e g = omega (arith, eqb-true need 0 e)
    go false e g = omega (arith, sum_by-cons weigh x (shortest weigh (need - weigh x) xs))

-- a shortest front is a front
pub shortest-take : {A : Type 0} (weigh : A → ℕ) (need : ℕ) (xs : List A)
    → shortest weigh need xs ≡ take (length (shortest weigh need xs)) xs
shortest-take weigh need [] = refl
shortest-take {A} weigh need (x ∷ xs) = go (need == 0) (shortest-take weigh (need - weigh x) xs)
  where
    go : (b : Bool) → shortest weigh (need - weigh x) xs ≡ take (length (shortest weigh (need - weigh x) xs)) xs
        → cond b [] (x ∷ shortest weigh (need - weigh x) xs)
        ≡ take (length (cond b [] (x ∷ shortest weigh (need - weigh x) xs))) (x ∷ xs)
    go true h = refl
    go false h = ap (λ ys. x ∷ ys) h

pub sum-reverse : {A : Type 0} (weigh : A → ℕ) (xs : List A) → sum_by weigh (reverse xs) ≡ sum_by weigh xs
sum-reverse weigh [] = refl
sum-reverse weigh (x ∷ xs) =
    rw (reverse-append (x ∷ []) xs)
    (omega (
      arith,
      sum_by-append weigh (reverse xs) (x ∷ []),
      sum_by-cons weigh x [],
      sum_by-cons weigh x xs,
      sum-reverse weigh xs,
    ))

-- a front, and what is left at the other end
sum-ends_of : {A : Type 0} (weigh : A → ℕ) (n : ℕ) (ys : List A)
    → sum_by weigh (take n ys) + sum_by weigh (take (length ys - n) (reverse ys)) ≡ sum_by weigh ys
sum-ends_of weigh zero ys =
    omega (
      arith,
      sum-reverse weigh ys,
      ap (sum_by weigh) (take_all (length ys - 0) (reverse ys) (omega (arith, length-reverse ys))),
    )
sum-ends_of {A} weigh (suc n) [] =
    omega (arith, sum_by-take-le {X = A} weigh [] (suc n), sum_by-take-le {X = A} weigh [] (length {A = A} [] - suc n))
sum-ends_of {A} weigh (suc n) (y ∷ ys) =
    let cut : take (length ys - n) (reverse ys ++ y ∷ []) ≡ take (length ys - n) (reverse ys) =
    take-append-le (length ys - n) (reverse ys) (y ∷ []) (omega (arith, length-reverse ys)) in
    let less : length (y ∷ ys) - suc n ≡ length ys - n = omega arith in
    let rest : take (length (y ∷ ys) - suc n) (reverse (y ∷ ys)) ≡ take (length ys - n) (reverse ys) =
    ap (λ zs. take (length (y ∷ ys) - suc n) zs) (reverse-append (y ∷ []) ys) ∙ ap (λ k. take k (reverse ys ++ y ∷ [])) less
    ∙ cut in
    omega (arith, ap (sum_by weigh) rest, sum_by-cons weigh y (take n ys), sum_by-cons weigh y ys, sum-ends_of weigh n ys)

sum-ends : {A : Type 0} (weigh : A → ℕ) (n : ℕ) (xs : List A)
    → sum_by weigh (take n (reverse xs)) + sum_by weigh (take (length xs - n) xs) ≡ sum_by weigh xs
sum-ends weigh n xs =
    let e = sum-ends_of weigh n (reverse xs) in
    let f : sum_by weigh (take n (reverse xs)) + sum_by weigh (take (length xs - n) xs) ≡ sum_by weigh (reverse xs) =
    rw (length-reverse, reverse-reverse) at e in
    f ∙ sum-reverse weigh xs

-- a front of two lists
take-two : {A : Type 0} (n : ℕ) (xs ys : List A) → take n (xs ++ ys) ≡ take n xs ++ take (n - length xs) ys
take-two zero [] ys = refl
take-two zero (x ∷ xs) ys = let none : 0 - length (x ∷ xs) ≡ 0 = omega arith in sym (ap (λ n. take n ys) none)
take-two (suc n) [] ys = let all : suc n - 0 ≡ suc n = omega arith in sym (ap (λ m. take m ys) all)
take-two (suc n) (x ∷ xs) ys =
    let less : suc n - length (x ∷ xs) ≡ n - length xs = omega arith in
    ap (λ zs. x ∷ zs) (take-two n xs ys ∙ sym (ap (λ m. take n xs ++ take m ys) less))

-- what goes from main's tail, and what is left of main
pub sum-without_last : {A : Type 0} (weigh : A → ℕ) (n : ℕ) (a : Areas A)
    → sum_by weigh (take n (from_tail a)) + main_weight weigh (without_last n a) ≡ main_weight weigh a
sum-without_last weigh n a =
    rw (take-two n (reverse a.probation) (reverse a.protected), length-reverse a.probation)
    (omega (
      arith,
      sum_by-append weigh (take n (reverse a.probation)) (take (n - length a.probation) (reverse a.protected)),
      sum-ends weigh n a.probation,
      sum-ends weigh (n - length a.probation) a.protected,
    ))

sum-from_tail : {A : Type 0} (weigh : A → ℕ) (a : Areas A) → sum_by weigh (from_tail a) ≡ main_weight weigh a
sum-from_tail weigh a =
    omega (
      arith,
      sum_by-append weigh (reverse a.probation) (reverse a.protected),
      sum-reverse weigh a.probation,
      sum-reverse weigh a.protected,
    )

-- without the shortest run that is needed, main weighs so much less
sum-relieved : {A : Type 0} (weigh : A → ℕ) (need : ℕ) (a : Areas A) → need ≤ main_weight weigh a
    → main_weight weigh (without_last (length (shortest weigh need (from_tail a))) a) + need ≤ main_weight weigh a
sum-relieved weigh need a h =
    let gone = shortest weigh need (from_tail a) in
    omega (
      arith,
      sum-without_last weigh (length gone) a,
      ap (sum_by weigh) (shortest-take weigh need (from_tail a)),
      sum-shortest weigh need (from_tail a) (omega (arith, sum-from_tail weigh a)),
    )

-- main and protected within their limits
record IsMainWithin {A : Type 0} (weigh : A → ℕ) (limits : Limits) (a : Areas A) : Type 0 where
  main : main_weight weigh a ≤ limits.main
  protected : sum_by weigh a.protected ≤ limits.protected

admitted_within : {A : Type 0} (weigh freq : A → ℕ) (limits : Limits) (c : A) (a : Areas A) → weigh c ≤ limits.main
    → IsMainWithin weigh limits a → IsMainWithin weigh limits (admitted freq c a (victims weigh limits a c)).areas
admitted_within {A} weigh freq limits c a light h = go (list_all (λ v. nat_lt (freq v) (freq c)) (victims weigh limits a c))
  where
    vs : List A
    vs = victims weigh limits a c

    go : (b : Bool)
        → IsMainWithin weigh limits (cond b
        (let s : Settled A = record {
          areas = entered c (without_last (length (victims weigh limits a c)) a);
          dropped = victims weigh limits a c;
        } in s)
        (record { areas = a; dropped = c ∷ [] })).areas
    go true =
        let n = length (victims weigh limits a c) in
        let own = h.main in
        let less = sum-relieved weigh (main_weight weigh a + weigh c - limits.main) a (omega arith) in
        record {
          main = omega (arith, sum_by-cons weigh c (take (length a.probation - n) a.probation));
          protected =
              omega (arith, h.protected, sum_by-take-le weigh a.protected (length a.protected - (n - length a.probation)));
        }
    go false = h

all_within : {A : Type 0} (weigh freq : A → ℕ) (limits : Limits) (a : Areas A) (cs : List A)
    → Every (λ x. weigh x ≤ limits.main) cs → IsMainWithin weigh limits a
    → IsMainWithin weigh limits (all_admitted weigh freq limits a cs).areas
all_within weigh freq limits a [] f h = h
all_within weigh freq limits a (c ∷ cs) f h =
    all_within weigh freq limits (admitted freq c a (victims weigh limits a c)).areas cs f.1
    (admitted_within weigh freq limits c a f.0 h)

admitted_window : {A : Type 0} (freq : A → ℕ) (c : A) (a : Areas A) (vs : List A) → (admitted freq c a vs).areas.window ≡ a.window
admitted_window {A} freq c a vs = go (list_all (λ v. nat_lt (freq v) (freq c)) vs)
  where
    go : (b : Bool)
        → (cond b (let s : Settled A = record { areas = entered c (without_last (length vs) a); dropped = vs } in s)
        (record { areas = a; dropped = c ∷ [] })).areas.window
        ≡ a.window
    go true = refl
    go false = refl

all_window : {A : Type 0} (weigh freq : A → ℕ) (limits : Limits) (a : Areas A) (cs : List A)
    → (all_admitted weigh freq limits a cs).areas.window ≡ a.window
all_window weigh freq limits a [] = refl
all_window weigh freq limits a (c ∷ cs) =
    all_window weigh freq limits (admitted freq c a (victims weigh limits a c)).areas cs
    ∙ admitted_window freq c a (victims weigh limits a c)

trimmed_within : {A : Type 0} (weigh : A → ℕ) (limits : Limits) (a : Areas A)
    → IsMainWithin weigh limits (trimmed weigh limits (demoted weigh limits a)).areas
trimmed_within weigh limits a =
    let d = demoted weigh limits a in
    let n = length (shortest weigh (main_weight weigh d - limits.main) (from_tail d)) in
    let less = sum-relieved weigh (main_weight weigh d - limits.main) d (omega arith) in
    record {
      main = omega arith;
      protected =
          omega (
            arith,
            sum-fitting weigh limits.protected a.protected,
            sum_by-take-le weigh d.protected (length d.protected - (n - length d.probation)),
          );
    }

pub settles_within : SettlesWithin
settles_within A weigh freq limits a f =
    let t = trimmed_within weigh limits a in
    let window = fitting weigh limits.window a.window in
    let inner = narrowed window (trimmed weigh limits (demoted weigh limits a)).areas in
    let cs = reverse (beyond weigh limits.window a.window) in
    let light = Every-reverse (λ x. weigh x ≤ limits.main) (beyond weigh limits.window a.window)
    (Every-beyond (λ x. weigh x ≤ limits.main) weigh limits.window a.window
    (every_of_all (λ x. weigh x ≤ limits.main) a.window f)) in
    let m : IsMainWithin weigh limits inner = record { main = t.main; protected = t.protected } in
    let r = all_within weigh freq limits inner cs light m in
    record {
      window = rw (all_window weigh freq limits inner cs) (sum-fitting weigh limits.window a.window);
      main = r.main;
      protected = r.protected;
    }

beyond_none : {A : Type 0} (weigh : A → ℕ) (room : ℕ) (xs : List A) → sum_by weigh xs ≤ room → beyond weigh room xs ≡ []
beyond_none weigh room [] h = refl
beyond_none weigh room (x ∷ xs) h =
    rw (le-ltb room (weigh x) (omega (arith, sum_by-cons weigh x xs)))
    (beyond_none weigh (room - weigh x) xs (omega (arith, sum_by-cons weigh x xs)))

shortest_none : {A : Type 0} (weigh : A → ℕ) (need : ℕ) (xs : List A) → need ≡ 0 → shortest weigh need xs ≡ []
shortest_none weigh need [] h = refl
shortest_none weigh need (x ∷ xs) h = rw (eq-eqb need 0 h) refl

without_none : {A : Type 0} (a : Areas A) → without_last 0 a ≡ a
without_none a =
    rw (
      take_all (length a.probation - 0) a.probation (omega arith),
      take_all (length a.protected - (0 - length a.probation)) a.protected (omega arith),
    ) refl

trimmed_none : {A : Type 0} (weigh : A → ℕ) (limits : Limits) (a : Areas A)
    → shortest weigh (main_weight weigh a - limits.main) (from_tail a) ≡ []
    → trimmed weigh limits a ≡ record { areas = a; dropped = [] }
trimmed_none {A} weigh limits a e =
    ap (λ gone. (let s : Settled A = record { areas = without_last (length gone) a; dropped = gone } in s)) e
    ∙ ap (λ b. (let s : Settled A = record { areas = b; dropped = [] } in s)) (without_none a)

-- settle, from what is trimmed
abbrev settle_from : {A : Type 0} → (A → ℕ) → (A → ℕ) → Limits → Areas A → Settled A → Settled A
settle_from weigh freq limits a s =
    and_then s.dropped (all_admitted weigh freq limits (narrowed (fitting weigh limits.window a.window) s.areas)
    (reverse (beyond weigh limits.window a.window)))

settled_none : {A : Type 0} (weigh freq : A → ℕ) (limits : Limits) (a : Areas A) → fitting weigh limits.window a.window ≡ a.window
    → beyond weigh limits.window a.window ≡ []
    → settle_from weigh freq limits a (record { areas = a; dropped = [] }) ≡ record { areas = a; dropped = [] }
settled_none {A} weigh freq limits a e f =
    ap (λ w. and_then [] (all_admitted weigh freq limits (narrowed w a) (reverse (beyond weigh limits.window a.window)))) e
    ∙ ap (λ b. and_then [] (all_admitted weigh freq limits (narrowed a.window a) (reverse b))) f

pub settles_once : SettlesOnce
settles_once A weigh freq limits a h =
    let same : demoted weigh limits a ≡ a =
    rw (beyond_none weigh limits.protected a.protected h.protected, fitting_all weigh limits.protected a.protected h.protected)
    refl in
    let light = h.main in
    let none : shortest weigh (main_weight weigh a - limits.main) (from_tail a) ≡ [] =
    shortest_none weigh (main_weight weigh a - limits.main) (from_tail a) (omega arith) in
    let kept : trimmed weigh limits (demoted weigh limits a) ≡ record { areas = a; dropped = [] } =
    ap (trimmed weigh limits) same ∙ trimmed_none weigh limits a none in
    ap (settle_from weigh freq limits a) kept
    ∙ settled_none weigh freq limits a (fitting_all weigh limits.window a.window h.window)
    (beyond_none weigh limits.window a.window h.window)
