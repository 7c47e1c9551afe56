-- No measure of all that is held grows as entries move and are dropped.
use Rattle.std.specs.Prelude.{sum_by, nat_lt, reverse, take, filter}
use Rattle.std.specs.List.{list_all}
use Rattle.std.proofs.Common.{◌≡◌, ℕ, ◌+◌, ◌-◌, ◌≤◌, Bool, true, false, cond, List, [], ◌∷◌, length, refl, ◌∙◌, arith}
use Rattle.std.proofs.lemmas.List.Sums.{sum_by-cons, sum_by-append, sum_by-take-le}
use Rattle.tc_model.specs.Areas.{Areas, Limits, Settled, fitting, beyond, main_weight, demoted, without_last, trimmed, victims}
use Rattle.tc_model.specs.Areas.{entered, admitted, all_admitted, narrowed, settle, is_in, without, raised, accessed, total}
use Rattle.tc_model.proofs.Within.{sum-reverse}

pub parts : {A : Type 0} (f weigh : A → ℕ) (room : ℕ) (xs : List A)
    → sum_by f (fitting weigh room xs) + sum_by f (beyond weigh room xs) ≡ sum_by f xs
parts f weigh room [] = refl
parts {A} f weigh room (x ∷ xs) = go (nat_lt room (weigh x)) (parts f weigh (room - weigh x) xs)
  where
    go : (b : Bool) → sum_by f (fitting weigh (room - weigh x) xs) + sum_by f (beyond weigh (room - weigh x) xs) ≡ sum_by f xs
        → sum_by f (cond b [] (x ∷ fitting weigh (room - weigh x) xs))
        + sum_by f (cond b (x ∷ xs) (beyond weigh (room - weigh x) xs))
        ≡ sum_by f (x ∷ xs)
    go true h = omega arith
    go false h = omega (arith, sum_by-cons f x (fitting weigh (room - weigh x) xs), sum_by-cons f x xs)

pub sum-filter-le : {A : Type 0} (f : A → ℕ) (p : A → Bool) (xs : List A) → sum_by f (filter p xs) ≤ sum_by f xs
sum-filter-le f p [] = omega arith
sum-filter-le {A} f p (x ∷ xs) = go (p x) (sum-filter-le f p xs)
  where
    go : (b : Bool) → sum_by f (filter p xs) ≤ sum_by f xs → sum_by f (cond b (x ∷ filter p xs) (filter p xs)) ≤ sum_by f (x ∷ xs)
    go true h = omega (arith, sum_by-cons f x (filter p xs), sum_by-cons f x xs)
    go false h = omega (arith, sum_by-cons f x xs)

pub total-demoted : {A : Type 0} (f weigh : A → ℕ) (limits : Limits) (a : Areas A) → total f (demoted weigh limits a) ≡ total f a
total-demoted f weigh limits a =
    omega (
      arith,
      parts f weigh limits.protected a.protected,
      sum_by-append f (beyond weigh limits.protected a.protected) a.probation,
    )

pub total-without_last : {A : Type 0} (f : A → ℕ) (n : ℕ) (a : Areas A) → main_weight f (without_last n a) ≤ main_weight f a
total-without_last f n a =
    omega (
      arith,
      sum_by-take-le f a.probation (length a.probation - n),
      sum_by-take-le f a.protected (length a.protected - (n - length a.probation)),
    )

pub total-admitted : {A : Type 0} (f freq : A → ℕ) (c : A) (a : Areas A) (vs : List A)
    → total f (admitted freq c a vs).areas ≤ total f a + f c
total-admitted {A} f freq c a vs = go (list_all (λ v. nat_lt (freq v) (freq c)) vs)
  where
    go : (b : Bool)
        → total f (cond b (let s : Settled A = record { areas = entered c (without_last (length vs) a); dropped = vs } in s)
        (record { areas = a; dropped = c ∷ [] })).areas
        ≤ total f a + f c
    go true =
        omega (arith, total-without_last f (length vs) a, sum_by-cons f c (take (length a.probation - length vs) a.probation))
    go false = omega arith

total-all_admitted : {A : Type 0} (f weigh freq : A → ℕ) (limits : Limits) (a : Areas A) (cs : List A)
    → total f (all_admitted weigh freq limits a cs).areas ≤ total f a + sum_by f cs
total-all_admitted f weigh freq limits a [] = omega arith
total-all_admitted f weigh freq limits a (c ∷ cs) =
    omega (
      arith,
      total-all_admitted f weigh freq limits (admitted freq c a (victims weigh limits a c)).areas cs,
      total-admitted f freq c a (victims weigh limits a c),
      sum_by-cons f c cs,
    )

pub total-settle : {A : Type 0} (f weigh freq : A → ℕ) (limits : Limits) (a : Areas A)
    → total f (settle weigh freq limits a).areas ≤ total f a
total-settle f weigh freq limits a =
    let d = demoted weigh limits a in
    let window = fitting weigh limits.window a.window in
    let cs = reverse (beyond weigh limits.window a.window) in
    omega (
      arith,
      total-all_admitted f weigh freq limits (narrowed window (trimmed weigh limits d).areas) cs,
      total-without_last f (length (trimmed weigh limits d).dropped) d,
      total-demoted f weigh limits a,
      parts f weigh limits.window a.window,
      sum-reverse f (beyond weigh limits.window a.window),
    )

pub total-accessed : {A : Type 0} (f weigh : A → ℕ) (limits : Limits) (is : A → Bool) (x : A) (a : Areas A)
    → total f (accessed weigh limits is x a)
    ≡ f x + (sum_by f (without is a.window) + (sum_by f (without is a.probation) + sum_by f (without is a.protected)))
total-accessed {A} f weigh limits is x a = total-demoted f weigh limits (raised is x a) ∙ go (is_in is a.window)
  where
    go : (b : Bool) → total f (cond b
        (let l : Areas A = record {
          window = x ∷ without is a.window;
          probation = without is a.probation;
          protected = without is a.protected;
        } in l)
        (record { window = without is a.window; probation = without is a.probation; protected = x ∷ without is a.protected }))
        ≡ f x + (sum_by f (without is a.window) + (sum_by f (without is a.probation) + sum_by f (without is a.protected)))
    go true = omega (arith, sum_by-cons f x (without is a.window))
    go false = omega (arith, sum_by-cons f x (without is a.protected))
