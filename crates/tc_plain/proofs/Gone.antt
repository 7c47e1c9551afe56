-- What is left of a list once what a test finds first is gone.
use Rattle.std.specs.Prelude.{option_map, find, not, sum_by}
use Rattle.std.specs.List.{remove}
use Rattle.std.proofs.Common.{◌≡◌, ℕ, zero, suc, ◌≤◌, Bool, true, false, cond, List, [], ◌∷◌, length, get_or, Option, Some, None}
use Rattle.std.proofs.Common.{refl, ap, arith}
use Rattle.std.proofs.lemmas.List.Sums.{sum_by-cons}
use Rattle.tc_model.specs.Areas.{without}
use Rattle.tc_model.specs.Place.{first_place}
use Rattle.tc_plain.specs.declared.shared.entry.Entry.{Entry}
use Rattle.tc_plain.specs.Entries.{weight}

-- what stands at the first place is found
pub find-first_place : {A : Type 0} (p : A → Bool) (xs : List A) (i : ℕ) (d : A) → first_place p xs ≡ Some i
    → find p xs ≡ Some (get_or xs i d)
find-first_place p [] i d h = grind (arith, h)
find-first_place {A} p (x ∷ xs) i d h = go (p x) (first_place p xs) i h (λ j g. find-first_place p xs j d g)
  where
    go : (b : Bool) (o : Option ℕ) (i : ℕ) → cond b (Some zero) (option_map suc o) ≡ Some i
        → ((j : ℕ) → o ≡ Some j → find p xs ≡ Some (get_or xs j d)) → cond b (Some x) (find p xs) ≡ Some (get_or (x ∷ xs) i d)
    go true o zero h later = refl
    go true o (suc i) h later = grind (arith, h)
    go false None i h later = grind (arith, h)
    go false (Some j) zero h later = grind (arith, h)
    go false (Some j) (suc i) h later = later i (grind (arith, h))

-- where there is no place, nothing is found
pub find-no_place : {A : Type 0} (p : A → Bool) (xs : List A) → first_place p xs ≡ None → find p xs ≡ None
find-no_place p [] h = refl
find-no_place {A} p (x ∷ xs) h = go (p x) (first_place p xs) h (λ g. find-no_place p xs g)
  where
    go : (b : Bool) (o : Option ℕ) → cond b (Some zero) (option_map suc o) ≡ None → (o ≡ None → find p xs ≡ None)
        → cond b (Some x) (find p xs) ≡ None
    go true o h later = grind (arith, h)
    go false None h later = later refl
    go false (Some j) h later = grind (arith, h)

-- where nothing is found, nothing goes
pub without-missed : {A : Type 0} (p : A → Bool) (xs : List A) → find p xs ≡ None → without p xs ≡ xs
without-missed p [] h = refl
without-missed {A} p (x ∷ xs) h = go (p x) h (λ g. without-missed p xs g)
  where
    go : (b : Bool) → cond b (Some x) (find p xs) ≡ None → (find p xs ≡ None → without p xs ≡ xs)
        → cond (not b) (x ∷ without p xs) (without p xs) ≡ x ∷ xs
    go true h later = grind (arith, h)
    go false h later = ap (λ ys. x ∷ ys) (later h)

-- once the first is removed, what does not pass is the same
pub without-remove : {A : Type 0} (p : A → Bool) (xs : List A) (i : ℕ) → first_place p xs ≡ Some i
    → without p (remove xs i) ≡ without p xs
without-remove p [] i h = grind (arith, h)
without-remove {A} p (x ∷ xs) i h = go (p x) refl (first_place p xs) i h (λ j g. without-remove p xs j g)
  where
    go : (b : Bool) → p x ≡ b → (o : Option ℕ) (i : ℕ) → cond b (Some zero) (option_map suc o) ≡ Some i
        → ((j : ℕ) → o ≡ Some j → without p (remove xs j) ≡ without p xs)
        → without p (remove (x ∷ xs) i) ≡ cond (not b) (x ∷ without p xs) (without p xs)
    go true t o zero h later = refl
    go true t o (suc i) h later = grind (arith, h)
    go false t None i h later = grind (arith, h)
    go false t (Some j) zero h later = grind (arith, h)
    go false t (Some j) (suc i) h later =
        let same : without p (remove xs i) ≡ without p xs = later i (grind (arith, h)) in rw t (ap (λ ys. x ∷ ys) same)

-- each entry weighs something
pub length-le-weight : (xs : List Entry) → length xs ≤ sum_by weight xs
length-le-weight [] = omega arith
length-le-weight (x ∷ xs) = omega (arith, length-le-weight xs, sum_by-cons weight x xs)
