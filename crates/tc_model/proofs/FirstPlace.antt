-- A search loop that comes to an item which passes, and one that goes past an item which does not.
use Rattle.std.specs.Prelude.{option_map}
use Rattle.std.proofs.Common.{◌≡◌, ℕ, zero, suc, ◌+◌, ◌<◌, Bool, true, false, cond, List, [], ◌∷◌, length, get_or, take, Option}
use Rattle.std.proofs.Common.{Some, None, refl, arith, add-one}
use Rattle.tc_model.specs.Place.{first_place}

none_here : (b : Bool) (o : Option ℕ) → cond b (Some zero) (option_map suc o) ≡ None → (b ≡ false) × (o ≡ None)
none_here true o e = grind arith
none_here false None e = (refl, refl)
none_here false (Some n) e = grind arith

-- a loop that comes to an item which passes
pub first_place-found : {A : Type 0} (p : A → Bool) (xs : List A) (i : ℕ) (d : A)
    → i < length xs → first_place p (take i xs) ≡ None → p (get_or xs i d) ≡ true → first_place p xs ≡ Some i
first_place-found p [] i d lt none at = absurd (omega arith)
first_place-found p (x ∷ xs) zero d lt none at = rw at
first_place-found p (x ∷ xs) (suc i) d lt none at =
    let h : (p x ≡ false) × (first_place p (take i xs) ≡ None) = none_here _ _ none in
    rw (h.0, first_place-found p xs i d (omega arith) h.1 at)

-- a loop that goes past an item which doesn't
first_place-past_suc : {A : Type 0} (p : A → Bool) (xs : List A) (i : ℕ) (d : A)
    → i < length xs → first_place p (take i xs) ≡ None → p (get_or xs i d) ≡ false → first_place p (take (suc i) xs) ≡ None
first_place-past_suc p [] i d lt none at = refl
first_place-past_suc p (x ∷ xs) zero d lt none at = rw at
first_place-past_suc p (x ∷ xs) (suc i) d lt none at =
    let h : (p x ≡ false) × (first_place p (take i xs) ≡ None) = none_here _ _ none in
    rw (h.0, first_place-past_suc p xs i d (omega arith) h.1 at)

pub first_place-past : {A : Type 0} (p : A → Bool) (xs : List A) (i : ℕ) (d : A)
    → i < length xs → first_place p (take i xs) ≡ None → p (get_or xs i d) ≡ false → first_place p (take (i + 1) xs) ≡ None
first_place-past p xs i d lt none at = rw add-one (first_place-past_suc p xs i d lt none at)
