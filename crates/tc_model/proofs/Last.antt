-- What a list machine that takes its last item at a time comes to.
use Rattle.std.specs.Prelude.{sum_by, nat_lt}
use Rattle.std.proofs.Common.{◌≡◌, ℕ, ◌-◌, ◌<◌, ◌≤◌, Bool, true, false, cond, List, [], ◌∷◌, ◌++◌, refl, ap, arith}
use Rattle.std.proofs.lemmas.Bool.{ltb-false, le-ltb}
use Rattle.std.proofs.lemmas.List.Sums.{sum_by-cons}
use Rattle.std.proofs.lemmas.Bool.Decides.{nat_tests}
use Rattle.tc_model.specs.Areas.{fitting, beyond, shortest}

-- what fits stays
pub fitting_all : {A : Type 0} (weigh : A → ℕ) (room : ℕ) (xs : List A) → sum_by weigh xs ≤ room → fitting weigh room xs ≡ xs
fitting_all weigh room [] h = refl
fitting_all weigh room (x ∷ xs) h =
    rw (le-ltb room (weigh x) (omega (arith, sum_by-cons weigh x xs)))
    (ap (λ ys. x ∷ ys) (fitting_all weigh (room - weigh x) xs (omega (arith, sum_by-cons weigh x xs))))

-- the last of what doesn't goes
pub fitting_last : {A : Type 0} (weigh : A → ℕ) (room : ℕ) (xs : List A) (y : A) → room < sum_by weigh (xs ++ y ∷ [])
    → fitting weigh room (xs ++ y ∷ []) ≡ fitting weigh room xs
fitting_last weigh room [] y h = grind (arith, nat_tests)
fitting_last weigh room (x ∷ xs) y h = go (nat_lt room (weigh x)) refl (fitting_last weigh (room - weigh x) xs y)
  where
    go : (b : Bool) → nat_lt room (weigh x) ≡ b
        → (room - weigh x < sum_by weigh (xs ++ y ∷ [])
        → fitting weigh (room - weigh x) (xs ++ y ∷ []) ≡ fitting weigh (room - weigh x) xs)
        → cond b [] (x ∷ fitting weigh (room - weigh x) (xs ++ y ∷ [])) ≡ cond b [] (x ∷ fitting weigh (room - weigh x) xs)
    go true e later = refl
    go false e later =
        let le : weigh x ≤ room = ltb-false room (weigh x) e in
        ap (λ ys. x ∷ ys) (later (omega (arith, sum_by-cons weigh x (xs ++ y ∷ []))))

pub beyond_last : {A : Type 0} (weigh : A → ℕ) (room : ℕ) (xs : List A) (y : A) → room < sum_by weigh (xs ++ y ∷ [])
    → beyond weigh room (xs ++ y ∷ []) ≡ beyond weigh room xs ++ y ∷ []
beyond_last weigh room [] y h = grind (arith, nat_tests)
beyond_last weigh room (x ∷ xs) y h = go (nat_lt room (weigh x)) refl (beyond_last weigh (room - weigh x) xs y)
  where
    go : (b : Bool) → nat_lt room (weigh x) ≡ b
        → (room - weigh x < sum_by weigh (xs ++ y ∷ [])
        → beyond weigh (room - weigh x) (xs ++ y ∷ []) ≡ beyond weigh (room - weigh x) xs ++ y ∷ [])
        → cond b (x ∷ (xs ++ y ∷ [])) (beyond weigh (room - weigh x) (xs ++ y ∷ []))
        ≡ cond b (x ∷ xs) (beyond weigh (room - weigh x) xs) ++ y ∷ []
    go true e later = refl
    go false e later =
        let le : weigh x ≤ room = ltb-false room (weigh x) e in later (omega (arith, sum_by-cons weigh x (xs ++ y ∷ [])))

-- a victim that goes leaves the others as they were
pub shortest_more : {A : Type 0} (weigh : A → ℕ) (need : ℕ) (x : A) (xs : List A) → 0 < need
    → shortest weigh need (x ∷ xs) ≡ x ∷ shortest weigh (need - weigh x) xs
shortest_more weigh need x xs h = grind (arith, nat_tests)
