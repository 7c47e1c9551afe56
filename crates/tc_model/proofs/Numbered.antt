-- What stands under a number, and what stands at a user's place, after a change.
use Rattle.std.specs.Prelude.{slice_set}
use Rattle.std.proofs.Common.{◌≡◌, ◌≢◌, ℕ, zero, suc, List, [], ◌∷◌, Some, slice_get, refl, ap, arith}
use Rattle.std.proofs.lemmas.Bool.Decides.{nat_tests}
use Rattle.tc_model.specs.Connection.{user_at, with_user}
use Rattle.tc_model.specs.Server.{numbered, with_numbered}

pub numbered-same : {L : Type 0} (c : ℕ) (l : L) (es : List (ℕ × L)) → numbered c (with_numbered c l es) ≡ Some l
numbered-same c l [] = grind (arith, nat_tests)
numbered-same c l (e ∷ es) = grind (arith, nat_tests, numbered-same c l es)

pub numbered-other : {L : Type 0} (c d : ℕ) (l : L) (es : List (ℕ × L)) → c ≢ d
    → numbered c (with_numbered d l es) ≡ numbered c es
numbered-other c d l [] ne = grind (arith, nat_tests)
numbered-other c d l (e ∷ es) ne = grind (arith, nat_tests, numbered-other c d l es ne)

pub slice_get-slice_set_same : {A : Type 0} (xs : List A) (i : ℕ) (x y : A) → slice_get xs i ≡ Some y
    → slice_get (slice_set xs i x) i ≡ Some x
slice_get-slice_set_same [] i x y h = grind arith
slice_get-slice_set_same (a ∷ xs) zero x y h = refl
slice_get-slice_set_same (a ∷ xs) (suc i) x y h = slice_get-slice_set_same xs i x y h

pub slice_get-slice_set_other : {A : Type 0} (xs : List A) (i j : ℕ) (x : A) → i ≢ j
    → slice_get (slice_set xs j x) i ≡ slice_get xs i
slice_get-slice_set_other [] i j x ne = refl
slice_get-slice_set_other (a ∷ xs) zero zero x ne = absurd (ne refl)
slice_get-slice_set_other (a ∷ xs) zero (suc j) x ne = refl
slice_get-slice_set_other (a ∷ xs) (suc i) zero x ne = refl
slice_get-slice_set_other (a ∷ xs) (suc i) (suc j) x ne = slice_get-slice_set_other xs i j x (λ e. ne (ap suc e))

pub user_at-same : {A : Type 0} (xs : List A) (u : ℕ) (x y : A) → user_at xs u ≡ Some y → user_at (with_user xs u x) u ≡ Some x
user_at-same xs zero x y h = grind arith
user_at-same xs (suc i) x y h = slice_get-slice_set_same xs i x y h

pub user_at-other : {A : Type 0} (xs : List A) (u v : ℕ) (x : A) → u ≢ v → user_at (with_user xs v x) u ≡ user_at xs u
user_at-other xs zero zero x ne = refl
user_at-other xs zero (suc j) x ne = refl
user_at-other xs (suc i) zero x ne = refl
user_at-other xs (suc i) (suc j) x ne = slice_get-slice_set_other xs i j x (λ e. ne (ap suc e))
