-- A script goes on behind a line that is taken, and ends at one that is not.
use Rattle.std.specs.Prelude.{slice_get, ◌==◌}
use Rattle.std.specs.List.{list_any}
use Rattle.std.proofs.Common.{◌≡◌, ℕ, zero, suc, ◌+◌, ◌<◌, ◌≤◌, Bool, true, false, List, [], ◌∷◌, length, Option, Some, None}
use Rattle.std.proofs.Common.{refl, sym, ◌∙◌, ap, arith}
use Rattle.tc_model.specs.Connection.{user_at}
use Rattle.tc_users.specs.declared.users.UserSpec.{UserSpec}
use Rattle.tc_script.specs.Plans.{Plan, Good, Bad, with_text, with_largest_for, with_largest_line, reading_next, reading_from}
use Rattle.tc_script.specs.Refusing.{taken_as}

-- a line that is taken leaves a plan
taken : (o : Option Plan) (b : Bool) (q : Plan) → o ≡ taken_as b q → b ≡ true → o ≡ Some q
taken o true q e h = e
taken o false q e h = cc

not_taken : (o : Option Plan) (b : Bool) (q : Plan) → o ≡ taken_as b q → b ≡ false → o ≡ None
not_taken o true q e h = cc
not_taken o false q e h = e

pub reading-taken : (p q : Plan) (n : ℕ) (line : List ℕ) (lines : List (List ℕ)) (b : Bool) → with_text p line ≡ taken_as b q
    → b ≡ true → reading_from p n (line ∷ lines) ≡ reading_from q (n + 1) lines
unfolding reading_from
reading-taken p q n line lines b e h =
    ap (λ o. reading_next o n (λ r. reading_from r (n + 1) lines)) (taken (with_text p line) b q e h)

pub reading-refused : (p q : Plan) (n : ℕ) (line : List ℕ) (lines : List (List ℕ)) (b : Bool) → with_text p line ≡ taken_as b q
    → b ≡ false → reading_from p n (line ∷ lines) ≡ Bad n
unfolding reading_from
reading-refused p q n line lines b e h =
    ap (λ o. reading_next o n (λ r. reading_from r (n + 1) lines)) (not_taken (with_text p line) b q e h)

pub reading-end : (p : Plan) (n : ℕ) → reading_from p n [] ≡ Good p
unfolding reading_from
reading-end p n = refl

slice_get-within : (rows : List UserSpec) (i : ℕ) (row : UserSpec) → slice_get rows i ≡ Some row → i < length rows
slice_get-within [] i row e = cc
slice_get-within (r ∷ rows) zero row e = omega arith
slice_get-within (r ∷ rows) (suc i) row e = omega (arith, slice_get-within rows i row e)

-- a user who has a row is there
pub user_at-known : (rows : List UserSpec) (user : ℕ) (row : UserSpec) → Some row ≡ user_at rows user
    → (0 < user) × (user ≤ length rows)
user_at-known rows zero row e = cc
user_at-known rows (suc i) row e = let h = slice_get-within rows i row (cc) in (omega arith, omega (arith, h))

-- no second largest item is taken
pub largest-sized : (p : Plan) (user most : ℕ) (row : UserSpec) → Some row ≡ user_at p.users user
    → list_any (λ u. u == user) p.sized ≡ true → with_largest_line p user most ≡ None
largest-sized p user most row at e = ap (with_largest_for p user most) (sym at) ∙ rw e refl
