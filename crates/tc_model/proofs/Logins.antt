-- What the table says of a login is what a table of that row alone says.
use Rattle.std.specs.Prelude.{option_map}
use Rattle.std.proofs.Common.{◌≡◌, ℕ, zero, suc, true, false, List, [], ◌∷◌, Option, Some, None, slice_get, refl, arith}
use Rattle.std.proofs.lemmas.Bool.{cases_Bool}
use Rattle.tc_model.specs.Connection.{user_at, first_row, login}
use Rattle.tc_model.specs.Server.{Machine}

pub same_some : {A : Type 0} (x y : A) → Some x ≡ Some y → x ≡ y
same_some x y e = grind arith

pub suc_never_zero : (o : Option ℕ) → option_map suc o ≡ Some zero → ⊥
suc_never_zero None e = grind arith
suc_never_zero (Some n) e = grind arith

pub suc_of_some : (o : Option ℕ) (i : ℕ) → option_map suc o ≡ Some (suc i) → o ≡ Some i
suc_of_some None i e = grind arith
suc_of_some (Some n) i e = grind arith

pub suc_of_none : (o : Option ℕ) → option_map suc o ≡ None → o ≡ None
suc_of_none None e = refl
suc_of_none (Some n) e = grind arith

pub opens-first_row : (M : Machine) (rows : List M.protocol.Row) (i : ℕ) (row : M.protocol.Row) (text : List ℕ)
    → slice_get rows i ≡ Some row → first_row M.protocol rows text ≡ Some i → M.protocol.opens row text ≡ true
opens-first_row M [] i row text at h = grind arith
opens-first_row M (r ∷ rows) zero row text at h =
    grind (arith, same_some r row at, cases_Bool (M.protocol.opens r text), suc_never_zero (first_row M.protocol rows text))
opens-first_row M (r ∷ rows) (suc i) row text at h =
    grind (
      arith,
      cases_Bool (M.protocol.opens r text),
      suc_of_some (first_row M.protocol rows text) i,
      opens-first_row M rows i row text at,
    )

pub opens-no_row : (M : Machine) (rows : List M.protocol.Row) (i : ℕ) (row : M.protocol.Row) (text : List ℕ)
    → slice_get rows i ≡ Some row → first_row M.protocol rows text ≡ None → M.protocol.opens row text ≡ false
opens-no_row M [] i row text at h = grind arith
opens-no_row M (r ∷ rows) zero row text at h = grind (arith, same_some r row at, cases_Bool (M.protocol.opens r text))
opens-no_row M (r ∷ rows) (suc i) row text at h =
    grind (
      arith,
      cases_Bool (M.protocol.opens r text),
      suc_of_none (first_row M.protocol rows text),
      opens-no_row M rows i row text at,
    )

-- what the table says of a user is what a table of that row alone says
pub login-same_row : (M : Machine) (rows : List M.protocol.Row) (u : ℕ) (row : M.protocol.Row) (text : List ℕ)
    → user_at rows u ≡ Some row → login M.protocol rows text ≡ Some u → login M.protocol (row ∷ []) text ≡ Some 1
login-same_row M rows zero row text at h = grind arith
login-same_row M rows (suc i) row text at h = rw (opens-first_row M rows i row text at (suc_of_some _ _ h))

pub login-no_row : (M : Machine) (rows : List M.protocol.Row) (u : ℕ) (row : M.protocol.Row) (text : List ℕ)
    → user_at rows u ≡ Some row → login M.protocol rows text ≡ None → login M.protocol (row ∷ []) text ≡ None
login-no_row M rows zero row text at h = grind arith
login-no_row M rows (suc i) row text at h = rw (opens-no_row M rows i row text at (suc_of_none _ h))
