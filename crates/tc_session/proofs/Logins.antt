-- The first row that a login opens is the first place whose row passes the test.
use Rattle.std.specs.Prelude.{option_map, suc}
use Rattle.std.proofs.Common.{◌≡◌, ℕ, zero, cond, List, [], ◌∷◌, Some, refl, ap}
use Rattle.tc_model.specs.Connection.{first_row, login}
use Rattle.tc_model.specs.Place.{first_place}
use Rattle.tc_users.specs.declared.users.UserSpec.{UserSpec}
use Rattle.tc_users.specs.Login.{opens}
use Rattle.tc_session.specs.TextProtocol.{text_protocol}

first_row-first_place : (rows : List UserSpec) (text : List ℕ)
    → first_place (λ row. opens row text) rows ≡ first_row text_protocol rows text
first_row-first_place [] text = refl
first_row-first_place (row ∷ rows) text =
    ap (λ o. cond (opens row text) (Some zero) (option_map suc o)) (first_row-first_place rows text)

-- the user of the first place whose row a login opens is the one whom it logs in
pub login_by_place : (rows : List UserSpec) (text : List ℕ)
    → option_map suc (first_place (λ row. opens row text) rows) ≡ login text_protocol rows text
login_by_place rows text = ap (option_map suc) (first_row-first_place rows text)
