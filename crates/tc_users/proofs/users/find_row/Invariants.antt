use Rattle.std.proofs.Common.{◌≡◌, take, None}
use Rattle.tc_model.specs.Place.{first_place}
use Rattle.tc_users.specs.Login.{opens}
use Rattle.tc_users.proofs.users.find_row.Given as goal

abbrev pub invariant-loop-i : goal.invariant-loop-i
invariant-loop-i l = first_place (λ row. opens row l.text) (take l.i l.rows) ≡ None
