use Rattle.std.proofs.Common.{◌≡◌, slice_get, option_copied, arith}
use Rattle.std.proofs.lemmas.Grind.{common_steps}
use Rattle.std.proofs.lemmas.Option.{gets}
use Rattle.tc_users.specs.Faults.{IsSoundRow}
use Rattle.tc_users.proofs.FirstFault.{All-slice_get, All-IsSoundRow-from_first_fault}
use Rattle.tc_users.proofs.users.Users.spec.Goals as goal

pub returns-clause-sound : goal.returns-clause-sound
returns-clause-sound c =
    let rows = c.self.inside.rows.items in
    let e : option_copied c.get.result ≡ slice_get rows c.in_ok-place.place = grind (arith, common_steps, gets) in
    rw e (All-slice_get IsSoundRow rows c.in_ok-place.place (All-IsSoundRow-from_first_fault rows c.self.invariant))
