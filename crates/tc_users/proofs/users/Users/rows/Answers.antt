use Rattle.tc_users.proofs.FirstFault.{All-IsSoundRow-from_first_fault}
use Rattle.tc_users.proofs.users.Users.rows.Goals as goal

pub returns-clause-sound : goal.returns-clause-sound
returns-clause-sound c = rw (← c.self.view_is) (All-IsSoundRow-from_first_fault c.self.inside.rows.items c.self.invariant)
