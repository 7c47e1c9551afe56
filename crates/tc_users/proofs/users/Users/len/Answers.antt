use Rattle.tc_users.proofs.FirstFault.{length-from_first_fault}
use Rattle.tc_users.proofs.users.Users.len.Goals as goal

pub returns-clause-most : goal.returns-clause-most
returns-clause-most c = rw (← c.self.view_is) (length-from_first_fault c.self.inside.rows.items c.self.invariant)
