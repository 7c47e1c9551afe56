use Rattle.tc_locked.proofs.HallBooks.{kept_maintain}
use Rattle.tc_locked.proofs.hall_book.HallBook.maintain.Goals as goal

pub invariant_of-self : goal.invariant_of-self
invariant_of-self g c =
    (c.self.invariant.0, c.self.invariant.1, rw c.maintain.ensures (kept_maintain _ _ c.args.now c.self.invariant.2))
