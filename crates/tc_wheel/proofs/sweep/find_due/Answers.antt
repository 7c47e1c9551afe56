use Rattle.std.proofs.Common.{arith}
use Rattle.tc_wheel.proofs.Walked.{listed_next}
use Rattle.tc_wheel.proofs.sweep.find_due.Goals as goal

pub returns-clause-found : goal.returns-clause-found
returns-clause-found c =
    listed_next c.args.now c.args.moment c.loop-left.left c.loop-left.nodes c.next_due-2.result
    (omega arith) c.requires.order c.loop-left.invariant.swept c.next_due-2.ensures
