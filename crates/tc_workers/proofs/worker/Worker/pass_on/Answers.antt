use Rattle.std.proofs.Common.{refl}
use Rattle.tc_workers.proofs.Changing.{changes-same, changes-append}
use Rattle.tc_workers.proofs.worker.Worker.pass_on.Goals as goal

pub loop-init : goal.loop-init
loop-init g c = changes-same refl

pub loop-preserved : goal.loop-preserved
loop-preserved g c = changes-append c.loop.invariant c.pass_next.ensures
