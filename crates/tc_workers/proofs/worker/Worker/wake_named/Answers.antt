use Rattle.std.proofs.Common.{refl}
use Rattle.tc_workers.proofs.Changing.{changes-same, changes-append, changes-dropped}
use Rattle.tc_workers.proofs.worker.Worker.wake_named.Goals as goal

pub loop-init : goal.loop-init
loop-init g c = changes-same refl

pub loop-preserved : goal.loop-preserved
loop-preserved g c = changes-append c.loop.invariant (changes-dropped _ c.wake.ensures)
