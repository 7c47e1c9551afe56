use Rattle.std.proofs.Common.{◌∙◌}
use Rattle.tc_workers.proofs.Visiting.{serves-append}
use Rattle.tc_workers.proofs.worker.Worker.take_all_in.Goals as goal

pub loop-at-preserved : goal.loop-at-preserved
loop-at-preserved g c = (
  c.begin_visit.ensures.listed ∙ c.loop-at.invariant.0,
  λ rows. serves-append (c.loop-at.invariant.1 rows) (c.begin_visit.ensures.serves rows),
)
