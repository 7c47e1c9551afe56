use Rattle.std.proofs.Common.{refl}
use Rattle.tc_workers.proofs.Visiting.{serves-same}
use Rattle.tc_workers.proofs.worker.Worker.end_visit.Goals as goal

pub returns-then-waits-clause-serves : goal.returns-then-waits-clause-serves
returns-then-waits-clause-serves g c = λ rows. serves-same refl
