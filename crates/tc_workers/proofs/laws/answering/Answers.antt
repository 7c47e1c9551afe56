use Rattle.tc_workers.proofs.Answered.{crew-answers}
use Rattle.tc_workers.proofs.laws.answering.Goals as goal

pub returns : goal.returns
returns c = crew-answers
