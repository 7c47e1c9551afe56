use Rattle.tc_plain.proofs.Cells.{is_fresh}
use Rattle.tc_plain.proofs.laws.freshness.Goals as goal

pub returns : goal.returns
returns c = is_fresh
