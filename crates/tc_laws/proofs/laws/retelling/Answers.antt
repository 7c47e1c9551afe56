use Rattle.tc_laws.proofs.Stories.{user-alone}
use Rattle.tc_laws.proofs.laws.retelling.Goals as goal

pub returns : goal.returns
returns c = user-alone
