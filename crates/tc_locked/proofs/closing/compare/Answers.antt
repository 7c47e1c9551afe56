use Rattle.tc_locked.proofs.TableSteps.{ties_allows}
use Rattle.tc_locked.proofs.closing.compare.Goals as goal

pub load-requires : goal.load-requires
load-requires c = (c.requires.0, c.requires.1, ties_allows _ c.args.all.now.id c.args.all.now.me 0)
