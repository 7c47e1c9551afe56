use Rattle.tc_feed.proofs.Lines.{found_in_more, cut_anywhere}
use Rattle.tc_feed.proofs.laws.cutting.Goals as goal

pub returns-clause-found : goal.returns-clause-found
returns-clause-found c = found_in_more

pub returns-clause-pieces : goal.returns-clause-pieces
returns-clause-pieces c = cut_anywhere
