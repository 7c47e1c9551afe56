use Rattle.tc_plain.proofs.Sound.{hit_drops_nothing}
use Rattle.tc_plain.proofs.Stays.{stays_sound}
use Rattle.tc_plain.proofs.laws.soundness.Goals as goal

pub returns-clause-stays : goal.returns-clause-stays
returns-clause-stays c = stays_sound

pub returns-clause-hits : goal.returns-clause-hits
returns-clause-hits c = hit_drops_nothing
