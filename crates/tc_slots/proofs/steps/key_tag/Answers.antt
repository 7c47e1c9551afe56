use Rattle.std.proofs.Common.{rules}
use Rattle.tc_slots.specs.Agreement.{tag_of}
use Rattle.tc_slots.proofs.steps.key_tag.Goals as goal

pub returns : goal.returns
unfolding tag_of
returns c = search rules
