use Rattle.std.proofs.Common.{sym, subst}
use Rattle.tc_sketch.specs.Steps.{AreSaturated}
use Rattle.tc_sketch.proofs.FullCounters.{saturated_one_more, saturated_none}
use Rattle.tc_sketch.proofs.sparing_sketch.SparingSketch.count_one.Goals as goal

pub invariant_of-self : goal.invariant_of-self
invariant_of-self c = saturated_none _ _ c.clear.ensures

pub invariant_of-self-else-count_one : goal.invariant_of-self-else-count_one
invariant_of-self-else-count_one c =
    subst (AreSaturated c.self.inside.saturated) (sym (c.count_one.ensures.kept c.if-count_one.false))
    (saturated_one_more c.self.inside.saturated c.self.inside.sketch c.self.invariant)
