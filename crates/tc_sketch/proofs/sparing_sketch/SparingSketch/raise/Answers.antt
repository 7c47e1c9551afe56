use Rattle.std.proofs.Common.{◌≤◌, sym, ◌∙◌, ap, subst, arith}
use Rattle.tc_sketch.specs.Sketch.{Sketch, freq}
use Rattle.tc_sketch.specs.Steps.{counted_in, AreSaturated}
use Rattle.tc_sketch.proofs.FullCounters.{counted_in-full, saturated_counted_in}
use Rattle.tc_sketch.proofs.sparing_sketch.SparingSketch.raise.Goals as goal

pub returns-then-freq-eq-MOST_COUNTED : goal.returns-then-freq-eq-MOST_COUNTED
returns-then-freq-eq-MOST_COUNTED c =
    let s = c.self.inside.sketch in
    let full : 15 ≤ freq s c.args.hash = omega (arith, c.freq.ensures.value, c.if-freq-eq-MOST_COUNTED.true) in
    sym (counted_in-full s c.args.hash full) ∙ ap (counted_in c.args.hash) c.self.view_is

pub invariant_of-self-2 : goal.invariant_of-self-2
invariant_of-self-2 c =
    subst (AreSaturated c.self.inside.saturated) (sym c.raise.ensures)
    (saturated_counted_in c.self.inside.saturated c.self.inside.sketch c.args.hash c.self.invariant)
