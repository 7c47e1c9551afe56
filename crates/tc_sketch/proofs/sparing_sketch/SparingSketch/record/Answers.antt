use Rattle.std.proofs.Common.{◌≡◌, sym, ap, ◌∙◌, subst}
use Rattle.tc_sketch.specs.Sketch.{Sketch, aged}
use Rattle.tc_sketch.specs.Steps.{one_more, counted_in, AreSaturated}
use Rattle.tc_sketch.proofs.Records.{counts_records}
use Rattle.tc_sketch.proofs.FullCounters.{counted_in-full, found_full, recorded_by_steps}
use Rattle.tc_sketch.proofs.sparing_sketch.SparingSketch.record.Goals as goal
use Rattle.tc_sketch.proofs.sparing_sketch.SparingSketch.record.Goals.{then-not-has, else-not-has}

pub returns-clause-recorded : goal.returns-clause-recorded
returns-clause-recorded c =
    let now = c.args.self.now in
    let counted : c.if-not-has.self ≡ counted_in c.args.hash now =
    elim c.if-not-has.branch [
      | then-not-has w ↦ w.self-is ∙ w.raise.ensures
      | else-not-has w ↦
          let hit = c.has.ensures w.if-not-has.false in
          let noted = subst (AreSaturated c.self.inside.saturated) c.self.view_is c.self.invariant in
          let full = found_full c.self.inside.saturated now c.args.hash hit.1.0 noted hit.0 hit.1.1 in
          w.self-is ∙ sym (counted_in-full now c.args.hash full)
    ] in
    c.count_one.ensures ∙ ap (λ (t : Sketch). aged (one_more t)) counted ∙ recorded_by_steps now c.args.hash

pub returns-clause-counting : goal.returns-clause-counting
returns-clause-counting c = counts_records _
