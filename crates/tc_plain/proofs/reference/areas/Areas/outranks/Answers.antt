use Rattle.std.specs.Prelude.{sum_by, ◌-◌}
use Rattle.std.proofs.Common.{◌∙◌, ap}
use Rattle.tc_sketch.specs.Sketch.{freq}
use Rattle.tc_plain.specs.Entries.{weight}
use Rattle.tc_plain.specs.AreaLists.{areas_of}
use Rattle.tc_plain.proofs.Dropping.{outranks_second, outranks_first}
use Rattle.tc_plain.proofs.reference.areas.Areas.outranks.Goals as goal

pub returns-then-outranked : goal.returns-then-outranked
returns-then-outranked c =
    outranks_second c.args.sketch.now _ c.args.need c.saturating_sub-rest.result _ _
    (areas_of c.args.self.now) c.args.candidate.now
    (c.freq-level.ensures.value ∙ ap (freq c.args.sketch.now) c.fnv_hash.ensures)
    c.deref-2.ensures.value _
    (c.saturating_sub-rest.ensures ∙ ap (λ n. c.args.need - n) (c.weigh_all.ensures ∙ ap (sum_by weight) c.deref.ensures.value))
    c.deref-then-outranked.ensures.value c.if-outranked.ensures c.outranked-then-outranked.ensures

pub returns-else-outranked : goal.returns-else-outranked
returns-else-outranked c =
    outranks_first c.args.sketch.now _ c.args.need 0 _ c.deref-2.result.now (areas_of c.args.self.now) c.args.candidate.now
    (c.freq-level.ensures.value ∙ ap (freq c.args.sketch.now) c.fnv_hash.ensures)
    c.deref-2.ensures.value _ c.if-outranked.false c.outranked.ensures
