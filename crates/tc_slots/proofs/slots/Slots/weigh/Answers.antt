use Rattle.std.proofs.Common.{ap, arith}
use Rattle.slab.specs.Slab.{get as slab_get}
use Rattle.tc_model.specs.Areas.{total}
use Rattle.tc_plain.specs.Entries.{weight}
use Rattle.tc_slru.specs.declared.lists.Weights.{Weights}
use Rattle.tc_slots.specs.Held.{Held}
use Rattle.tc_slots.proofs.Moves.{total_weighs}
use Rattle.tc_slots.proofs.slots.Slots.weigh.Goals as goal

pub overflow_add-result : goal.overflow_add-result
overflow_add-result c =
    let i = c.self.inside in
    omega (
      arith,
      total_weighs (slab_get i.entries) i.lists.areas c.self.invariant.agree.weighed,
      ap (λ (z : Held). total weight z.areas) c.self.view_is,
      ap (λ (z : Weights). z.window) c.weights-weights.ensures,
      ap (λ (z : Weights). z.probation) c.weights-weights.ensures,
      ap (λ (z : Weights). z.protected) c.weights-weights.ensures,
    )

pub overflow_add-result-2 : goal.overflow_add-result-2
overflow_add-result-2 c =
    let i = c.self.inside in
    omega (
      arith,
      total_weighs (slab_get i.entries) i.lists.areas c.self.invariant.agree.weighed,
      ap (λ (z : Held). total weight z.areas) c.self.view_is,
      ap (λ (z : Weights). z.window) c.weights-weights.ensures,
      ap (λ (z : Weights). z.probation) c.weights-weights.ensures,
      ap (λ (z : Weights). z.protected) c.weights-weights.ensures,
    )

pub returns : goal.returns
returns c =
    let i = c.self.inside in
    omega (
      arith,
      total_weighs (slab_get i.entries) i.lists.areas c.self.invariant.agree.weighed,
      ap (λ (z : Held). total weight z.areas) c.self.view_is,
      ap (λ (z : Weights). z.window) c.weights-weights.ensures,
      ap (λ (z : Weights). z.probation) c.weights-weights.ensures,
      ap (λ (z : Weights). z.protected) c.weights-weights.ensures,
    )
