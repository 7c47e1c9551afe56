use Rattle.std.proofs.Common.{ap, arith}
use Rattle.tc_slru.specs.Slots.{placed}
use Rattle.tc_slru.specs.declared.area.Area.TheVariants.{Protected}
use Rattle.tc_slru.proofs.Lasts.{last_total}
use Rattle.tc_slru.proofs.Holding.{holding_moves, holding_ends}
use Rattle.tc_slru.proofs.settle.demote.Goals as goal

pub move_to-requires-clause-fits : goal.move_to-requires-clause-fits
move_to-requires-clause-fits c =
    omega (
      arith,
      last_total (placed c.last-last.result.slot.0 c.last-last.result.weight) Protected c.loop-areas.areas.areas
          c.last-last.ensures,
      c.loop-areas.invariant.sum,
    )

pub loop-areas-preserved : goal.loop-areas-preserved
loop-areas-preserved c =
    holding_moves c.args.limit c.args.areas.now c.loop-areas.areas c.move_to.new.self
    (placed c.last-last.result.slot.0 c.last-last.result.weight) (omega (arith, c.sizes.ensures.protected.weight))
    c.last-last.ensures c.move_to.ensures c.loop-areas.invariant

pub returns : goal.returns
returns c =
    holding_ends c.args.limit c.args.areas.now c.loop-areas.areas
    (omega (arith, c.sizes.ensures.protected.weight)) c.loop-areas.invariant
