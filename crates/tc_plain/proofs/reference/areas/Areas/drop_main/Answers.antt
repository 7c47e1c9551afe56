use Rattle.tc_plain.proofs.Dropping.{dropping_moves, dropping_ends}
use Rattle.tc_plain.specs.AreaLists.{areas_of}
use Rattle.std.proofs.Common.{arith}
use Rattle.tc_plain.proofs.reference.areas.Areas.drop_main.Goals as goal

pub loop-last-preserved : goal.loop-last-preserved
loop-last-preserved c =
    dropping_moves c.args.need c.args.evictions c.loop-last.need c.loop-last.evictions _ _ c.args.self.now c.loop-last.self _
    c.in-Some.last c.loop-last.invariant c.in-Some.ensures.popped.0 c.in-Some.ensures.popped.1
    (omega (arith, c.saturating_sub-need.ensures, c.weight.ensures.value)) c.saturating_add-evictions.ensures
    c.in-Some.ensures.room

pub returns-clause-areas : goal.returns-clause-areas
returns-clause-areas c =
    (dropping_ends c.args.need c.args.evictions c.loop-last.need c.loop-last.evictions c.args.self.now c.loop-last.self
    (areas_of c.pop_main.new.self) c.loop-last.invariant c.in_default.ensures.popped.0 c.in_default.ensures.popped.1).0

pub returns-clause-counted : goal.returns-clause-counted
returns-clause-counted c =
    (dropping_ends c.args.need c.args.evictions c.loop-last.need c.loop-last.evictions c.args.self.now c.loop-last.self
    (areas_of c.pop_main.new.self) c.loop-last.invariant c.in_default.ensures.popped.0 c.in_default.ensures.popped.1).1

pub returns-clause-room : goal.returns-clause-room
returns-clause-room c = λ spare h. c.in_default.ensures.room spare (c.loop-last.invariant.room spare h)
