use Rattle.std.proofs.Common.{subst}
use Rattle.tc_slots.specs.Held.{DropsEntry}
use Rattle.tc_slots.proofs.Drops.{settling_ends}
use Rattle.tc_slots.proofs.slots.Slots.settle.Goals as goal

pub returns-clause-counted : goal.returns-clause-counted
returns-clause-counted c =
    (settling_ends c.args.sketch.now c.args.self.now c.loop-evictions.self c.settle_next.new.self c.args.evictions
    c.loop-evictions.evictions c.loop-evictions.invariant
    (subst (λ b. DropsEntry b c.args.sketch.now c.loop-evictions.self c.settle_next.new.self) c.loop-evictions-test.false
    c.settle_next.ensures.next)).1
