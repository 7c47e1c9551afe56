use Rattle.std.proofs.Common.{subst}
use Rattle.tc_slots.specs.Held.{FindsSlot}
use Rattle.tc_partition.proofs.live_slots.LiveSlots.look.Goals as goal

pub look_at-requires-clause-missed : goal.look_at-requires-clause-missed
look_at-requires-clause-missed c = λ none.
    (subst (λ place. FindsSlot place c.args.key.now c.args.self.now.held) none c.find-place.ensures).0
