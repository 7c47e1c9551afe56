use Rattle.slab.specs.Slab.{get as slab_get}
use Rattle.tc_plain.proofs.Copies.{copied_step}
use Rattle.tc_slots.proofs.steps.copy_at.Goals as goal

pub loop-i-preserved : goal.loop-i-preserved
loop-i-preserved c =
    copied_step (slab_get c.args.entries.now) c.args.slots.now c.loop-i.i _ _ _ c.loop-i-test.true c.loop-i.invariant
    c.in_ok-add_copy.ensures
