use Rattle.std.proofs.Common.{arith}
use Rattle.tc_plain.proofs.Sound.{held_light}
use Rattle.tc_plain.proofs.Used.{held_le}
use Rattle.tc_partition.proofs.live_slots.LiveSlots.look_at.Goals as goal

pub touch-requires-clause-light : goal.touch-requires-clause-light
touch-requires-clause-light c =
    λ e h. (held_light c.args.self.now.held.limits c.args.key.now c.args.self.now.held.areas e h c.requires.sound).1

pub touch-requires-clause-fits : goal.touch-requires-clause-fits
touch-requires-clause-fits c = λ e h. omega (arith, held_le c.args.key.now c.args.self.now.held.areas e h, c.requires.weight)

pub access-requires-clause-light : goal.access-requires-clause-light
access-requires-clause-light c =
    λ e h. (held_light c.args.self.now.held.limits c.args.key.now c.args.self.now.held.areas e h c.requires.sound).1

pub access-requires-clause-fits : goal.access-requires-clause-fits
access-requires-clause-fits c = λ e h. omega (arith, held_le c.args.key.now c.args.self.now.held.areas e h, c.requires.weight)
