use Rattle.tc_wheel.proofs.Turned.{room_of}
use Rattle.tc_wheel.proofs.wheel.Wheel.slots.Goals as goal

pub returns : goal.returns
returns c =
    room_of c.self.inside.nodes c.self.inside.moment c.args.self.now c.slots.result c.self.view_is c.self.invariant.swept
    c.slots.ensures
