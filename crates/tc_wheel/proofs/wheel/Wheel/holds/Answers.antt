use Rattle.std.specs.Prelude.{None, is_some}
use Rattle.std.proofs.Common.{arith, ◌∙◌, ap}
use Rattle.tc_wheel.proofs.Turned.{beyond_held, some_held}
use Rattle.tc_wheel.proofs.wheel.Wheel.holds.Goals as goal

pub returns-then-slot-slots : goal.returns-then-slot-slots
returns-then-slot-slots c =
    beyond_held c.self.inside.nodes c.self.inside.moment c.args.self.now c.args.slot.0 c.self.view_is c.self.invariant.swept
    (omega arith)

pub returns : goal.returns
returns c =
    some_held c.self.inside.nodes c.self.inside.moment c.args.self.now c.args.slot.0 c.place-at.result c.node.result.note
    c.is_some.result c.self.view_is c.place-at.ensures.node (c.node.ensures.note None)
    (c.is_some.ensures ∙ ap is_some c.moment.ensures)
