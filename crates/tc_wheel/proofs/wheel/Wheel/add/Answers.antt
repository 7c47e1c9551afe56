use Rattle.std.proofs.Common.{arith}
use Rattle.tc_wheel.proofs.Turned.{slot_within, added_by, list_place}
use Rattle.tc_wheel.proofs.wheel.Wheel.add.Goals as goal

pub place-at-requires : goal.place-at-requires
place-at-requires c = (
  omega arith,
  slot_within c.self.inside.nodes c.self.inside.moment c.args.slot.0 c.args.self.now c.self.view_is c.requires.reserved
      c.self.invariant.swept,
)

pub note-requires : goal.note-requires
note-requires c =
    rw c.place-at.ensures.node (
      omega arith,
      slot_within c.self.inside.nodes c.self.inside.moment c.args.slot.0 c.args.self.now c.self.view_is c.requires.reserved
          c.self.invariant.swept,
    )

pub link_behind-requires : goal.link_behind-requires
link_behind-requires c =
    let place = list_place c.self.inside.moment c.args.due c.list_of.result c.self.inside.nodes c.list_of.ensures
    c.self.invariant.swept in
    rw (c.note.ensures, c.place-at.ensures.node) (
      omega arith,
      (
        place.own,
        (
          slot_within c.self.inside.nodes c.self.inside.moment c.args.slot.0 c.args.self.now c.self.view_is c.requires.reserved
              c.self.invariant.swept,
          place.behind,
        ),
      ),
    )

pub invariant_of-self : goal.invariant_of-self
invariant_of-self c = record {
  passed = c.self.invariant.passed;
  swept =
      (added_by c.self.inside.nodes c.note.new.self c.link_behind.new.self c.self.inside.moment c.args.slot.0 c.args.due
      c.list_of.result c.place-at.result c.args.self.now c.place-at.ensures.node c.list_of.ensures
      (rw c.at.ensures at c.note.ensures) c.link_behind.ensures c.self.view_is c.requires.reserved c.requires.free
      c.self.invariant.swept).0;
}

pub returns : goal.returns
returns c =
    (added_by c.self.inside.nodes c.note.new.self c.link_behind.new.self c.self.inside.moment c.args.slot.0 c.args.due
    c.list_of.result c.place-at.result c.args.self.now c.place-at.ensures.node c.list_of.ensures
    (rw c.at.ensures at c.note.ensures) c.link_behind.ensures c.self.view_is c.requires.reserved c.requires.free
    c.self.invariant.swept).1
