use Rattle.std.proofs.Common.{◌∙◌, ap, sym, arith}
use Rattle.tc_wheel.specs.Dues.{Dues, removed}
use Rattle.tc_wheel.proofs.Turned.{cut_within, held_due, removed_by, removed_free}
use Rattle.tc_wheel.proofs.wheel.Wheel.remove.Goals as goal

pub place-at-requires : goal.place-at-requires
place-at-requires c =
    let h = held_due c.self.inside.nodes c.self.inside.moment c.args.slot.0 c.args.self.now c.self.view_is
    (sym c.holds.ensures ∙ c.if-holds.true) c.self.invariant.swept in (omega arith, h.1.place.own)

pub unlink-requires : goal.unlink-requires
unlink-requires c =
    let h = held_due c.self.inside.nodes c.self.inside.moment c.args.slot.0 c.args.self.now c.self.view_is
    (sym c.holds.ensures ∙ c.if-holds.true) c.self.invariant.swept in
    (omega arith, rw c.place-at.ensures.node h.1.place)

pub note-requires : goal.note-requires
note-requires c =
    let h = held_due c.self.inside.nodes c.self.inside.moment c.args.slot.0 c.args.self.now c.self.view_is
    (sym c.holds.ensures ∙ c.if-holds.true) c.self.invariant.swept in (
      omega arith,
      cut_within c.self.inside.nodes c.unlink.new.self c.place-at.result c.unlink.ensures
          (rw c.place-at.ensures.node h.1.place.own),
    )

pub invariant_of-self : goal.invariant_of-self
invariant_of-self c =
    let h = held_due c.self.inside.nodes c.self.inside.moment c.args.slot.0 c.args.self.now c.self.view_is
    (sym c.holds.ensures ∙ c.if-holds.true) c.self.invariant.swept in
    record {
      passed = c.self.invariant.passed;
      swept = (removed_by c.self.inside.nodes c.unlink.new.self c.note.new.self c.self.inside.moment c.args.slot.0 h.0
          c.place-at.result c.place-at.ensures.node c.unlink.ensures c.note.ensures h.1.own_due c.self.invariant.swept).0;
    }

pub returns-then-holds : goal.returns-then-holds
returns-then-holds c =
    let h = held_due c.self.inside.nodes c.self.inside.moment c.args.slot.0 c.args.self.now c.self.view_is
    (sym c.holds.ensures ∙ c.if-holds.true) c.self.invariant.swept in
    (removed_by c.self.inside.nodes c.unlink.new.self c.note.new.self c.self.inside.moment c.args.slot.0 h.0 c.place-at.result
    c.place-at.ensures.node c.unlink.ensures c.note.ensures h.1.own_due c.self.invariant.swept).1
    ∙ ap (λ (x : Dues). removed c.args.slot.0 x) c.self.view_is

pub returns-else-holds : goal.returns-else-holds
returns-else-holds c = removed_free c.args.slot.0 c.args.self.now (sym c.holds.ensures ∙ c.if-holds.false)
