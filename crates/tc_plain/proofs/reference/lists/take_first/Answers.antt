use Rattle.std.proofs.Common.{◌≡◌, Some, None, sym, ◌∙◌, ap}
use Rattle.tc_model.specs.Areas.{without}
use Rattle.tc_model.specs.Place.{first_place}
use Rattle.tc_plain.specs.Entries.{has_key}
use Rattle.tc_plain.proofs.Gone.{find-first_place, find-no_place, without-missed, without-remove}
use Rattle.tc_plain.proofs.reference.lists.take_first.Goals as goal

pub returns-in_err-place-clause-entry : goal.returns-in_err-place-clause-entry
returns-in_err-place-clause-entry c =
    let none : first_place (has_key c.args.key.now) c.args.items.now.items ≡ None =
    ap (first_place (has_key c.args.key.now)) (sym c.deref.ensures.value) ∙ sym c.in_err-place.ensures.place in
    c.from_residual.ensures ∙ sym (find-no_place (has_key c.args.key.now) c.args.items.now.items none)

pub returns-in_err-place-clause-items : goal.returns-in_err-place-clause-items
returns-in_err-place-clause-items c =
    let none : first_place (has_key c.args.key.now) c.args.items.now.items ≡ None =
    ap (first_place (has_key c.args.key.now)) (sym c.deref.ensures.value) ∙ sym c.in_err-place.ensures.place in
    sym (without-missed (has_key c.args.key.now) c.args.items.now.items
    (find-no_place (has_key c.args.key.now) c.args.items.now.items none))

pub returns-clause-entry : goal.returns-clause-entry
returns-clause-entry c =
    let at : first_place (has_key c.args.key.now) c.args.items.now.items ≡ Some c.in_ok-place.place =
    ap (first_place (has_key c.args.key.now)) (sym c.deref.ensures.value) ∙ sym c.in_ok-place.ensures.place in
    ap Some c.remove-entry.ensures.value
    ∙ sym (find-first_place (has_key c.args.key.now) c.args.items.now.items c.in_ok-place.place c.remove-entry.result at)

pub returns-clause-items : goal.returns-clause-items
returns-clause-items c =
    let at : first_place (has_key c.args.key.now) c.args.items.now.items ≡ Some c.in_ok-place.place =
    ap (first_place (has_key c.args.key.now)) (sym c.deref.ensures.value) ∙ sym c.in_ok-place.ensures.place in
    c.take_out.ensures.items
    ∙ (ap (without (has_key c.args.key.now)) c.remove-entry.ensures.items
    ∙ without-remove (has_key c.args.key.now) c.args.items.now.items c.in_ok-place.place at)
