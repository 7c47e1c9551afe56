use Rattle.std.proofs.Common.{◌+◌, take, Some, sym, ◌∙◌, ap}
use Rattle.std.proofs.lemmas.List.{take_rest}
use Rattle.std.specs.Prelude.{option_map}
use Rattle.tc_script.specs.Texts.{sides}
use Rattle.tc_script.proofs.fields.cut.Goals as goal

pub returns-in_err-place-clause-sides : goal.returns-in_err-place-clause-sides
returns-in_err-place-clause-sides c =
    rw c.from_residual.ensures (ap (option_map (sides c.args.text.now)) (sym c.in_err-place.ensures.place))

pub returns-clause-sides : goal.returns-clause-sides
returns-clause-sides c =
    let text = c.args.text.now in
    let place = c.in_ok-place.place in
    ap (option_map (sides text)) (sym c.in_ok-place.ensures.place)
    ∙ ap (λ rest. Some (take place text, rest)) (sym (take_rest text (place + 1)))
