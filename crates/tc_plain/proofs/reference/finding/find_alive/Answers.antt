use Rattle.std.proofs.Common.{sym, ◌∙◌, ap, Some}
use Rattle.tc_plain.proofs.Found.{find-found, find-missed}
use Rattle.tc_plain.proofs.reference.finding.find_alive.Goals as goal

pub returns-in_err-place : goal.returns-in_err-place
returns-in_err-place c =
    rw c.from_residual.ensures (find-missed c.args.moment c.args.key.now c.args.items.now (sym c.in_err-place.ensures.place))

pub returns : goal.returns
returns c =
    find-found c.args.moment c.args.key.now c.args.items.now c.index-items-place.result c.in_ok-place.place
    (sym c.in_ok-place.ensures.place)
    ∙ ap Some (sym c.index-items-place.is)
