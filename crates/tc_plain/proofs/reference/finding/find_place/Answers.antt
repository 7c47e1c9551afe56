use Rattle.std.proofs.Common.{sym, ◌∙◌, ap}
use Rattle.tc_model.proofs.FirstPlace.{first_place-found, first_place-past}
use Rattle.tc_plain.proofs.Found.{is_found}
use Rattle.tc_plain.proofs.reference.finding.find_place.Goals as goal

pub returns-then-is_found-clause-place : goal.returns-then-is_found-clause-place
returns-then-is_found-clause-place c =
    let found = is_found c.args.moment c.args.key.now in
    sym (first_place-found found c.args.items.now c.loop-i.i c.index-items-i.result c.loop-i-test.true c.loop-i.invariant
    (ap found (sym c.index-items-i.is) ∙ (sym c.is_found.ensures ∙ c.if-is_found.true)))

pub loop-i-preserved : goal.loop-i-preserved
loop-i-preserved c =
    let found = is_found c.args.moment c.args.key.now in
    first_place-past found c.args.items.now c.loop-i.i c.index-items-i.result c.loop-i-test.true c.loop-i.invariant
    (ap found (sym c.index-items-i.is) ∙ (sym c.is_found.ensures ∙ c.if-is_found.false))
