use Rattle.std.proofs.Common.{sym, ◌∙◌, ap}
use Rattle.tc_model.proofs.FirstPlace.{first_place-found, first_place-past}
use Rattle.tc_users.specs.declared.users.UserSpec.{UserSpec}
use Rattle.tc_users.specs.Login.{opens}
use Rattle.tc_users.proofs.users.find_row.Goals as goal

pub returns-then-opens-clause-place : goal.returns-then-opens-clause-place
returns-then-opens-clause-place c =
    let test = λ (row : UserSpec). opens row c.args.text.now in
    sym (first_place-found test c.args.rows.now c.loop-i.i c.index-rows-i.result c.loop-i-test.true c.loop-i.invariant
    (ap test (sym c.index-rows-i.is) ∙ (sym c.opens.ensures ∙ c.if-opens.true)))

pub loop-i-preserved : goal.loop-i-preserved
loop-i-preserved c =
    let test = λ (row : UserSpec). opens row c.args.text.now in
    first_place-past test c.args.rows.now c.loop-i.i c.index-rows-i.result c.loop-i-test.true c.loop-i.invariant
    (ap test (sym c.index-rows-i.is) ∙ (sym c.opens.ensures ∙ c.if-opens.false))
