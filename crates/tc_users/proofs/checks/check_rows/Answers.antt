use Rattle.std.proofs.Common.{sym, ◌∙◌, ap, take}
use Rattle.std.proofs.lemmas.Result.{err_from_is_err_and}
use Rattle.tc_users.specs.Faults.{user_fault}
use Rattle.tc_users.proofs.FirstFault.{fault_after-found, fault_after-past}
use Rattle.tc_users.proofs.checks.check_rows.Goals as goal

pub returns-in_err-check_user : goal.returns-in_err-check_user
returns-in_err-check_user c =
    let p = err_from_is_err_and c.from_residual.result c.from_residual.ensures.1 in
    let at = ap (user_fault (take c.loop-i.i c.args.rows.now)) (sym c.index-rows-i.is) ∙ sym c.in_err-check_user.ensures in
    rw (p.1, p.2)
    (sym (fault_after-found c.args.rows.now c.loop-i.i c.index-rows-i.result _ c.loop-i-test.true c.loop-i.invariant at))

pub loop-i-preserved : goal.loop-i-preserved
loop-i-preserved c =
    let at = ap (user_fault (take c.loop-i.i c.args.rows.now)) (sym c.index-rows-i.is) ∙ sym c.in_ok-check_user.ensures in
    fault_after-past c.args.rows.now c.loop-i.i c.index-rows-i.result c.loop-i-test.true c.loop-i.invariant at
