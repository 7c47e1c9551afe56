use Rattle.std.proofs.Common.{◌≡◌, length, Some, sym, ◌∙◌, ap, subst, arith, inl}
use Rattle.std.proofs.lemmas.Result.{err_from_is_err_and}
use Rattle.tc_users.specs.Faults.{first_fault, user_fault}
use Rattle.tc_users.proofs.ChangedRows.{push-good, push-bad}
use Rattle.tc_users.proofs.users.Users.push.Goals as goal

pub returns-in_err-check_user-clause-fault : goal.returns-in_err-check_user-clause-fault
returns-in_err-check_user-clause-fault c =
    let p = err_from_is_err_and c.from_residual.result c.from_residual.ensures.1 in
    let rows = c.self.inside.rows.items in
    let n : c.len-count.result ≡ length rows = cc in
    let bad = ap (λ rs. user_fault rs c.args.row) (sym c.deref.ensures.value) ∙ sym c.in_err-check_user.ensures in
    rw (p.1, p.2, ← c.self.view_is) (inl (push-bad rows c.args.row _ (omega arith) c.self.invariant bad))

pub invariant_of-self-2 : goal.invariant_of-self-2
invariant_of-self-2 c =
    let rows = c.self.inside.rows.items in
    let n : c.len-count.result ≡ length rows = cc in
    let good = ap (λ rs. user_fault rs c.args.row) (sym c.deref.ensures.value) ∙ sym c.in_ok-check_user.ensures in
    rw c.in_ok-push_row.ensures.pushed (push-good rows c.args.row (omega arith) c.self.invariant good)

pub returns-clause-faultless : goal.returns-clause-faultless
returns-clause-faultless c =
    let rows = c.self.inside.rows.items in
    let n : c.len-count.result ≡ length rows = cc in
    let good = ap (λ rs. user_fault rs c.args.row) (sym c.deref.ensures.value) ∙ sym c.in_ok-check_user.ensures in
    rw (← c.self.view_is) (push-good rows c.args.row (omega arith) c.self.invariant good)
