use Rattle.std.proofs.Common.{◌+◌, length, sym, ◌∙◌, ap, inl}
use Rattle.std.proofs.lemmas.Result.{err_from_is_err_and}
use Rattle.toml.specs.View.{view}
use Rattle.tc_users.specs.Faults.{same_name_fault}
use Rattle.tc_settings.proofs.UserTables.{user_fault_at-same_name}
use Rattle.tc_settings.proofs.user_table.read_user.Goals as goal

pub returns-in_err-check_own_name-clause-fault : goal.returns-in_err-check_own_name-clause-fault
returns-in_err-check_own_name-clause-fault c =
    let before = c.args.before.now in
    let exit = c.from_residual-in_err-check_own_name in
    let p = err_from_is_err_and exit.result exit.ensures.1 in
    let same = ap (same_name_fault before) (sym (c.as_bytes.ensures.value ∙ c.in_ok-name.ensures.name))
    ∙ sym c.in_err-check_own_name.ensures in
    rw (p.1, p.2) (inl (user_fault_at-same_name (length before + 1) before (view c.args.table.now) _
    (sym c.in_ok-name.ensures.fault) (sym c.in_ok-token.ensures.fault) (sym c.in_ok-budget.ensures.fault)
    (sym c.in_ok-second.ensures.fault) (sym c.in_ok-largest.ensures.fault) same))
