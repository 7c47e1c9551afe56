use Rattle.std.proofs.Common.{map, sym, ◌∙◌, ap}
use Rattle.std.proofs.lemmas.Result.{err_from_is_err_and}
use Rattle.toml.specs.View.{view}
use Rattle.tc_settings.specs.SettingsTable.{tables_fault}
use Rattle.tc_settings.proofs.UserTables.{user_field_fault-array, users_in-array}
use Rattle.tc_settings.proofs.settings.read_tables.Goals as goal

pub returns-in_err-check_tables-in-Some-as_array-clause-fault :
    goal.returns-in_err-check_tables-in-Some-as_array-clause-fault
returns-in_err-check_tables-in-Some-as_array-clause-fault c =
    let p = err_from_is_err_and c.from_residual.result c.from_residual.ensures.1 in
    let seen = ap (λ values. tables_fault (map view values)) c.deref.ensures.value in
    let fault = user_field_fault-array _ _ c.in-Some-as_array.tables.now.items c.in-Some.ensures c.in-Some-as_array.ensures in
    rw (p.1, p.2) (c.in_err-check_tables-in-Some-as_array.ensures.fault ∙ seen ∙ sym fault)

pub returns-in_ok-check_tables-in-Some-as_array-clause-fault :
    goal.returns-in_ok-check_tables-in-Some-as_array-clause-fault
returns-in_ok-check_tables-in-Some-as_array-clause-fault c =
    let seen = ap (λ values. tables_fault (map view values)) c.deref.ensures.value in
    let fault = user_field_fault-array _ _ c.in-Some-as_array.tables.now.items c.in-Some.ensures c.in-Some-as_array.ensures in
    c.in_ok-check_tables-in-Some-as_array.ensures.fault ∙ seen ∙ sym fault

pub returns-in_ok-check_tables-in-Some-as_array-clause-tables :
    goal.returns-in_ok-check_tables-in-Some-as_array-clause-tables
returns-in_ok-check_tables-in-Some-as_array-clause-tables c =
    ap (map view) c.deref-in-Some-as_array.ensures.value
    ∙ users_in-array _ _ c.in-Some-as_array.tables.now.items c.in-Some.ensures c.in-Some-as_array.ensures
