use Rattle.std.proofs.Common.{◌+◌, [], map, drop, sym, ◌∙◌, ap, arith, length-append}
use Rattle.tc_settings.specs.SettingsTable.{user_fault_in}
use Rattle.toml.specs.View.{view}
use Rattle.tc_users.proofs.FirstFault.{fault_after-push}
use Rattle.tc_settings.proofs.UserTables.{map-view-drop, users_fault_after-past, rows-past, user_fault-row_in}
use Rattle.tc_settings.proofs.user_table.read_rows.Goals as goal

pub loop-table-preserved : goal.loop-table-preserved
loop-table-preserved c =
    let rows = c.loop-table.rows.items in
    let tables = c.args.tables.now in
    let i = c.loop-table.table-index in
    let user = view c.table-item.result in
    let rest = map view (drop (i + 1) tables) in
    let more = map-view-drop tables i c.table-item.result c.loop-table-test.true c.table-item.is in
    let good = ap (λ b. user_fault_in b user) (sym c.deref.ensures.value) ∙ c.in_ok-row.ensures.faultless in
    rw (c.in_ok-push_row.ensures.pushed, c.in_ok-row.ensures.row) (record {
      fault = c.loop-table.invariant.fault ∙ users_fault_after-past rows user rest _ more good;
      rows = c.loop-table.invariant.rows ∙ rows-past rows user rest _ more;
      good = fault_after-push [] rows _ c.loop-table.invariant.good (user_fault-row_in rows user good);
      count = simp length-append (omega arith);
    })
