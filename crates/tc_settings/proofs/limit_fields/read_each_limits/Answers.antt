use Rattle.std.proofs.Common.{◌≡◌, ◌+◌, length, map, drop, sym, ◌∙◌, ap, arith, length-append}
use Rattle.toml.specs.View.{view}
use Rattle.tc_settings.specs.LimitFields.{user_limits_fault}
use Rattle.tc_settings.proofs.LimitTables.{limits_fault_after-past, limits-past}
use Rattle.tc_settings.proofs.UserTables.{map-view-drop}
use Rattle.tc_settings.proofs.limit_fields.read_each_limits.Goals as goal

pub loop-table-preserved : goal.loop-table-preserved
loop-table-preserved c =
    let rows = c.loop-table.rows.items in
    let tables = c.args.tables.now in
    let i = c.loop-table.table-index in
    let user = view c.table-item.result in
    let rest = map view (drop (i + 1) tables) in
    let more = map-view-drop tables i c.table-item.result c.loop-table-test.true c.table-item.is in
    let count : c.len.result ≡ length rows = omega (arith, c.len.ensures, c.loop-table.rows.ok.0) in
    let good = ap (λ n. user_limits_fault (n + 1) user) (sym count) ∙ sym c.in_ok-limits.ensures.fault in
    rw (c.in_ok-push_limits.ensures.pushed, c.in_ok-limits.ensures.limits) (record {
      fault = c.loop-table.invariant.fault ∙ limits_fault_after-past rows user rest _ more good;
      rows = c.loop-table.invariant.rows ∙ limits-past rows user rest _ more;
      count = simp length-append (omega arith);
    })
