use Rattle.std.proofs.Common.{◌≡◌, ◌++◌, length, map, drop}
use Rattle.toml.specs.View.{view}
use Rattle.tc_settings.specs.LimitFields.{user_limits_in, limits_fault_after}
use Rattle.tc_settings.proofs.limit_fields.read_each_limits.Given as goal

abbrev pub invariant-loop-table : goal.invariant-loop-table
invariant-loop-table l = record {
  fault : limits_fault_after 0 (map view l.tables)
      ≡ limits_fault_after (length l.rows.items) (map view (drop l.table-index l.tables));
  rows : map user_limits_in (map view l.tables) ≡ l.rows.items ++ map user_limits_in (map view (drop l.table-index l.tables));
  count : length l.rows.items ≡ l.table-index;
}
