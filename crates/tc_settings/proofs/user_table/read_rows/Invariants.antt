use Rattle.std.proofs.Common.{◌≡◌, [], ◌++◌, length, map, drop, None}
use Rattle.toml.specs.View.{view}
use Rattle.tc_users.specs.Faults.{fault_after}
use Rattle.tc_settings.specs.SettingsTable.{row_in, users_fault_after}
use Rattle.tc_settings.proofs.user_table.read_rows.Given as goal

abbrev pub invariant-loop-table : goal.invariant-loop-table
invariant-loop-table l = record {
  fault : users_fault_after [] (map view l.tables) ≡ users_fault_after l.rows.items (map view (drop l.table-index l.tables));
  rows : map row_in (map view l.tables) ≡ l.rows.items ++ map row_in (map view (drop l.table-index l.tables));
  good : fault_after [] l.rows.items ≡ None;
  count : length l.rows.items ≡ l.table-index;
}
