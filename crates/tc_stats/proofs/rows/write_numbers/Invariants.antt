use Rattle.std.specs.List.{flat_map}
use Rattle.std.proofs.Common.{◌≡◌, ◌++◌, ◌+◌, ◌*◌, ◌-◌, ◌≤◌, take, length, decimal, vec_len, vec_capacity}
use Rattle.tc_stats.specs.StatsRows.{row_of}
use Rattle.tc_stats.proofs.rows.write_numbers.Given as goal

abbrev pub invariant-loop-name : goal.invariant-loop-name
invariant-loop-name l = record {
  items : l.out.items ≡ l.fn.out.items ++ flat_map (λ r. row_of r.0.now (decimal r.1)) (take l.name-index l.rows);
  room : vec_len l.out + 43 * (length l.rows - l.name-index) ≤ vec_capacity l.out;
  capacity : vec_capacity l.fn.out ≤ vec_capacity l.out;
}
