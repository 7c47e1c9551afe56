use Rattle.std.specs.List.{flat_map}
use Rattle.std.proofs.Common.{◌∙◌, ap, sym, append_assoc}
use Rattle.std.proofs.lemmas.List.Folds.{flat_map-map}
use Rattle.tc_stats.specs.StatsRows.{number_row, stats_rows}
use Rattle.tc_stats.proofs.counters.Counters.render.Goals as goal

pub returns-clause-rows : goal.returns-clause-rows
unfolding stats_rows
returns-clause-rows c =
    let numbers = sym (flat_map-map number_row _ c.rows.result) ∙ ap (flat_map number_row) c.rows.ensures.rows in
    rw (← append_assoc) (cc (numbers, c.write_numbers.ensures.items, c.write_row.ensures.items, c.in_ok-reserve.ensures.items))
