-- When counters are the same. Source: this project's own.
use Rattle.std.specs.Prelude.{Bool}
use Rattle.std.specs.Cmp.{IsEquivalence}
use Rattle.tc_stats.specs.declared.counters.Counters.{Counters}
use Rattle.tc_stats.specs.contracts.counters.CountersPartialEq.TheImpl as counters
use Rattle.tc_stats.specs.contracts.counters.CountersEq.TheImpl.Laws as counters_laws

-- the same counters, field by field
abbrev pub are_same_counters : Counters → Counters → Bool
are_same_counters = (counters.ghosts).eq

pub same_counters-equivalence : IsEquivalence are_same_counters
same_counters-equivalence = counters_laws.laws-law
