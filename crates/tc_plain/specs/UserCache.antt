-- One user's cache, and how it comes to a later moment. Source: this project's
-- own; the counters are those of memcached's `stats`.
use Rattle.std.specs.Prelude.{ℕ, None}
use Rattle.tc_sketch.specs.Sketch.{empty_sketch, width_of}
use Rattle.tc_stats.specs.declared.counters.Counters.{Counters}
use Rattle.tc_stats.specs.UserCounters.{no_counts}
use Rattle.tc_plain.specs.EvictionState.{EvictionState, limits_of, no_entries, advanced}

-- one user's cache
pub record UserCache : Type 0 where
  -- the most that all items may weigh together, and the most data bytes of one
  pub budget : ℕ
  pub largest : ℕ
  -- what look-ups touch
  pub live : EvictionState
  -- the last cas number taken
  pub last : ℕ
  pub counters : Counters

-- an empty cache, with all numbers 0
abbrev pub fresh : ℕ → ℕ → UserCache
fresh budget largest = record {
  budget = budget;
  largest = largest;
  live = record {
    limits = limits_of budget;
    areas = no_entries;
    sketch = empty_sketch (width_of budget);
    flush = None;
    moment = 0;
  };
  last = 0;
  counters = no_counts;
}

-- a cache advanced to a moment; it never goes back
abbrev pub advance : UserCache → ℕ → UserCache
advance k moment = record k { live = advanced k.live moment }
