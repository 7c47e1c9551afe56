-- A user's counters, by commands and what they come to. Source: memcached's
-- doc/protocol.txt, "General-purpose statistics"; the profile is this project's own.
use Rattle.std.specs.Prelude.{ℕ, ◌+◌, ◌-◌, ◌^◌, min, length}
use Rattle.tc_grammar.specs.declared.command.StoreKind.{StoreKind}
use Rattle.tc_grammar.specs.declared.command.StoreKind.TheVariants.{Cas}
use Rattle.tc_grammar.specs.declared.command.Way.{Way}
use Rattle.tc_grammar.specs.declared.command.Way.TheVariants.{Incr, Decr}
use Rattle.tc_grammar.specs.declared.command.Command.{Command}
use Rattle.tc_grammar.specs.declared.command.Command.TheVariants.{Store, Get, Gat, Delete, Count, Touch, Flush, Stats as AskStats}
use Rattle.tc_grammar.specs.declared.command.Command.TheVariants.{Version as AskVersion, Verbosity, Quit}
use Rattle.tc_stats.specs.declared.counters.Counters.{Counters}
use Rattle.tc_stats.specs.declared.outcome.Outcome.{Outcome}
use Rattle.tc_stats.specs.declared.outcome.Outcome.TheVariants.{Stored, Exists, NotFound, Deleted, Touched, Number, Values}
use Rattle.tc_stats.specs.declared.outcome.Outcome.TheVariants.{TooLarge}

-- all counters at 0
abbrev pub no_counts : Counters
no_counts = record {
  curr_items = 0;
  total_items = 0;
  bytes = 0;
  cmd_get = 0;
  cmd_set = 0;
  cmd_flush = 0;
  cmd_touch = 0;
  get_hits = 0;
  get_misses = 0;
  delete_misses = 0;
  delete_hits = 0;
  incr_misses = 0;
  incr_hits = 0;
  decr_misses = 0;
  decr_hits = 0;
  cas_misses = 0;
  cas_hits = 0;
  cas_badval = 0;
  touch_hits = 0;
  touch_misses = 0;
  evictions = 0;
  limit_maxbytes = 0;
  item_size_max = 0;
  store_too_large = 0;
}

-- a count that goes up by a number, and stops at 2^64-1
abbrev pub more : ℕ → ℕ → ℕ
more count by = min (count + by) (2 ^ 64 - 1)

-- a storage command, whatever it came to; what was stored; and what was too large for the cache
abbrev pub noted_store : Outcome → Counters → Counters
noted_store Stored c = record c { cmd_set = more c.cmd_set 1; total_items = more c.total_items 1 }
noted_store TooLarge c = record c { cmd_set = more c.cmd_set 1; store_too_large = more c.store_too_large 1 }
noted_store outcome c = record c { cmd_set = more c.cmd_set 1 }

-- of `cas` besides: no item held, stored, or another cas number held
abbrev pub noted_cas : Outcome → Counters → Counters
noted_cas NotFound c = record c { cas_misses = more c.cas_misses 1 }
noted_cas Stored c = record c { cas_hits = more c.cas_hits 1 }
noted_cas Exists c = record c { cas_badval = more c.cas_badval 1 }
noted_cas outcome c = c

-- a storage command of one of the six names
abbrev pub noted_by_kind : StoreKind → Outcome → Counters → Counters
noted_by_kind Cas outcome c = noted_cas outcome (noted_store outcome c)
noted_by_kind kind outcome c = noted_store outcome c

-- how many hits a look-up showed
abbrev pub hit_count : Outcome → ℕ
hit_count (Values hits) = length hits
hit_count outcome = 0

-- keys asked by `get`, `gets`, `gat` and `gats`: those found, and the others
abbrev pub noted_get : ℕ → ℕ → Counters → Counters
noted_get asked hits c = record c {
  cmd_get = more c.cmd_get asked;
  get_hits = more c.get_hits hits;
  get_misses = more c.get_misses (asked - hits);
}

-- keys asked by `touch`, `gat` and `gats`: those found, and the others
abbrev pub noted_touch : ℕ → ℕ → Counters → Counters
noted_touch asked hits c = record c {
  cmd_touch = more c.cmd_touch asked;
  touch_hits = more c.touch_hits hits;
  touch_misses = more c.touch_misses (asked - hits);
}

-- `touch` asks one key
abbrev pub noted_touched : Outcome → Counters → Counters
noted_touched Touched c = noted_touch 1 1 c
noted_touched outcome c = noted_touch 1 0 c

-- `delete`: no item held, or one taken out
abbrev pub noted_delete : Outcome → Counters → Counters
noted_delete NotFound c = record c { delete_misses = more c.delete_misses 1 }
noted_delete Deleted c = record c { delete_hits = more c.delete_hits 1 }
noted_delete outcome c = c

-- `incr` and `decr`: no item held, or a number; data that is no number, and cas numbers used up, count nowhere
abbrev pub noted_count : Way → Outcome → Counters → Counters
noted_count Incr NotFound c = record c { incr_misses = more c.incr_misses 1 }
noted_count Incr (Number n) c = record c { incr_hits = more c.incr_hits 1 }
noted_count Decr NotFound c = record c { decr_misses = more c.decr_misses 1 }
noted_count Decr (Number n) c = record c { decr_hits = more c.decr_hits 1 }
noted_count way outcome c = c

-- the counters after a command that came to this outcome
abbrev pub noted : Command → Outcome → Counters → Counters
noted (Store head blob) outcome c = noted_by_kind head.kind outcome c
noted (Get form keys) outcome c = noted_get (length keys) (hit_count outcome) c
noted (Gat form exptime keys) outcome c =
    noted_touch (length keys) (hit_count outcome) (noted_get (length keys) (hit_count outcome) c)
noted (Delete key quiet) outcome c = noted_delete outcome c
noted (Count way key value quiet) outcome c = noted_count way outcome c
noted (Touch key exptime quiet) outcome c = noted_touched outcome c
noted (Flush delay quiet) outcome c = record c { cmd_flush = more c.cmd_flush 1 }
noted AskStats outcome c = c
noted AskVersion outcome c = c
noted (Verbosity level quiet) outcome c = c
noted Quit outcome c = c
