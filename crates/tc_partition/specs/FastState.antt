-- One user's cache with look-ups that wait, by what the code keeps. Source: this project's own.
use Rattle.std.specs.Prelude.{◌≡◌, ℕ, zero, suc, ◌+◌, nat_lt, cond, List, [], length, map}
use Rattle.tc_grammar.specs.declared.command.Command.{Command}
use Rattle.tc_grammar.specs.declared.command.Command.TheVariants.{Get}
use Rattle.tc_readbuf.specs.Places.{places}
use Rattle.tc_plain.specs.Entries.{lives}
use Rattle.tc_plain.specs.EvictionState.{filtered}
use Rattle.tc_plain.specs.UserCache.{UserCache}
use Rattle.tc_plain.specs.Doing.{with_live}
use Rattle.tc_partition.specs.Deferred.{Waiting, Lazy, IsLazy, settled}
use Rattle.tc_partition.specs.WaitingSlots.{waiting_of, lazy_by, ArePlaced}
use Rattle.tc_partition.specs.SlotCaches.{cache_of, IsSlotCache}
use Rattle.tc_partition.specs.declared.fast.Fast.TheInside.{Inside}

-- the cache as what was done last left it, the look-ups that wait since, and its moment
pub record FastState : Type 0 where
  pub cache : UserCache
  pub waiting : List Waiting
  pub moment : ℕ

-- what look-ups touch of it
abbrev pub lazy_in : FastState → Lazy
lazy_in s = record { base = s.cache.live; waiting = s.waiting; moment = s.moment }

-- what a cache stands for once all that waits is done
abbrev pub settled_by : UserCache → List Waiting → ℕ → UserCache
settled_by k ws moment = with_live k (settled (let l : Lazy = record { base = k.live; waiting = ws; moment = moment } in l))

-- what it stands for once all that waits is done
abbrev pub settled_in : FastState → UserCache
settled_in s = settled_by s.cache s.waiting s.moment

-- all that it holds is alive
abbrev pub IsAlive : FastState → Type 0
IsAlive s = filtered (lives s.moment) s.cache.live.areas ≡ s.cache.live.areas

-- nothing waits, and all that it holds is alive
abbrev pub IsIdle : FastState → Type 0
IsIdle s = (s.waiting ≡ []) × IsAlive s

-- how many wait once one more was noted: where no place is free it alone is left
abbrev pub waits_next : ℕ → ℕ
waits_next n = cond (nat_lt n places) (n + 1) 1

-- how many wait once so many were noted, one after another
abbrev pub waits_after : ℕ → ℕ → ℕ
waits_after zero n = n
waits_after (suc more) n = waits_next (waits_after more n)

-- how many wait after a command: each look-up of a get is added, in order, and every other command leaves none
abbrev pub waits_by : Command → ℕ → ℕ
waits_by (Get form keys) n = waits_after (length keys) n
waits_by command n = 0

-- what callers see
abbrev pub state_of : Inside → FastState
state_of f = record {
  cache = cache_of f.cache;
  waiting = map (waiting_of f.cache.live.held.slots) f.waiting;
  moment = f.moment;
}

-- what is always true
pub record IsFast (f : Inside) : Type 0 where
  pub sound : IsSlotCache f.cache
  pub lazy : IsLazy (lazy_by f.cache.live f.waiting f.moment)
  pub placed : ArePlaced f.cache.live.held.slots f.waiting
