-- What look-ups touch of a user's cache, and how it comes to a later moment. Source: memcached's
-- doc/protocol.txt, "Expiration times" and "flush_all"; the TinyLFU paper.
use Rattle.std.specs.Prelude.{ℕ, ◌-◌, ◌*◌, ◌/◌, cond, nat_le, max, Bool, false, List, [], ◌++◌, Option, Some, None, filter, find}
use Rattle.tc_model.specs.Areas.{Areas, Limits}
use Rattle.tc_sketch.specs.Sketch.{Sketch}
use Rattle.tc_plain.specs.declared.shared.entry.Entry.{Entry}
use Rattle.tc_plain.specs.Entries.{lives, has_key}

-- what look-ups touch of a user's cache
pub record EvictionState : Type 0 where
  -- the most that each area may weigh
  pub limits : Limits
  -- the entries held, in three lists, under distinct keys
  pub areas : Areas Entry
  -- how often each key was seen of late
  pub sketch : Sketch
  -- when all entries go, if that was asked for
  pub flush : Option ℕ
  -- the moment that it was last advanced to
  pub moment : ℕ

-- a hundredth of the budget for the window, the rest for main, and four fifths of main for protected
abbrev pub limits_of : ℕ → Limits
limits_of budget = record { window = budget / 100; main = budget - budget / 100; protected = (budget - budget / 100) * 4 / 5 }

-- areas that hold nothing
abbrev pub no_entries : Areas Entry
no_entries = record { window = []; probation = []; protected = [] }

-- all entries held
abbrev pub entries_of : Areas Entry → List Entry
entries_of a = a.window ++ (a.probation ++ a.protected)

-- the entry held under a key
abbrev pub held : List ℕ → Areas Entry → Option Entry
held key a = find (has_key key) (entries_of a)

-- the areas with the entries that pass alone
abbrev pub filtered : (Entry → Bool) → Areas Entry → Areas Entry
filtered passes a = record {
  window = filter passes a.window;
  probation = filter passes a.probation;
  protected = filter passes a.protected;
}

-- a pending flush stands at or before a moment
abbrev pub is_flush_due : Option ℕ → ℕ → Bool
is_flush_due None moment = false
is_flush_due (Some second) moment = nat_le second moment

-- at a moment: where a pending flush is due all entries go and it is over, and else those that are not alive go
abbrev pub at_moment : ℕ → EvictionState → EvictionState
at_moment moment l = cond (is_flush_due l.flush moment)
    (record l { areas = no_entries; flush = None; moment = moment })
    (record l { areas = filtered (lives moment) l.areas; moment = moment })

-- advanced to a moment; it never goes back
abbrev pub advanced : EvictionState → ℕ → EvictionState
advanced l moment = at_moment (max l.moment moment) l
