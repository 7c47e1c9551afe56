-- How entries come into the areas, move and leave: W-TinyLFU (the TinyLFU paper; Caffeine's design notes).
use Rattle.std.specs.Prelude.{ℕ, cond, not, is_some, List, ◌∷◌}
use Rattle.tc_model.specs.Areas.{Areas, Limits, accessed}
use Rattle.tc_item.specs.KeyHash.{hash}
use Rattle.tc_sketch.specs.Sketch.{recorded, freq}
use Rattle.tc_plain.specs.declared.shared.entry.Entry.{Entry}
use Rattle.tc_plain.specs.Entries.{weight, lives, has_key}
use Rattle.tc_plain.specs.EvictionState.{EvictionState, held, filtered}

-- a key is seen once more: one record in the sketch
abbrev pub seen : List ℕ → EvictionState → EvictionState
seen key l = record l { sketch = recorded l.sketch (hash key) }

-- how often an entry's key was seen of late
abbrev pub frequency : EvictionState → Entry → ℕ
frequency l e = freq l.sketch (hash e.key)

-- what a key held is gone
abbrev pub without_key : List ℕ → Areas Entry → Areas Entry
without_key key a = filtered (λ e. not (has_key key e)) a

-- an entry at the front of the window
abbrev pub at_front : Entry → Areas Entry → Areas Entry
at_front e a = record { window = e ∷ a.window; probation = a.probation; protected = a.protected }

-- an entry in the place of what its key held, which is an access, and else at the front of the window
abbrev pub put_in : Limits → Entry → Areas Entry → Areas Entry
put_in limits e a = cond (is_some (held e.key a)) (accessed weight limits (has_key e.key) e a) (at_front e a)

-- an entry that is alive is put in, and one that isn't takes out what its key held
abbrev pub placed : EvictionState → Entry → Areas Entry
placed l e = cond (lives l.moment e) (put_in l.limits e l.areas) (without_key e.key l.areas)

-- an entry's key is seen once more, and then the entry is placed
abbrev pub used : Entry → EvictionState → EvictionState
used e l = record (seen e.key l) { areas = placed l e }
