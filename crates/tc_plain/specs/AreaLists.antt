-- The areas and what look-ups touch, as the code keeps them. Source: this project's own.
use Rattle.std.specs.Prelude.{ℕ, ◌+◌, ◌≤◌, ◌∷◌, ◌++◌, [], ◌≡◌, ◌⊎◌, cond, not, vec_len, vec_capacity, Bool, true, false}
use Rattle.std.specs.Prelude.{Option, Some, None}
use Rattle.tc_model.specs.Areas.{Areas}
use Rattle.tc_item.specs.KeyHash.{hash}
use Rattle.tc_sketch.specs.Sketch.{Sketch, freq}
use Rattle.tc_item.specs.declared.moment.Due.{Due}
use Rattle.tc_item.specs.declared.item.Item.{Item}
use Rattle.tc_item.specs.Expiry.{is_before}
use Rattle.tc_plain.specs.declared.shared.entry.Entry.{Entry}
use Rattle.tc_plain.specs.declared.reference.areas.Areas.{Areas as AreaLists}
use Rattle.tc_plain.specs.declared.reference.areas.Origin.{Origin}
use Rattle.tc_plain.specs.declared.reference.areas.Origin.TheVariants.{Window, Main}
use Rattle.tc_plain.specs.declared.reference.eviction_state.EvictionState.{EvictionState as LiveLists}
use Rattle.tc_plain.specs.Entries.{with_due}
use Rattle.tc_plain.specs.EvictionState.{EvictionState}

-- the areas that three lists are
abbrev pub areas_of : AreaLists → Areas Entry
areas_of a = record { window = a.window.items; probation = a.probation.items; protected = a.protected.items }

-- what look-ups touch, by what the code keeps
abbrev pub live_of : LiveLists → EvictionState
live_of l = record { limits = l.limits; areas = areas_of l.areas; sketch = l.sketch; flush = l.flush; moment = l.moment }

-- how many entries there are in all
abbrev pub count_of : AreaLists → ℕ
count_of a = vec_len a.window + (vec_len a.probation + vec_len a.protected)

-- each list has room for all entries, and for so many more
pub record HasRoom (spare : ℕ) (a : AreaLists) : Type 0 where
  pub window_room : count_of a + spare ≤ vec_capacity a.window
  pub probation_room : count_of a + spare ≤ vec_capacity a.probation
  pub protected_room : count_of a + spare ≤ vec_capacity a.protected

-- an entry came from the window
abbrev pub is_from_window : Origin → Bool
is_from_window Window = true
is_from_window Main = false

-- another due, where one is given
abbrev pub change_of : Option Due → Item → Item
change_of None i = i
change_of (Some due) i = with_due due i

-- an entry at the front of the window, or else of protected
abbrev pub put_back : Bool → Entry → Areas Entry → Areas Entry
put_back in_window e a = cond in_window
    (record { window = e ∷ a.window; probation = a.probation; protected = a.protected })
    (record { window = a.window; probation = a.probation; protected = e ∷ a.protected })

-- the last of main is gone: of probation, or of protected where probation holds nothing
pub record IsPopped (last : Entry) (a b : Areas Entry) : Type 0 where
  pub same_window : b.window ≡ a.window
  pub of_main :
      ((a.probation ≡ b.probation ++ last ∷ []) × (b.protected ≡ a.protected))
      ⊎ ((a.probation ≡ []) × (b.probation ≡ []) × (a.protected ≡ b.protected ++ last ∷ []))

-- how often an entry's key was seen, by a sketch
abbrev pub frequency_in : Sketch → Entry → ℕ
frequency_in s e = freq s (hash e.key)

-- a due is given that has come at a moment
abbrev pub is_due : Option Due → ℕ → Bool
is_due None moment = false
is_due (Some due) moment = not (is_before moment due)
