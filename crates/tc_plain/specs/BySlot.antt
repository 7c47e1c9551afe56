-- Entries kept by slot: what lists of slots stand for, each slot seen through a function. Source: this project's own.
use Rattle.std.specs.Prelude.{ℕ, ◌==◌, cond, List, [], ◌∷◌, ◌++◌, Option, Some, None, option_to_list}
use Rattle.tc_model.specs.Areas.{Areas}
use Rattle.tc_model.specs.Mapped.{map_areas}
use Rattle.tc_item.specs.declared.slot.Slot.{Slot}
use Rattle.tc_item.specs.declared.moment.Due.TheVariants.{Never}
use Rattle.tc_slru.specs.Slots.{Placed}
use Rattle.tc_plain.specs.declared.shared.entry.Entry.{Entry}
use Rattle.tc_plain.specs.Entries.{weight}

-- what a slot holds; where it holds nothing, an entry of no key
abbrev pub entry_or : Option Entry → Entry
entry_or None = record { key = []; item = record { flags = 0; due = Never; cas = 0; blob = [] } }
entry_or (Some e) = e

-- one where a slot of the lists holds nothing, or weighs something else
abbrev pub stray_by : ℕ → Option Entry → ℕ
stray_by w None = 1
stray_by w (Some e) = cond (weight e == w) 0 1

-- the same, of a place in the lists
abbrev pub stray : (ℕ → Option Entry) → Placed → ℕ
stray S p = stray_by p.weight (S p.slot)

-- what a place in the lists stands for
abbrev pub entry_at : (ℕ → Option Entry) → Placed → Entry
entry_at S p = entry_or (S p.slot)

-- the entries of the lists
abbrev pub areas_by : (ℕ → Option Entry) → Areas Placed → Areas Entry
areas_by S a = map_areas (entry_at S) a

-- what slots hold, one after another
abbrev pub entries_at : (ℕ → Option Entry) → List Slot → List Entry
entries_at S [] = []
entries_at S (s ∷ ss) = option_to_list (S s.0) ++ entries_at S ss
