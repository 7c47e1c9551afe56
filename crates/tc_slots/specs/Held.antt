-- What callers see of the entries held by slots. Source: this project's own.
use Rattle.std.specs.Prelude.{◌≡◌, Bool, true, false, is_some, IsSome, count_by, slice_index_or}
use Rattle.std.specs.Prelude.{ℕ, [], ◌∷◌, ◌+◌, ◌<◌, ◌≤◌, ◌&&◌}
use Rattle.std.specs.Prelude.{cond, nat_lt, nat_le, List, Option, Some, None, length, slice_set}
use Rattle.slab.specs.Slab.{Slab, get as slab_get, slab_len}
use Rattle.tc_item.specs.declared.slot.Slot.{Slot}
use Rattle.tc_model.specs.Areas.{Areas, Limits, settle, and_then}
use Rattle.tc_plain.specs.AreaLists.{frequency_in}
use Rattle.tc_plain.specs.Entries.{weight}
use Rattle.tc_plain.specs.EvictionState.{held}
use Rattle.tc_plain.specs.Placing.{without_key}
use Rattle.tc_item.specs.KeyHash.{hash}
use Rattle.tc_sketch.specs.Sketch.{Sketch, freq}
use Rattle.tc_plain.specs.declared.shared.entry.Entry.{Entry}
use Rattle.tc_slru.specs.SlotLists.{SlotLists}
use Rattle.tc_wheel.specs.Dues.{Dues, due_at}
use Rattle.tc_index.specs.Tags.{Tagged, stands, one_at, is_first}
use Rattle.std.specs.declared.hash.RandomState.{RandomState}
use Rattle.tc_slots.specs.Agreement.{set_at, slot_of, tag_of, tag_by, Agree}
use Rattle.tc_plain.specs.BySlot.{entry_or, areas_by}
use Rattle.tc_slots.specs.declared.slots.Slots.TheInside.{Inside}

-- the entries in three lists, what each slot holds, and whether one more entry fits with no memory taken
pub record Held : Type 0 where
  pub limits : Limits
  pub areas : Areas Entry
  pub slots : List (Option Entry)
  pub has_room : Bool

-- one more entry fits: into the index, the entries, the lists and the wheel
abbrev pub room_in : Tagged → Slab Entry → SlotLists → Dues → Bool
room_in index entries lists wheel =
    index.has_room
    && (nat_le entries.capacity index.slots
    && (nat_lt (slab_len entries) entries.capacity
    && (nat_le entries.capacity lists.slots && nat_le entries.capacity (length wheel.dues))))

-- the same, as facts
pub record HasRoom (i : Tagged) (s : Slab Entry) (l : SlotLists) (w : Dues) : Type 0 where
  pub index : i.has_room ≡ true
  pub numbers : s.capacity ≤ i.slots
  pub entries : slab_len s + 1 ≤ s.capacity
  pub lists : s.capacity ≤ l.slots
  pub wheel : s.capacity ≤ length w.dues

-- what callers see
abbrev pub held_of : Inside → Held
held_of f = record {
  limits = f.lists.limits;
  areas = areas_by (slab_get f.entries) f.lists.areas;
  slots = f.entries.slots;
  has_room = room_in f.index f.entries f.lists f.wheel;
}

-- all slots that hold an entry are below a number
abbrev pub AreWithin : ℕ → (ℕ → Option Entry) → Type 0
AreWithin n S = (slot : ℕ) → IsSome (S slot) → slot < n

-- how often a slot stands under a tag, by what it holds
abbrev pub often_by : RandomState → ℕ → Option Entry → ℕ
often_by hasher tag o = cond (is_first (tag_by hasher o) tag) 1 0

-- each slot that holds an entry stands once under the tag of its key, and every other nowhere
abbrev pub AreTagged : RandomState → Tagged → (ℕ → Option Entry) → Type 0
AreTagged hasher index S = (tag slot : ℕ) → stands index tag slot ≡ often_by hasher tag (S slot)

-- the four agree, and the wheel has a place for each slot that holds an entry
pub record AreSlots (f : Inside) : Type 0 where
  pub agree : Agree (slot_of f.entries.slots) (slab_get f.entries) (due_at f.wheel.dues) f.lists.areas
  pub tagged : AreTagged f.hasher f.index (slab_get f.entries)
  pub within : AreWithin (length f.wheel.dues) (slab_get f.entries)

-- an entry left its slot, and the index has the room that it had
pub record IsVacated (e : Entry) (slot : ℕ) (i j : Tagged) (s t : Slab Entry) : Type 0 where
  pub room : i.has_room ≡ true → j.has_room ≡ true
  pub numbers : j.slots ≡ i.slots
  pub entries : (n : ℕ) → slab_get t n ≡ set_at slot None (slab_get s) n
  pub fewer : slab_len t + 1 ≡ slab_len s
  pub capacity : t.capacity ≡ s.capacity
  pub slots : t.slots ≡ slice_set s.slots slot None

-- a slot left the tag of the key of what it held
abbrev pub Leaves : RandomState → Entry → ℕ → Tagged → Tagged → Type 0
Leaves hasher e slot i j = (tag n : ℕ) → stands j tag n + one_at (tag_of hasher e.key) slot tag n ≡ stands i tag n

-- an entry came to a slot, and the slot under its key's tag
pub record IsTaken (hasher : RandomState) (e : Entry) (slot : ℕ) (i j : Tagged) (s t : Slab Entry) : Type 0 where
  pub vacant : slab_get s slot ≡ None
  pub within : slot < s.capacity
  pub index : (tag n : ℕ) → stands j tag n ≡ stands i tag n + one_at (tag_of hasher e.key) slot tag n
  pub entries : (n : ℕ) → slab_get t n ≡ set_at slot (Some e) (slab_get s) n

-- how many slots hold an entry
abbrev pub filled : List (Option Entry) → ℕ
filled slots = count_by is_some slots

-- how often the key of what a slot holds was seen
abbrev pub seen_by : Sketch → (ℕ → Option Entry) → ℕ → ℕ
seen_by sketch S slot = freq sketch (hash (entry_or (S slot)).key)

-- a slot that holds what is held under a key
pub record IsFound (key : List ℕ) (slot : ℕ) (h : Held) : Type 0 where
  pub entry : Entry
  pub at : slice_index_or h.slots slot None ≡ Some entry
  pub own : entry.key ≡ key
  pub held : held key h.areas ≡ Some entry

-- where what is held under a key is; or nowhere, and nothing is under it
abbrev pub FindsSlot : Option Slot → List ℕ → Held → Type 0
FindsSlot None key h = (held key h.areas ≡ None) × (without_key key h.areas ≡ h.areas)
FindsSlot (Some slot) key h = IsFound key slot.0 h

-- settle dropped an entry, and goes on from what is left; or it had nothing to drop
abbrev pub DropsEntry : Bool → Sketch → Held → Held → Type 0
DropsEntry true s old new =
    (e : Entry)
    × (settle weight (frequency_in s) old.limits old.areas
    ≡ and_then (e ∷ []) (settle weight (frequency_in s) new.limits new.areas))
DropsEntry false s old new = settle weight (frequency_in s) old.limits old.areas ≡ record { areas = new.areas; dropped = [] }
