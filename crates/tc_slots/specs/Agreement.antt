-- How entries, index, lists and wheel agree, each seen as a function: where a key is, an entry by slot,
-- a tag by slot, a due by slot. Source: this project's own.
use Rattle.std.specs.Prelude.{◌≡◌, ℕ, ◌/◌, ◌^◌, ◌==◌, nat_lt, Bool, false, cond, List, Option, Some, None, option_map}
use Rattle.std.specs.List.{position_from}
use Rattle.std.specs.Str.{bytes_eq}
use Rattle.std.specs.Hash.DefaultHasher.{write, finish}
use Rattle.std.specs.RandomState.{initial_hasher}
use Rattle.std.specs.declared.hash.RandomState.{RandomState}
use Rattle.tc_model.specs.Areas.{Areas, total}
use Rattle.tc_item.specs.Bounds.{moment_limit}
use Rattle.tc_item.specs.declared.moment.Due.{Due}
use Rattle.tc_item.specs.declared.moment.Due.TheVariants.{Never, At}
use Rattle.tc_item.specs.declared.slot.Slot.{Slot}
use Rattle.tc_plain.specs.declared.shared.entry.Entry.{Entry}
use Rattle.tc_slru.specs.Slots.{Placed, is_slot}
use Rattle.tc_plain.specs.BySlot.{stray}

-- a function with another value at a slot
abbrev pub set_at : {A : Type 0} → ℕ → A → (ℕ → A) → ℕ → A
set_at slot x f n = cond (n == slot) x (f n)

-- a function with another value at a key
abbrev pub set_key : {A : Type 0} → List ℕ → A → (List ℕ → A) → List ℕ → A
set_key key x f k = cond (bytes_eq key k) x (f k)

-- the key of what a slot holds
abbrev pub key_of : Option Entry → Option (List ℕ)
key_of o = option_map (λ e. e.key) o

-- what a slot holds is of a key
abbrev pub is_of : List ℕ → Option Entry → Bool
is_of key None = false
is_of key (Some e) = bytes_eq e.key key

-- where a key is: the first slot that holds an entry of it
abbrev pub slot_of : List (Option Entry) → List ℕ → Option Slot
slot_of slots key = option_map (λ n. record { 0 = n }) (position_from (is_of key) 0 slots)

-- the tag of a key: the upper half of its keyed hash
unfoldable pub tag_of : RandomState → List ℕ → ℕ
tag_of hasher key = finish (write (initial_hasher hasher) key) / 2 ^ 32

-- under which tag a slot stands, by what it holds
abbrev pub tag_by : RandomState → Option Entry → Option ℕ
tag_by hasher o = option_map (tag_of hasher) (key_of o)

-- how many entries a slot holds
abbrev pub count_of : Option Entry → ℕ
count_of None = 0
count_of (Some e) = 1

-- a due as the wheel keeps it: none for one that no moment reaches
abbrev pub due_by : Due → Option ℕ
due_by Never = None
due_by (At second) = cond (nat_lt second moment_limit) (Some second) None

-- when the wheel gives what a slot holds
abbrev pub wheel_due : Option Entry → Option ℕ
wheel_due None = None
wheel_due (Some e) = due_by e.item.due

-- one for each place of a slot in the lists
abbrev pub at_slot : ℕ → Placed → ℕ
at_slot slot p = cond (is_slot slot p) 1 0

-- no key is held twice, and entries and wheel agree with the lists
pub record Agree (I : List ℕ → Option Slot) (S : ℕ → Option Entry) (D : ℕ → Option ℕ) (a : Areas Placed)
    : Type 0 where
  -- a key is in a slot that holds an entry of it
  pub indexed : (key : List ℕ) (slot : Slot) → I key ≡ Some slot → key_of (S slot.0) ≡ Some key
  -- and in no other
  pub found : (key : List ℕ) (slot : Slot) → key_of (S slot.0) ≡ Some key → I key ≡ Some slot
  -- a slot that holds an entry stands once in the lists, and every other nowhere
  pub listed : (slot : ℕ) → total (at_slot slot) a ≡ count_of (S slot)
  -- each place in the lists has the weight of its entry
  pub weighed : total (stray S) a ≡ 0
  -- the wheel holds the slots whose entries have a due
  pub timed : (slot : ℕ) → D slot ≡ wheel_due (S slot)
