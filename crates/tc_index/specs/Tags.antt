-- Slots under tags, in shards: how often each slot stands under each tag. Source: this project's own.
use Rattle.std.specs.Prelude.{◌≡◌, ℕ, ◌+◌, ◌-◌, ◌/◌, ◌<◌, ◌^◌, ◌==◌, ◌&&◌, cond, Bool, true, false, nat_eq}
use Rattle.std.specs.Prelude.{List, [], length, Option, Some, None, count_by, slice_index_or, bit_and}
use Rattle.std.specs.Map.{lookup}
use Rattle.tc_item.specs.declared.slot.Slot.{Slot}

-- a shard: the slot that a tag's map has, further slots under tags, and whether one more fits
pub record TaggedShard : Type 0 where
  pub first : List (ℕ × ℕ)
  pub more : List (ℕ × ℕ)
  pub has_room : Bool

-- all shards, what all slots are below, and whether one more slot fits, whichever its tag
pub record Tagged : Type 0 where
  pub shards : List TaggedShard
  pub slots : ℕ
  pub has_room : Bool

-- a slot under a tag
abbrev pub is_place : ℕ → ℕ → ℕ × ℕ → Bool
is_place tag slot p = (p.0 == tag) && (p.1 == slot)

-- once for this slot under this tag, and for no other
abbrev pub one_at : ℕ → ℕ → ℕ → ℕ → ℕ
one_at tag slot t s = cond (is_place t s (tag, slot)) 1 0

-- what a map has under a tag is this slot
abbrev pub is_first : Option ℕ → ℕ → Bool
is_first None slot = false
is_first (Some first) slot = first == slot

-- how often a slot stands under a tag in a shard
abbrev pub stands_in : TaggedShard → ℕ → ℕ → ℕ
stands_in p tag slot =
    cond (is_first (lookup (nat_eq tag) p.first) slot) 1 0 + count_by (is_place tag slot) p.more

-- the shard of a tag, of so many
abbrev pub shard_of : ℕ → ℕ → ℕ
shard_of shards tag = bit_and (tag / 2 ^ 16) (shards - 1)

-- a shard in which nothing stands
abbrev pub no_shard : TaggedShard
no_shard = record { first = []; more = []; has_room = false }

-- the shard of a number
abbrev pub shard_at : List TaggedShard → ℕ → TaggedShard
shard_at shards n = slice_index_or shards n no_shard

-- how often a slot stands under a tag
abbrev pub stands : Tagged → ℕ → ℕ → ℕ
stands t tag slot = stands_in (shard_at t.shards (shard_of (length t.shards) tag)) tag slot

-- the closure says whether a slot is the right one
abbrev pub Tells : (Slot → Bool → Type 0) → (ℕ → Bool) → Type 0
Tells post right = (slot : ℕ) (answer : Bool) → slot < 2 ^ 64 → post (record { 0 = slot }) answer → answer ≡ right slot

-- a right slot of those that stand here so often; or none is
abbrev pub IsRight : Option Slot → (ℕ → Bool) → (ℕ → ℕ) → Type 0
IsRight None right often = (slot : ℕ) → 0 < often slot → right slot ≡ false
IsRight (Some slot) right often = (0 < often slot.0) × (right slot.0 ≡ true)

-- a right slot under this tag; or none is
abbrev pub FindsRight : Option Slot → ℕ → (ℕ → Bool) → Tagged → Type 0
FindsRight found tag right t = IsRight found right (stands t tag)

-- the place of a slot under a tag; or it has none
abbrev pub IsPlaceOf : Option ℕ → ℕ → ℕ → List (ℕ × ℕ) → Type 0
IsPlaceOf None tag slot places = count_by (is_place tag slot) places ≡ 0
IsPlaceOf (Some i) tag slot places =
    (i < length places) × (is_place tag slot (slice_index_or places i (0, 0)) ≡ true)
