-- Keys that are sought, their hashes, and what is noted of them where they were found. Source: this project's own.
use Rattle.std.specs.Prelude.{◌≡◌, ℕ, List, [], ◌∷◌, Option, Some, None}
use Rattle.tc_item.specs.declared.slot.Slot.{Slot}
use Rattle.tc_item.specs.KeyHash.{hash}
use Rattle.tc_readbuf.specs.declared.look_up.LookUp.{LookUp}
use Rattle.tc_readbuf.specs.declared.look_up.LookUp.TheVariants.{Hit as HitNoted, Miss as MissNoted}
use Rattle.tc_partition.specs.WaitingSlots.{SeeksSlot}
use Rattle.tc_partition.specs.declared.live_slots.LiveSlots.{LiveSlots}

-- what is noted of a key of this hash that was found at this place, or holds nothing
abbrev pub noted_at : ℕ → Option Slot → LookUp
noted_at h None = MissNoted h
noted_at h (Some slot) = HitNoted slot h

-- what is noted of keys of these hashes that were found at these places, at a moment
abbrev pub all_noted : List ℕ → List (Option Slot) → ℕ → List (LookUp × ℕ)
all_noted [] found m = []
all_noted (h ∷ hashes) [] m = []
all_noted (h ∷ hashes) (place ∷ found) m = (noted_at h place, m) ∷ all_noted hashes found m

-- the hash of each key
abbrev pub AreHashed : List (List ℕ) → List ℕ → Type 0
AreHashed [] [] = Unit {0}
AreHashed [] (h ∷ hashes) = ⊥
AreHashed (key ∷ keys) [] = ⊥
AreHashed (key ∷ keys) (h ∷ hashes) = (h ≡ hash key) × AreHashed keys hashes

-- where what each key will hold at a moment is, or nowhere
abbrev pub SeekSlots : ℕ → List (List ℕ) → List (Option Slot) → LiveSlots → Type 0
SeekSlots t [] [] s = Unit {0}
SeekSlots t [] (place ∷ found) s = ⊥
SeekSlots t (key ∷ keys) [] s = ⊥
SeekSlots t (key ∷ keys) (place ∷ found) s = SeeksSlot place t key s × SeekSlots t keys found s
