-- What waits, as the code keeps it: by slot. Source: this project's own.
use Rattle.std.specs.Prelude.{◌≡◌, ℕ, List, [], ◌∷◌, ◌++◌, Option, Some, None, map, slice_index_or}
use Rattle.tc_item.specs.declared.slot.Slot.{Slot}
use Rattle.tc_readbuf.specs.declared.look_up.LookUp.{LookUp}
use Rattle.tc_readbuf.specs.declared.look_up.LookUp.TheVariants.{Hit as HitNoted, Miss as MissNoted}
use Rattle.tc_item.specs.KeyHash.{hash}
use Rattle.tc_plain.specs.declared.shared.entry.Entry.{Entry}
use Rattle.tc_plain.specs.EvictionState.{EvictionState, held}
use Rattle.tc_plain.specs.BySlot.{entry_or}
use Rattle.tc_partition.specs.Deferred.{Note, Hit, Miss, Waiting, Lazy, IsLazy, settled, peeked}
use Rattle.tc_partition.specs.LiveSlots.{live_of}
use Rattle.tc_partition.specs.declared.live_slots.LiveSlots.{LiveSlots}

-- a noted hit by the key of what its slot holds
abbrev pub note_at : List (Option Entry) → LookUp → Note
note_at slots (HitNoted slot h) = Hit (entry_or (slice_index_or slots slot.0 None)).key
note_at slots (MissNoted h) = Miss h

-- what waits, by key
abbrev pub waiting_of : List (Option Entry) → LookUp × ℕ → Waiting
waiting_of slots r = record { note = note_at slots r.0; moment = r.1 }

-- what was done last, what waits by these slots, and the moment
abbrev pub lazy_over : EvictionState → List (Option Entry) → List (LookUp × ℕ) → ℕ → Lazy
lazy_over l slots rs moment = record { base = l; waiting = map (waiting_of slots) rs; moment = moment }

-- a live, what waits and the moment
abbrev pub lazy_by : LiveSlots → List (LookUp × ℕ) → ℕ → Lazy
lazy_by s rs moment = lazy_over (live_of s) s.held.slots rs moment

-- a noted hit's slot holds something, whose key has the noted hash
abbrev pub IsPlaced : List (Option Entry) → LookUp → Type 0
IsPlaced slots (HitNoted slot h) = (e : Entry) × (slice_index_or slots slot.0 None ≡ Some e) × (h ≡ hash e.key)
IsPlaced slots (MissNoted h) = Unit {0}

-- and so does that of each
abbrev pub ArePlaced : List (Option Entry) → List (LookUp × ℕ) → Type 0
ArePlaced slots [] = Unit {0}
ArePlaced slots (r ∷ rs) = IsPlaced slots r.0 × ArePlaced slots rs

-- look-ups may wait, up to a moment: they are in order, and each hit is where it was noted
pub record MayWait (s : LiveSlots) (rs : List (LookUp × ℕ)) (m : ℕ) : Type 0 where
  pub lazy : IsLazy (lazy_by s rs m)
  pub placed : ArePlaced s.held.slots rs

-- these may wait before others
pub record MayWaitFirst (s : LiveSlots) (rs : List (LookUp × ℕ)) : Type 0 where
  pub after : List (LookUp × ℕ)
  pub moment : ℕ
  pub both : MayWait s (rs ++ after) moment

-- of look-ups some were done and these are left: whatever waits behind them, all stands for the same
pub record IsDrained (s : LiveSlots) (rs : List (LookUp × ℕ)) (t : LiveSlots) (left : List (LookUp × ℕ)) : Type 0 where
  pub limits : t.held.limits ≡ s.held.limits
  pub width : t.sketch.width ≡ s.sketch.width
  pub stands : (after : List (LookUp × ℕ)) (m : ℕ) → MayWait s (rs ++ after) m
      → MayWait t (left ++ after) m × (settled (lazy_by t (left ++ after) m) ≡ settled (lazy_by s (rs ++ after) m))

-- a slot holds this entry, whose key is this one
abbrev pub IsEntryAt : ℕ → List ℕ → Entry → LiveSlots → Type 0
IsEntryAt n key e s = (slice_index_or s.held.slots n None ≡ Some e) × (e.key ≡ key)

-- where what a key will hold at a moment is, or nowhere
abbrev pub SeeksSlot : Option Slot → ℕ → List ℕ → LiveSlots → Type 0
SeeksSlot None t key s = peeked t key (live_of s) ≡ None
SeeksSlot (Some slot) t key s =
    (e : Entry) × (slice_index_or s.held.slots slot.0 None ≡ Some e) × (e.key ≡ key) × (peeked t key (live_of s) ≡ Some e)

-- a place for each key, or none where nothing is held under it
abbrev pub AreSought : List (List ℕ) → List (Option Slot) → EvictionState → Type 0
AreSought [] [] l = Unit {0}
AreSought [] (place ∷ places) l = ⊥
AreSought (key ∷ keys) [] l = ⊥
AreSought (key ∷ keys) (place ∷ places) l = (place ≡ None → held key l.areas ≡ None) × AreSought keys places l
