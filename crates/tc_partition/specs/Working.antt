-- What a command will do, and where. Source: this project's own.
use Rattle.std.specs.Prelude.{◌≡◌, ℕ, Bool, false, is_none}
use Rattle.tc_item.specs.KeyHash.{hash}
use Rattle.tc_slots.specs.Held.{Held, FindsSlot}
use Rattle.tc_partition.specs.WaitingSlots.{SeeksSlot}
use Rattle.tc_partition.specs.declared.live_slots.LiveSlots.{LiveSlots}
use Rattle.tc_partition.specs.declared.work.Work.{Work}
use Rattle.tc_partition.specs.declared.work.Work.TheVariants.{Ends as EndsWork, Changes as ChangesWork}

-- it fills a vacant slot
abbrev pub is_new : Work → Bool
is_new (EndsWork end) = false
is_new (ChangesWork end place h key draft) = is_none place

-- its key has the hash that it says, and will hold something at its place at a moment, or nothing where it has none
abbrev pub IsSought : ℕ → Work → LiveSlots → Type 0
IsSought t (EndsWork end) s = Unit {0}
IsSought t (ChangesWork end place h key draft) s = (h ≡ hash key) × SeeksSlot place t key s

-- its key has the hash that it says, and holds something at its place, or nothing where it has none
abbrev pub IsAimed : Work → Held → Type 0
IsAimed (EndsWork end) held = Unit {0}
IsAimed (ChangesWork end place h key draft) held = (h ≡ hash key) × FindsSlot place key held
