-- What callers see of the expiry wheel (a hashed timing wheel, Varghese and Lauck 1987), and what each call makes of it.
use Rattle.std.specs.Prelude.{◌≡◌, Bool, true, false, is_some, Option, Some, None, ℕ, ◌-◌, max, nat_le, List, [], ◌++◌, length}
use Rattle.std.specs.Prelude.{replicate, slice_index_or, slice_set}
use Rattle.tc_item.specs.declared.slot.Slot.{Slot}

-- the latest moment that the wheel was advanced to, and at place n when slot n is due, where it is held
pub record Dues : Type 0 where
  pub moment : ℕ
  pub dues : List (Option ℕ)

-- when the slot is due, where it is held
abbrev pub due_at : List (Option ℕ) → ℕ → Option ℕ
due_at dues n = slice_index_or dues n None

-- the slot is held
abbrev pub holds : ℕ → Dues → Bool
holds slot w = is_some (due_at w.dues slot)

-- what is held is due at a moment
abbrev pub is_due : ℕ → Option ℕ → Bool
is_due moment None = false
is_due moment (Some due) = nat_le due moment

-- nothing is held, and no slot has room
abbrev pub no_dues : Dues
no_dues = record { moment = 0; dues = [] }

-- all slots below this number have room
abbrev pub reserved : ℕ → Dues → Dues
reserved slots w = record w { dues = w.dues ++ replicate (slots - length w.dues) None }

-- the slot is held until its due
abbrev pub added : ℕ → ℕ → Dues → Dues
added slot due w = record w { dues = slice_set w.dues slot (Some due) }

-- the slot is held no longer
abbrev pub removed : ℕ → Dues → Dues
removed slot w = record w { dues = slice_set w.dues slot None }

-- nothing is held any longer
abbrev pub cleared : Dues → Dues
cleared w = record w { dues = replicate (length w.dues) None }

-- the wheel was advanced to a moment
abbrev pub advanced : ℕ → Dues → Dues
advanced moment w = record w { moment = max w.moment moment }

-- a slot that was due at the moment is given and held no longer; or none, and no slot was due
abbrev pub Gives : Option Slot → ℕ → Dues → Dues → Type 0
Gives None moment before after = ((slot : ℕ) → is_due moment (due_at before.dues slot) ≡ false) × (after ≡ advanced moment before)
Gives (Some slot) moment before after =
    (is_due moment (due_at before.dues slot.0) ≡ true) × (after ≡ removed slot.0 (advanced moment before))
