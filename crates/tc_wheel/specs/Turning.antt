-- The wheel as callers see it, and what is always true of it.
use Rattle.std.specs.Prelude.{Option, ℕ, ◌≤◌, List, drop}
use Rattle.tc_wheel.specs.Dues.{Dues}
use Rattle.tc_wheel.specs.Kept.{IsSwept}
use Rattle.tc_wheel.specs.Links.{Links}
use Rattle.tc_wheel.specs.declared.wheel.Wheel.TheInside.{Inside}

-- the dues of slots: those of the nodes behind the marks
unfoldable pub slot_dues : List (Option ℕ) → List (Option ℕ)
slot_dues dues = drop 4097 dues

-- what callers see
abbrev pub dues_of : Inside → Dues
dues_of w = record { moment = w.moment; dues = slot_dues w.nodes.notes }

-- the seconds that are left to walk have passed, and nothing else is due in a bucket
pub record AreTurning (moment left : ℕ) (l : Links) : Type 0 where
  pub passed : left ≤ moment
  pub swept : IsSwept 4096 moment left l

-- so the wheel's nodes are
abbrev pub IsTurning : Inside → Type 0
IsTurning w = AreTurning w.moment w.left w.nodes
