-- What a hall's call does to its caller's seat. Source: this project's own.
use Rattle.std.specs.Prelude.{◌≡◌, zero, suc, ℕ, ◌<◌, ◌≤◌, List, [], ◌∷◌, ◌++◌, length}
use Rattle.tc_grammar.specs.declared.command.Command.{Command}
use Rattle.tc_locked.specs.declared.call_entry.CallEntry.{CallEntry}
use Rattle.tc_locked.specs.declared.call_entry.Slip.{Slip}
use Rattle.tc_locked.specs.Views.{note, of_user}
use Rattle.tc_locked.specs.HallBooks.{SeatState}
use Rattle.tc_locked.specs.Outcomes.{IsOutcomeOf}

-- users are numbered from 1
abbrev pub IsUser : ℕ → ℕ → Type 0
IsUser users u = (0 < u) × (u ≤ users)

-- what a slip tells of an entry
abbrev pub slip_at : ℕ → CallEntry → Slip
slip_at page e = record { page = page; number = e.number; tally = e.tally; moment = e.moment; outcome = e.outcome }

-- the seat has one more note, which is that of the call and of the slip
pub record Wrote (user : ℕ) (before : SeatState) (now conn : ℕ) (command : Command) (slip : Slip) (after : SeatState)
    : Type 0 where
  pub entry : CallEntry
  pub seat : after ≡ record { number = before.number; notes = before.notes ++ note user slip.page entry ∷ [] }
  pub by : entry.seat ≡ before.number
  pub conn_is : entry.conn ≡ conn
  pub command_is : entry.command ≡ command
  pub told : slip ≡ slip_at slip.page entry
  pub moment : now ≤ entry.moment
  pub tally : entry.tally ≡ length (of_user user after.notes)

-- one of so many users was called and answered: the slip tells of the entry that the seat notes, and some cache comes to its outcome
abbrev pub IsAnswered : ℕ → ℕ → SeatState → ℕ → ℕ → Command → Slip → SeatState → Type 0
IsAnswered users user before now conn command slip after =
    IsUser users user × Wrote user before now conn command slip after × IsOutcomeOf command slip.outcome

-- seats that wrote nothing, numbered from 0
abbrev pub new_seats : ℕ → List SeatState
new_seats zero = []
new_seats (suc n) = new_seats n ++ record { number = n; notes = [] } ∷ []
