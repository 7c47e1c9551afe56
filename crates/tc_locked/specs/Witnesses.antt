-- An entry as proofs know it. Source: this project's own.
use Rattle.std.specs.Prelude.{List, [], ◌∷◌}
use Rattle.tc_grammar.specs.declared.command.Command.{Command}
use Rattle.tc_grammar.specs.declared.command.Command.TheVariants.{Quit}
use Rattle.tc_stats.specs.declared.outcome.Outcome.{Outcome}
use Rattle.tc_stats.specs.declared.outcome.Outcome.TheVariants.{Done}
use Rattle.tc_locked.specs.declared.call_entry.CallEntry.{CallEntry}
use Rattle.tc_locked.specs.declared.call_entry.Numbers.{Numbers}

-- the numbers and the command that were noted first
abbrev pub first_command : List (Numbers × Command) → Numbers × Command
first_command [] = (record { seat = 0; tally = 0; number = 0; moment = 0; conn = 0 }, Quit)
first_command (x ∷ xs) = x

-- the outcome that was noted first
abbrev pub first_outcome : List (Numbers × Outcome) → Outcome
first_outcome [] = Done
first_outcome (x ∷ xs) = x.1

-- an entry, from its numbers, its command and its outcome
abbrev pub entry_from : Numbers → Command → Outcome → CallEntry
entry_from n command outcome = record {
  seat = n.seat;
  tally = n.tally;
  number = n.number;
  moment = n.moment;
  conn = n.conn;
  command = command;
  outcome = outcome;
}

-- the entry of what was noted
abbrev pub entry_seen : Numbers × Command → Outcome → CallEntry
entry_seen said outcome = entry_from said.0 said.1 outcome
