-- The entry of what a command came to. Source: this project's own.
use Rattle.std.specs.Prelude.{ℕ, ◌+◌, List, slice_index}
use Rattle.tc_grammar.specs.declared.command.Command.{Command}
use Rattle.tc_stats.specs.declared.outcome.Outcome.{Outcome}
use Rattle.tc_locked.specs.declared.book.Caller.{Caller}
use Rattle.tc_locked.specs.declared.call_entry.CallEntry.{CallEntry}

-- the entry of a caller's command, where so many entries of each seat and so many in all came before it
abbrev pub entered : List ℕ → ℕ → Caller → Command → Outcome → CallEntry
entered counts number by command outcome = record {
  seat = by.seat_no;
  tally = slice_index counts by.seat_no + 1;
  number = number + 1;
  moment = by.moment;
  conn = by.conn;
  command = command;
  outcome = outcome;
}
