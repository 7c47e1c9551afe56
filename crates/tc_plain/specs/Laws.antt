-- The laws of advance, and the cache as a server sees it. Source: this project's own.
use Rattle.std.specs.Prelude.{◌≡◌, ℕ, ◌≤◌}
use Rattle.tc_model.specs.Caching.{Caching}
use Rattle.tc_grammar.specs.declared.command.Command.{Command}
use Rattle.tc_stats.specs.declared.outcome.Outcome.{Outcome}
use Rattle.tc_plain.specs.UserCache.{UserCache, advance}
use Rattle.tc_plain.specs.Doing.{act}

-- the cache of the server's machine
abbrev pub user_caching : Caching Command Outcome
user_caching = record { State = UserCache; advance = advance; act = act }

-- to advance twice is to advance to the later moment
abbrev pub AdvancesOnce : Type 0
AdvancesOnce = (k : UserCache) (m n : ℕ) → m ≤ n → advance (advance k m) n ≡ advance k n

-- each command first advances the cache to its moment
abbrev pub ActsAdvanced : Type 0
ActsAdvanced = (k : UserCache) (m : ℕ) (command : Command) → act k m command ≡ act (advance k m) m command

-- what a command leaves is advanced to its moment
abbrev pub LeavesAdvanced : Type 0
LeavesAdvanced = (k : UserCache) (m : ℕ) (command : Command) → advance (act k m command).1 m ≡ (act k m command).1
