-- What a hall's call may answer. Source: this project's own.
use Rattle.std.specs.Prelude.{◌≡◌, ℕ}
use Rattle.tc_grammar.specs.declared.command.Command.{Command}
use Rattle.tc_stats.specs.declared.outcome.Outcome.{Outcome}
use Rattle.tc_plain.specs.UserCache.{UserCache}
use Rattle.tc_plain.specs.Doing.{act}

-- some cache comes to this outcome at the command
pub record IsOutcomeOf (command : Command) (outcome : Outcome) : Type 0 where
  pub cache : UserCache
  pub moment : ℕ
  pub given : outcome ≡ (act cache moment command).0
