-- Requests that are declined where memory is refused. Source: this project's own.
use Rattle.std.specs.Prelude.{◌≡◌, ℕ, List, [], ◌∷◌, ◌++◌, Option, Some, None}
use Rattle.tc_model.specs.Connection.{Call, Turn}
use Rattle.tc_grammar.specs.declared.command.Command.{Command}
use Rattle.tc_feed.specs.Stream.{Reader}
use Rattle.tc_session.specs.Refusals.{refusal_of}
use Rattle.tc_session.specs.SessionView.{SessionView, want_of}
use Rattle.tc_session.specs.TextProtocol.{text_protocol}
use Rattle.tc_session.specs.declared.want.Want.{Want as WantCode}

-- a request that was declined: the reader that it was looked for in, and whose connection it came on
abbrev pub Decline : Type 0
Decline = Reader × ℕ

-- a request is a command of this user, which is not done: that memory was refused is said, unless its line has `noreply`
pub record Declines (user : ℕ) (t : Turn text_protocol) (before after : SessionView) : Type 0 where
  pub command : Command
  pub wanted : t.want ≡ Call user command
  pub says : after.out ≡ before.out ++ refusal_of command

-- what is made of a request that is passed over: what the machine has, or a command is declined
abbrev pub IsPassed : ℕ → Turn text_protocol → SessionView → SessionView → Option WantCode → Type 0
IsPassed user t before after (Some want) = (want_of want ≡ t.want) × (after.out ≡ before.out ++ t.said)
IsPassed user t before after None = Declines user t before after

-- what is made of a request that is asked for: what the machine has, or a command is declined, and listed
abbrev pub IsAsked : Turn text_protocol → SessionView → SessionView → List Decline → List Decline → Option WantCode → Type 0
IsAsked t before after from to (Some want) =
    (want_of want ≡ t.want) × (after.out ≡ before.out ++ t.said) × (to ≡ from)
IsAsked t before after from to None =
    (user : ℕ) × Declines user t before after × (to ≡ from ++ (before.endpoint.reader, user) ∷ [])
