-- A request that is passed over, and one to which memory was refused before.
use Rattle.std.specs.Prelude.{IfOk}
use Rattle.std.proofs.Common.{◌≡◌, ℕ, Bool, List, [], ◌∷◌, ◌++◌, Option, Some, None, Result, Ok, Err, refl, sym, ◌∙◌, ap, arith}
use Rattle.tc_model.specs.Connection.{bound_turn, turn}
use Rattle.tc_item.specs.declared.no_memory.NoMemory.{NoMemory}
use Rattle.tc_grammar.specs.Outlines.{is_quiet}
use Rattle.tc_grammar.specs.declared.command.Command.{Command}
use Rattle.tc_grammar.specs.declared.command.Command.TheVariants.{Quit}
use Rattle.tc_grammar.specs.declared.fault.Fault.TheVariants.{NoMemory as OutOfMemory}
use Rattle.tc_feed.specs.Passing.{passed_of, passed_command}
use Rattle.tc_feed.specs.Stream.{Reader}
use Rattle.tc_feed.specs.declared.passing.Passed.TheVariants.{Command as Asks}
use Rattle.tc_feed.specs.declared.request.Request.{Request}
use Rattle.tc_feed.specs.declared.request.Request.TheVariants.{Ask, Refused}
use Rattle.tc_users.specs.declared.users.UserSpec.{UserSpec}
use Rattle.tc_session.specs.Declines.{Decline, Declines, IsAsked}
use Rattle.tc_session.specs.Refusals.{refusal_of}
use Rattle.tc_session.specs.SessionView.{SessionView}
use Rattle.tc_session.specs.Texts.{fault_line, unless_quiet}
use Rattle.tc_session.specs.TextProtocol.{text_protocol, bound_wants}
use Rattle.tc_session.specs.declared.want.Want.{Want as WantCode}

same_quiet : (b c : Bool) → Asks b ≡ Asks c → c ≡ b
same_quiet b c e = grind arith

-- a command that was passed over is declined where its refusal is said
pub declines-passed : (user : ℕ) (r : Reader) (request : Request) (quiet : Bool) (before after : SessionView)
    → passed_of request ≡ Asks quiet → after.out ≡ before.out ++ unless_quiet quiet (fault_line OutOfMemory)
    → Declines user (bound_turn text_protocol user r (bound_wants (Some request))) before after
declines-passed user r (Refused fault quiet_fault) quiet before after e said = absurd (grind arith)
declines-passed user r (Ask asked) quiet before after e said = go asked e
  where
    go : (asked : Command) → passed_command asked ≡ Asks quiet
        → Declines user (bound_turn text_protocol user r (bound_wants (Some (Ask asked)))) before after
    go Quit f = absurd (grind arith)
    go command f = record {
      command = command;
      wanted = refl;
      says =
          said
          ∙ ap (λ b. before.out ++ unless_quiet b (fault_line OutOfMemory)) (same_quiet (is_quiet command) quiet f);
    }

-- what is made of a request at which the connection was as before
pub asked-as : (rows : List UserSpec) (a b after : SessionView) (from to : List Decline) (r : Result (Option WantCode) NoMemory)
    → b.endpoint ≡ a.endpoint → b.out ≡ a.out → IfOk r (IsAsked (turn text_protocol rows b.endpoint) b after from to)
    → IfOk r (IsAsked (turn text_protocol rows a.endpoint) a after from to)
asked-as rows a b after from to (Err e) endpoint out h = tt
asked-as rows a b after from to (Ok (Some want)) endpoint out (wants, says, listed) = (
  wants ∙ ap (λ e. (turn text_protocol rows e).want) endpoint,
  says ∙ ap (λ xs. xs ++ (turn text_protocol rows b.endpoint).said) out
      ∙ ap (λ e. a.out ++ (turn text_protocol rows e).said) endpoint,
  listed,
)
asked-as rows a b after from to (Ok None) endpoint out (user, declines, listed) = (
  user,
  record {
    command = declines.command;
    wanted = ap (λ e. (turn text_protocol rows e).want) (sym endpoint) ∙ declines.wanted;
    says = declines.says ∙ ap (λ xs. xs ++ refusal_of declines.command) out;
  },
  listed ∙ ap (λ e. from ++ (e.reader, user) ∷ []) endpoint,
)
