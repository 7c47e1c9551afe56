-- What a connection asks of its user's cache: never to quit.
use Rattle.std.proofs.Common.{◌≡◌, ◌≢◌, ℕ, List, Option, Some, None, refl}
use Rattle.tc_model.specs.Connection.{Phase, Unbound, Bound, Closed, Endpoint, Asks, Idle, Tell, Login, Leave}
use Rattle.tc_model.specs.Connection.{Wants, Rest, Reply, Run}
use Rattle.tc_model.specs.Connection.{Quit as Parting, Call, login, login_turn, unbound_turn, bound_turn, turn_at, turn}
use Rattle.tc_item.specs.Bounds.{largest_item}
use Rattle.tc_grammar.specs.declared.command.Command.{Command}
use Rattle.tc_grammar.specs.declared.command.Command.TheVariants.{Store, Get, Gat, Delete, Count, Touch, Flush, Stats, Version}
use Rattle.tc_grammar.specs.declared.command.Command.TheVariants.{Verbosity, Quit}
use Rattle.tc_grammar.specs.declared.fault.Fault.{Fault}
use Rattle.tc_grammar.specs.declared.fault.Fault.TheVariants.{LineTooLong}
use Rattle.tc_feed.specs.declared.request.Request.{Request}
use Rattle.tc_feed.specs.declared.request.Request.TheVariants.{Ask, Refused}
use Rattle.tc_feed.specs.Stream.{Reader, found, after_first}
use Rattle.tc_users.specs.declared.users.UserSpec.{UserSpec}
use Rattle.tc_session.specs.TextProtocol.{text_protocol, bound_command, bound_fault, bound_wants, unbound_limit}
use Rattle.tc_session.specs.TextProtocol.{unbound_asks, fault_said}

bound_command-run : (asked command : Command) → bound_command asked ≡ Run command → command ≢ Quit
bound_command-run (Store head blob) command e q = cc
bound_command-run (Get form keys) command e q = cc
bound_command-run (Gat form exptime keys) command e q = cc
bound_command-run (Delete key quiet) command e q = cc
bound_command-run (Count way key value quiet) command e q = cc
bound_command-run (Touch key exptime quiet) command e q = cc
bound_command-run (Flush delay quiet) command e q = cc
bound_command-run Stats command e q = cc
bound_command-run Version command e q = cc
bound_command-run (Verbosity level quiet) command e q = cc
bound_command-run Quit command e q = cc

bound_fault-run : (fault : Fault) (text : List ℕ) (command : Command) → bound_fault fault text ≡ Run command → command ≢ Quit
bound_fault-run LineTooLong text command e q = cc
bound_fault-run fault text command e q = cc

bound_wants-run : (o : Option Request) (command : Command) → bound_wants o ≡ Run command → command ≢ Quit
bound_wants-run None command e q = cc
bound_wants-run (Some (Ask asked)) command e q = bound_command-run asked command e q
bound_wants-run (Some (Refused fault quiet)) command e q = bound_fault-run fault (fault_said fault quiet) command e q

bound_turn-call : (user : ℕ) (r : Reader) (w : Wants Command) → ((command : Command) → w ≡ Run command → command ≢ Quit)
    → (number : ℕ) (command : Command) → (bound_turn text_protocol user r w).want ≡ Call number command → command ≢ Quit
bound_turn-call user r Rest runs number command e q = cc
bound_turn-call user r (Reply text) runs number command e q = cc
bound_turn-call user r (Run asked) runs number command e q = runs asked refl cc
bound_turn-call user r (Parting text) runs number command e q = cc

login_turn-call : (r : Reader) (granted denied : List ℕ) (o : Option ℕ) (number : ℕ) (command : Command)
    → (login_turn text_protocol r granted denied o).want ≢ Call number command
login_turn-call r granted denied None number command e = cc
login_turn-call r granted denied (Some user) number command e = cc

unbound_turn-call : (rows : List UserSpec) (r : Reader) (a : Asks) (number : ℕ) (command : Command)
    → (unbound_turn text_protocol rows r a).want ≢ Call number command
unbound_turn-call rows r Idle number command e = cc
unbound_turn-call rows r (Tell text) number command e = cc
unbound_turn-call rows r (Login text granted denied) number command e =
    login_turn-call r granted denied (login text_protocol rows text) number command e
unbound_turn-call rows r (Leave text) number command e = cc

pub turn-call : (rows : List UserSpec) (e : Endpoint text_protocol) (number : ℕ) (command : Command)
    → (turn text_protocol rows e).want ≡ Call number command → command ≢ Quit
turn-call rows e number command h = go e.phase h
  where
    go : (phase : Phase) → (turn_at text_protocol rows e.reader phase).want ≡ Call number command → command ≢ Quit
    go Closed f q = cc
    go Unbound f q =
        absurd (unbound_turn-call rows (after_first unbound_limit e.reader) (unbound_asks (found unbound_limit e.reader)) number
        command f)
    go (Bound user) f q =
        bound_turn-call user (after_first largest_item e.reader) (bound_wants (found largest_item e.reader))
        (bound_wants-run (found largest_item e.reader)) number command f q
