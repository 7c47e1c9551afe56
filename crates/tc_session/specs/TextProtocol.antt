-- What a connection's next request asks for, before and after it is bound.
-- Source: memcached's doc/protocol.txt, "Authentication".
use Rattle.std.specs.Prelude.{ℕ, Bool, List, [], codes, Option, None, Some}
use Rattle.tc_model.specs.Connection.{Protocol, Asks, Idle, Tell, Login, Leave, Wants, Rest, Reply, Run, Quit as Parting}
use Rattle.tc_item.specs.Bounds.{largest_item}
use Rattle.tc_grammar.specs.declared.command.StoreKind.{StoreKind}
use Rattle.tc_grammar.specs.declared.command.StoreKind.TheVariants.{Set}
use Rattle.tc_grammar.specs.declared.command.Head.{Head}
use Rattle.tc_grammar.specs.declared.command.Command.{Command}
use Rattle.tc_grammar.specs.declared.command.Command.TheVariants.{Store, Quit}
use Rattle.tc_grammar.specs.declared.fault.Fault.{Fault}
use Rattle.tc_grammar.specs.declared.fault.Fault.TheVariants.{LineTooLong, Unauthenticated, AuthenticationFailure}
use Rattle.tc_grammar.specs.Outlines.{is_quiet}
use Rattle.tc_feed.specs.declared.request.Request.{Request}
use Rattle.tc_feed.specs.declared.request.Request.TheVariants.{Ask, Refused}
use Rattle.tc_feed.specs.Stream.{Reader, more, empty, found, after_first}
use Rattle.tc_stats.specs.declared.outcome.Outcome.{Outcome}
use Rattle.tc_users.specs.declared.users.UserSpec.{UserSpec}
use Rattle.tc_users.specs.Login.{opens}
use Rattle.tc_session.specs.Texts.{fault_line, unless_quiet}
use Rattle.tc_session.specs.Replies.{render}

-- the most bytes of a block before a connection is bound; after it they are those of the largest item
abbrev pub unbound_limit : ℕ
unbound_limit = 256

-- a fault's line, unless it is quiet
abbrev pub fault_said : Fault → Bool → List ℕ
fault_said fault quiet = unless_quiet quiet (fault_line fault)

-- a fault before binding: after a line that is too long there is nothing more
abbrev pub unbound_fault : Fault → List ℕ → Asks
unbound_fault LineTooLong text = Leave text
unbound_fault fault text = Tell text

-- a fault after binding
abbrev pub bound_fault : Fault → List ℕ → Wants Command
bound_fault LineTooLong text = Parting text
bound_fault fault text = Reply text

-- a storage command before binding: a `set` is a login by its block, whatever its key, flags and exptime
abbrev pub unbound_store : StoreKind → Head → List ℕ → Asks
unbound_store Set head blob =
    Login blob (unless_quiet head.quiet (codes "STORED\r\n")) (fault_said AuthenticationFailure head.quiet)
unbound_store kind head blob = Tell (fault_said Unauthenticated head.quiet)

-- a command before binding
abbrev pub unbound_command : Command → Asks
unbound_command (Store head blob) = unbound_store head.kind head blob
unbound_command Quit = Leave []
unbound_command command = Tell (fault_said Unauthenticated (is_quiet command))

-- a request before binding
abbrev pub unbound_asks : Option Request → Asks
unbound_asks None = Idle
unbound_asks (Some (Ask command)) = unbound_command command
unbound_asks (Some (Refused fault quiet)) = unbound_fault fault (fault_said fault quiet)

-- a command after binding
abbrev pub bound_command : Command → Wants Command
bound_command Quit = Parting []
bound_command command = Run command

-- a request after binding
abbrev pub bound_wants : Option Request → Wants Command
bound_wants None = Rest
bound_wants (Some (Ask command)) = bound_command command
bound_wants (Some (Refused fault quiet)) = bound_fault fault (fault_said fault quiet)

-- the protocol of the server
abbrev pub text_protocol : Protocol Command Outcome
text_protocol = record {
  Row = UserSpec;
  Reader = Reader;
  start = empty;
  more = more;
  unbound = λ r. (unbound_asks (found unbound_limit r), after_first unbound_limit r);
  bound = λ r. (bound_wants (found largest_item r), after_first largest_item r);
  opens = opens;
  render = render;
}
