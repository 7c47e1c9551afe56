-- A connection as contracts see it. Source: this project's own.
use Rattle.std.specs.Prelude.{◌≡◌, ℕ, ◌+◌, ◌*◌, ◌≤◌, ◌++◌, Bool, List, [], codes, Option}
use Rattle.tc_model.specs.Connection.{Phase, Unbound, Bound, Closed, Endpoint, Want, Nothing, Said, Call, Close, Turn}
use Rattle.tc_model.specs.Connection.{login, login_turn, unbound_turn, bound_turn}
use Rattle.tc_item.specs.Bounds.{largest_item}
use Rattle.tc_feed.specs.Stream.{longest_line, found, after_first}
use Rattle.tc_feed.specs.declared.request.Request.{Request}
use Rattle.tc_grammar.specs.declared.command.Command.{Command}
use Rattle.tc_session.specs.declared.session.Phase.{Phase as PhaseCode}
use Rattle.tc_session.specs.declared.session.Phase.TheVariants.{Unbound as IsUnbound, Bound as IsBound, Closed as IsClosed}
use Rattle.tc_session.specs.declared.want.Want.{Want as WantCode}
use Rattle.tc_session.specs.declared.want.Want.TheVariants.{Nothing as IsNothing, Said as IsSaid, Call as IsCall}
use Rattle.tc_session.specs.declared.want.Want.TheVariants.{Close as IsClose}
use Rattle.tc_grammar.specs.declared.fault.Fault.{Fault}
use Rattle.tc_grammar.specs.declared.fault.Fault.TheVariants.{LineTooLong, AuthenticationFailure}
use Rattle.tc_users.specs.declared.users.UserSpec.{UserSpec}
use Rattle.tc_session.specs.Texts.{unless_quiet}
use Rattle.tc_session.specs.TextProtocol.{text_protocol, unbound_limit, fault_said, unbound_asks, bound_wants}

-- the phase of a session, as the machine has it
abbrev pub phase_of : PhaseCode → Phase
phase_of IsUnbound = Unbound
phase_of (IsBound user) = Bound user
phase_of IsClosed = Closed

-- the room that a reply is said in, but that to a look-up or to `stats`, and that a refusal is
abbrev pub reply_room : ℕ
reply_room = 64

-- the room that a request is read with: for what is said at once, and for a reply or its refusal
abbrev pub needed_room : ℕ
needed_room = 2 * reply_room

-- a connection: its endpoint, the bytes that wait to be sent, how many of these, the last, are not written yet, and for how
-- many more there is room
pub record SessionView : Type 0 where
  pub endpoint : Endpoint text_protocol
  pub out : List ℕ
  pub unwritten : ℕ
  pub room : ℕ

-- what a session wants, as the machine has it
abbrev pub want_of : WantCode → Want Command
want_of IsNothing = Nothing
want_of IsSaid = Said
want_of (IsCall user command) = Call user command
want_of IsClose = Close

-- after a line that is too long the connection is closed
abbrev pub fault_phase : Fault → Phase → Phase
fault_phase LineTooLong phase = Closed
fault_phase fault phase = phase

-- what a fault leaves to do
abbrev pub fault_want : Fault → Want Command
fault_want LineTooLong = Close
fault_want fault = Said

-- where no whole request is there, a longest line and all but a byte of its block and its
-- line end are unread at most; a closed connection reads no more
abbrev pub KeepsAtMost : Phase → ℕ → Type 0
KeepsAtMost Unbound unread = unread ≤ unbound_limit + (longest_line + 2)
KeepsAtMost (Bound user) unread = unread ≤ largest_item + (longest_line + 2)
KeepsAtMost Closed unread = Unit {0}

-- the most bytes that are unread of an open connection with no whole request: what KeepsAtMost says of either limit
abbrev pub most_resting : ℕ
most_resting = largest_item + (longest_line + 2)

-- the turn of an unbound connection, by the request that was found
abbrev pub turn_unbound : List UserSpec → SessionView → Option Request → Turn text_protocol
turn_unbound rows s request = unbound_turn text_protocol rows s.endpoint.reader (unbound_asks request)

-- the turn of a login by this data
abbrev pub turn_login : List UserSpec → SessionView → Bool → List ℕ → Turn text_protocol
turn_login rows s quiet text =
    login_turn text_protocol s.endpoint.reader (unless_quiet quiet (codes "STORED\r\n"))
    (fault_said AuthenticationFailure quiet) (login text_protocol rows text)

-- the turn of a user's connection, by the request that was found
abbrev pub turn_bound : ℕ → SessionView → Option Request → Turn text_protocol
turn_bound user s request = bound_turn text_protocol user s.endpoint.reader (bound_wants request)

-- the next turn of a user's connection
abbrev pub next_turn : ℕ → SessionView → Turn text_protocol
next_turn user s =
    bound_turn text_protocol user (after_first largest_item s.endpoint.reader)
    (bound_wants (found largest_item s.endpoint.reader))

-- the turn of a connection on which no whole request is there
abbrev pub resting_turn : Endpoint text_protocol → Turn text_protocol
resting_turn e = record { want = Nothing; said = []; endpoint = e }

-- a turn was done with this to be wanted: the endpoint is the turn's, and what the turn says stands behind what waited
abbrev pub IsDone : Turn text_protocol → SessionView → SessionView → WantCode → Type 0
IsDone t before after want = (want_of want ≡ t.want) × (after.endpoint ≡ t.endpoint) × (after.out ≡ before.out ++ t.said)
