-- A connection on which no whole request is there.
use Rattle.std.proofs.Common.{◌≡◌, ℕ, List, None, refl, sym, subst}
use Rattle.tc_model.specs.Connection.{Phase, Unbound, Bound, Closed, Endpoint, turn, turn_at}
use Rattle.tc_item.specs.Bounds.{largest_item}
use Rattle.tc_feed.specs.Stream.{Reader, found, after_first}
use Rattle.tc_users.specs.declared.users.UserSpec.{UserSpec}
use Rattle.tc_session.specs.SessionView.{resting_turn}
use Rattle.tc_session.specs.TextProtocol.{text_protocol, unbound_limit}

-- the turn at a phase is that of a connection at rest
abbrev Rests : List UserSpec → Reader → Phase → Type 0
Rests rows r phase = turn_at text_protocol rows r phase ≡ resting_turn (record { phase = phase; reader = r })

pub resting_closed : (rows : List UserSpec) (e : Endpoint text_protocol) → e.phase ≡ Closed
    → turn text_protocol rows e ≡ resting_turn e
resting_closed rows e h = subst (Rests rows e.reader) (sym h) refl

pub resting_unbound : (rows : List UserSpec) (e : Endpoint text_protocol) → e.phase ≡ Unbound
    → found unbound_limit e.reader ≡ None → after_first unbound_limit e.reader ≡ e.reader
    → turn text_protocol rows e ≡ resting_turn e
resting_unbound rows e h none stays = subst (Rests rows e.reader) (sym h) (rw (none, stays) refl)

pub resting_bound : (rows : List UserSpec) (e : Endpoint text_protocol) (user : ℕ) → e.phase ≡ Bound user
    → found largest_item e.reader ≡ None → after_first largest_item e.reader ≡ e.reader
    → turn text_protocol rows e ≡ resting_turn e
resting_bound rows e user h none stays = subst (Rests rows e.reader) (sym h) (rw (none, stays) refl)
