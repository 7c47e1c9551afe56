-- Where a request may be refused memory. Source: this project's own.
use Rattle.std.specs.Prelude.{◌⊎◌, ◌<◌, List, ℕ}
use Rattle.tc_model.specs.Connection.{Phase, Unbound, Bound, Closed}
use Rattle.tc_feed.specs.Refusing.{HasLine}
use Rattle.tc_session.specs.SessionView.{SessionView, needed_room}

-- a connection that is not closed has a whole line unread
abbrev pub HasLineUnread : Phase → List ℕ → Type 0
HasLineUnread Unbound unread = HasLine unread
HasLineUnread (Bound user) unread = HasLine unread
HasLineUnread Closed unread = ⊥

-- memory is wanted for the next request: there is too little room to say something, or a whole line is to be read
abbrev pub WantsMemory : SessionView → Type 0
WantsMemory s = (s.room < needed_room) ⊎ HasLineUnread s.endpoint.phase s.endpoint.reader.unread
