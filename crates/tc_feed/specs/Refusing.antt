-- Where a look for a request may want memory. Source: this project's own.
use Rattle.std.specs.Prelude.{List, ℕ, take, IsSome}
use Rattle.tc_feed.specs.Stream.{line_length, line_room}

-- the unread bytes begin with a whole line, with its line feed
abbrev pub HasLine : List ℕ → Type 0
HasLine unread = IsSome (line_length (take line_room unread))
