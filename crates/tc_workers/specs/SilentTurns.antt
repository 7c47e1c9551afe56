-- What a part of a turn comes to in which no call is made. Source: this project's own.
use Rattle.std.specs.Prelude.{List}
use Rattle.tc_users.specs.declared.users.UserSpec.{UserSpec}
use Rattle.tc_links.specs.Turns.{WorkerState, Serves}

-- a worker visited connections and made no call, whoever the users are
abbrev pub ServesSilently : WorkerState → WorkerState → Type 0
ServesSilently before after = (rows : List UserSpec) → Serves 0 rows before after
