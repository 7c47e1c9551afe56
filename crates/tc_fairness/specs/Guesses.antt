-- How long the reply to a refused login waits. Source: this project's own.
use Rattle.std.specs.Prelude.{ℕ}

-- so many refused logins of a connection are answered at once
abbrev pub free : ℕ
free = 3

-- after so many whole seconds of the clock a reply that waits is sent
abbrev pub held_seconds : ℕ
held_seconds = 2
