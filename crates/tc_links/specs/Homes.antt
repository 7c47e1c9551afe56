-- Which worker serves which user. Source: this project's own.
use Rattle.std.specs.Prelude.{ℕ, ◌-◌, ◌%◌, ◌==◌, Option, Some, None, if◌then◌else◌}

-- the worker that serves a user, from 0: users are dealt out in the order of their numbers, from 1
abbrev pub home_of : ℕ → ℕ → ℕ
home_of workers user = (user - 1) % workers

-- the worker that serves a connection of a user: the user's home, or a helper of that
abbrev pub place_of : ℕ → ℕ → Option ℕ → ℕ
place_of workers user None = home_of workers user
place_of workers user (Some helper) = helper % workers

-- of the worker `own` of so many: the worker that serves the connection, where it is another one
abbrev pub elsewhere : ℕ → ℕ → ℕ → Option ℕ → Option ℕ
elsewhere own workers user helper = if place_of workers user helper == own then None else Some (place_of workers user helper)
