-- What a run gives out, and what is promised of it. Source: this project's own.
use Rattle.std.specs.Prelude.{◌≡◌, ℕ, Bool, true, false, cond, List, [], ◌∷◌, ◌++◌, map, filter, Option, Some, None, ◌==◌, All}
use Rattle.tc_model.specs.Caching.{Event}
use Rattle.tc_model.specs.Connection.{is_closed, user_at}
use Rattle.tc_model.specs.Server.{Connection, Step, Course, run, solo, sent, binds, kept_steps, is_of}
use Rattle.tc_model.specs.Laws.{IsRising}
use Rattle.tc_grammar.specs.declared.command.Command.{Command}
use Rattle.tc_stats.specs.declared.outcome.Outcome.{Outcome}
use Rattle.tc_users.specs.declared.users.UserSpec.{UserSpec}
use Rattle.tc_plain.specs.Freshness.{hits_in, IsCell}
use Rattle.tc_session.specs.TextProtocol.{text_protocol}
use Rattle.tc_core.specs.ServerMachine.{server_machine}
use Rattle.tc_core.specs.declared.outputs.Output.{Output}

-- what one connection was sent, and whether it is closed
abbrev pub output_of : ℕ × Connection server_machine → Output
output_of e = record { connection = e.0; closed = is_closed e.1.endpoint.phase; bytes = e.1.out }

-- whether a connection is closed and what it was sent, if it was opened
abbrev pub sent_by : List Output → ℕ → Option (Bool × List ℕ)
sent_by [] c = None
sent_by (o ∷ os) c = cond (o.connection == c) (Some (o.closed, o.bytes)) (sent_by os c)

-- what connections were sent is what the machine sends them, by rising number
pub record IsRun (users : List UserSpec) (steps : List Step) (outputs : List Output) : Type 0 where
  pub sent : outputs ≡ map output_of (run server_machine users steps).world.connections
  pub rising : IsRising (map (λ o. o.connection) outputs)

-- each user's connections are sent what the machine of that user alone sends on those connections' steps and the clock's
abbrev pub IsIsolatedRun : List UserSpec → List Step → List Output → Type 0
IsIsolatedRun users steps outputs =
    (user : ℕ) (row : UserSpec) → user_at users user ≡ Some row
    → (c : ℕ) → binds text_protocol users steps user c ≡ true
    → sent_by outputs c ≡ sent server_machine (solo server_machine row (kept_steps text_protocol users steps user)) c

-- a connection that is bound to nobody is sent what its own steps alone have it sent
abbrev pub IsUntouchedRun : List UserSpec → List Step → List Output → Type 0
IsUntouchedRun users steps outputs =
    (c : ℕ) → ((user : ℕ) → binds text_protocol users steps user c ≡ false)
    → sent_by outputs c ≡ sent server_machine (run server_machine users (filter (is_of c) steps)) c

-- a user with the same row in another table, and the same steps there, is sent the same
abbrev pub IsIndifferentRun : List UserSpec → List Step → List Output → Type 0
IsIndifferentRun users steps outputs =
    (others : List UserSpec) (ys : List Step) (user other : ℕ) (row : UserSpec)
    → user_at users user ≡ Some row → user_at others other ≡ Some row
    → kept_steps text_protocol users steps user ≡ kept_steps text_protocol others ys other
    → (c : ℕ) → binds text_protocol users steps user c ≡ true → binds text_protocol others ys other c ≡ true
    → sent_by outputs c ≡ sent server_machine (run server_machine others ys) c

-- each hit of these calls shows what the calls before it last left under its key
abbrev pub IsFreshHistory : List (Event Command Outcome) → Type 0
IsFreshHistory calls =
    (before after : List (Event Command Outcome)) (e : Event Command Outcome)
    → calls ≡ before ++ e ∷ after → All (IsCell before e.moment) (hits_in e.outcome)

-- these connections were sent what a course sends, which is the replies to the calls of its history and what needs no call;
-- and that history is fresh
pub record IsFreshCourse (course : Course server_machine) (is_mine : ℕ → Bool) (outputs : List Output) : Type 0 where
  pub shown : (c : ℕ) → is_mine c ≡ true → sent_by outputs c ≡ sent server_machine course c
  pub hits : IsFreshHistory course.history

-- a user's connections were sent what a fresh course of that user's machine alone sends:
-- so each hit that they were shown is what the user's commands before it last left under its key
abbrev pub IsFreshRun : List UserSpec → List Step → List Output → Type 0
IsFreshRun users steps outputs =
    (user : ℕ) (row : UserSpec) → user_at users user ≡ Some row
    → IsFreshCourse (solo server_machine row (kept_steps text_protocol users steps user))
    (binds text_protocol users steps user) outputs

-- all that is promised of what connections were sent
pub record IsPromised (users : List UserSpec) (steps : List Step) (outputs : List Output) : Type 0 where
  pub sent : IsRun users steps outputs
  pub isolated : IsIsolatedRun users steps outputs
  pub untouched : IsUntouchedRun users steps outputs
  pub indifferent : IsIndifferentRun users steps outputs
  pub fresh : IsFreshRun users steps outputs
