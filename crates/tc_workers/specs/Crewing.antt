-- What befalls a crew's workers, one event after the other: a connection may come to a worker from another one.
-- Source: this project's own.
use Rattle.std.specs.Prelude.{◌≡◌, ◌⊎◌, ℕ, List, [], ◌∷◌, map, Option, Some, None, All, Contains, slice_get, slice_index_or}
use Rattle.std.specs.Prelude.{slice_set}
use Rattle.tc_users.specs.declared.users.UserSpec.{UserSpec}
use Rattle.tc_locked.specs.HallBooks.{SeatState}
use Rattle.tc_links.specs.Lives.{TalkState}
use Rattle.tc_links.specs.Turns.{WorkerState, Serves}
use Rattle.tc_workers.specs.Between.{Opens, TakesIn, MayDrop, Changes}

-- workers, and connections that left one, as they were when they did
pub record CrewState : Type 0 where
  pub workers : List WorkerState
  pub left : List TalkState

-- no connection came yet
pub record IsNew (crew : CrewState) : Type 0 where
  pub idle : All (λ worker. worker.links ≡ []) crew.workers
  pub none : crew.left ≡ []

-- what befalls a worker
pub data Event : Type 0 where
  -- it makes a turn
  Turn : Event
  -- a new connection comes to it
  Opening : (conn : ℕ) → (gave took : Option (List ℕ)) → Event
  -- a connection that left a worker comes to it
  Taking : (talk : TalkState) → Event
  -- connections leave it, or come back
  Passing : Event
  -- the connection of a key may be dropped
  Dropping : (key : ℕ) → Event

-- what an event does to a worker, where these connections left one
abbrev pub Befalls : List UserSpec → List TalkState → Event → WorkerState → WorkerState → Type 0
Befalls rows left Turn before after = (most : ℕ) × Serves most rows before after
Befalls rows left (Opening conn gave took) before after = Opens conn gave took before after
Befalls rows left (Taking talk) before after = Contains left talk × TakesIn talk before after
Befalls rows left Passing before after = Changes before after
Befalls rows left (Dropping key) before after = MayDrop key before after

-- a worker has this connection
abbrev pub Has : WorkerState → TalkState → Type 0
Has worker talk = (key : ℕ) × (slice_index_or worker.links key None ≡ Some talk)

-- one worker has an event, in which connections that it had may leave it
pub record IsEvent (rows : List UserSpec) (event : Event) (before after : CrewState) : Type 0 where
  pub at : ℕ
  pub was : WorkerState
  pub is : WorkerState
  pub found : slice_get before.workers at ≡ Some was
  pub befell : Befalls rows before.left event was is
  pub workers : after.workers ≡ slice_set before.workers at is
  pub left : All (λ talk. Contains before.left talk ⊎ Has was talk) after.left

-- event after event, all turns by this table of users
abbrev pub AllEvents : List UserSpec → CrewState → List Event → CrewState → Type 0
AllEvents rows before [] after = after ≡ before
AllEvents rows before (e ∷ es) after = (next : CrewState) × IsEvent rows e before next × AllEvents rows next es after

-- a connection that a worker has, or that left one
abbrev pub IsOf : CrewState → TalkState → Type 0
IsOf crew talk =
    Contains crew.left talk ⊎ ((at : ℕ) × (worker : WorkerState) × (slice_get crew.workers at ≡ Some worker) × Has worker talk)

-- the workers' seats
abbrev pub seats_of : CrewState → List SeatState
seats_of crew = map (λ worker. worker.desk.seat) crew.workers
