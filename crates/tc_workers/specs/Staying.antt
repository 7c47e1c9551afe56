-- Which connections of a worker are talks since they were opened. Source: this project's own.
use Rattle.std.specs.Prelude.{ℕ, List, Option, None, IfSome, slice_index_or}
use Rattle.tc_users.specs.declared.users.UserSpec.{UserSpec}
use Rattle.tc_links.specs.Lives.{TalkState, IsOpen}
use Rattle.tc_links.specs.Turns.{WorkerState, Serves}
use Rattle.tc_workers.specs.Between.{TakesIn, Opens, MayDrop, Changes}

-- each connection goes on, and was served by this table alone
abbrev pub AllOpen : List UserSpec → WorkerState → Type 0
AllOpen rows worker = (key : ℕ) → IfSome (slice_index_or worker.links key None) (IsOpen rows)

-- a turn by this table leaves all open
abbrev pub TurnKeepsOpen : Type 0
TurnKeepsOpen =
    (rows : List UserSpec) (most : ℕ) (a b : WorkerState) → AllOpen rows a → Serves most rows a b → AllOpen rows b

-- a new connection is open
abbrev pub OpeningKeepsOpen : Type 0
OpeningKeepsOpen =
    (rows : List UserSpec) (conn : ℕ) (gave took : Option (List ℕ)) (a b : WorkerState) → AllOpen rows a
    → Opens conn gave took a b → AllOpen rows b

-- and so is one that is taken over open
abbrev pub TakingKeepsOpen : Type 0
TakingKeepsOpen =
    (rows : List UserSpec) (talk : TalkState) (a b : WorkerState) → AllOpen rows a → IsOpen rows talk → TakesIn talk a b
    → AllOpen rows b

-- what is passed on, or comes back, leaves all open
abbrev pub PassingKeepsOpen : Type 0
PassingKeepsOpen = (rows : List UserSpec) (a b : WorkerState) → AllOpen rows a → Changes a b → AllOpen rows b

-- what may be dropped leaves all open
abbrev pub DroppingKeepsOpen : Type 0
DroppingKeepsOpen =
    (rows : List UserSpec) (key : ℕ) (a b : WorkerState) → AllOpen rows a → MayDrop key a b → AllOpen rows b
