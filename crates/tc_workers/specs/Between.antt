-- What a worker does to its connections between turns. Source: this project's own.
use Rattle.std.specs.Prelude.{◌≡◌, ◌≢◌, ◌⊎◌, ℕ, List, [], ◌∷◌, Option, Some, None, slice_index_or, slice_set}
use Rattle.tc_links.specs.Lives.{TalkState, IsOpened}
use Rattle.tc_links.specs.Turns.{WorkerState}

-- a connection stands under a key that had none, and each other key has what it had
pub record Enters (talk : TalkState) (before after : List (Option TalkState)) : Type 0 where
  pub key : ℕ
  pub vacant : slice_index_or before key None ≡ None
  pub held : slice_index_or after key None ≡ Some talk
  pub others : (other : ℕ) → other ≢ key → slice_index_or after other None ≡ slice_index_or before other None

-- a worker took a connection in
pub record TakesIn (talk : TalkState) (before after : WorkerState) : Type 0 where
  pub desk : after.desk ≡ before.desk
  pub enters : Enters talk before.links after.links

-- a worker took a new connection
pub record Opens (conn : ℕ) (gave took : Option (List ℕ)) (before after : WorkerState) : Type 0 where
  pub talk : TalkState
  pub opened : IsOpened conn gave took talk
  pub takes : TakesIn talk before after

-- a worker has what it had, or dropped the connection of a key
pub record MayDrop (key : ℕ) (before after : WorkerState) : Type 0 where
  pub desk : after.desk ≡ before.desk
  pub links : (after.links ≡ before.links) ⊎ (after.links ≡ slice_set before.links key None)

-- what befalls a connection between turns
pub data Change : Type 0 where
  -- that of a key was passed on or dropped
  Left : (key : ℕ) → Change
  -- that of a key could not be passed on, and came back
  Back : (key : ℕ) → Change

-- the key's connection left, and came back as it was, under a key that none had then
pub record ComesBack (key : ℕ) (before after : List (Option TalkState)) : Type 0 where
  pub talk : TalkState
  pub held : slice_index_or before key None ≡ Some talk
  pub enters : Enters talk (slice_set before key None) after

-- what a change does to the connections
abbrev pub IsChange : List (Option TalkState) → Change → List (Option TalkState) → Type 0
IsChange before (Left key) after = after ≡ slice_set before key None
IsChange before (Back key) after = ComesBack key before after

-- change after change
abbrev pub AllChanges : List (Option TalkState) → List Change → List (Option TalkState) → Type 0
AllChanges before [] after = after ≡ before
AllChanges before (c ∷ cs) after = (next : List (Option TalkState)) × IsChange before c next × AllChanges next cs after

-- a worker parted with connections, or has some back
pub record Changes (before after : WorkerState) : Type 0 where
  pub desk : after.desk ≡ before.desk
  pub changes : List Change
  pub made : AllChanges before.links changes after.links
