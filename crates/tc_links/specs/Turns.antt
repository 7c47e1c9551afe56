-- What a worker and a keeper keep to. Source: this project's own.
use Rattle.std.specs.Prelude.{◌≡◌, ℕ, ◌+◌, Bool, true, false, List, [], ◌∷◌, ◌++◌, Option, Some, None, slice_index_or, slice_set}
use Rattle.std.specs.Prelude.{cond, nat_lt}
use Rattle.tc_users.specs.declared.users.UserSpec.{UserSpec}
use Rattle.tc_session.specs.SessionView.{most_resting}
use Rattle.tc_links.specs.declared.pace.Onward.{Onward}
use Rattle.tc_links.specs.declared.pace.Onward.TheVariants.{GoesOn, Done}
use Rattle.tc_links.specs.Talks.{Move, DeskState, Goes, Notes}
use Rattle.tc_links.specs.Lives.{TalkState, IsOpen}

-- the most bytes of one read
abbrev pub longest_piece : ℕ
longest_piece = 16384

-- the most bytes of a connection that are unread: those of one with no whole request, and one read
abbrev pub most_kept : ℕ
most_kept = most_resting + longest_piece

-- a worker: where it calls, its connections by their keys, and how many of them its next turn goes over
pub record WorkerState : Type 0 where
  pub desk : DeskState
  pub links : List (Option TalkState)
  pub due : ℕ

-- what a worker does with the connection of a key
pub data Visit : Type 0 where
  -- it makes these moves
  Moved : (key : ℕ) → (moves : List Move) → Visit
  -- it makes these moves, and is dropped
  Dropped : (key : ℕ) → (moves : List Move) → Visit

-- the key's connection made these moves, all that its wire gave came to it, and it goes on
pub record IsMoved (rows : List UserSpec) (key : ℕ) (moves : List Move) (before after : List (Option TalkState)) : Type 0 where
  pub talk : TalkState
  pub reached : TalkState
  pub sent : List ℕ
  pub held : slice_index_or before key None ≡ Some talk
  pub goes : Goes rows moves sent [] talk.link reached.link
  pub stays : IsOpen rows talk → IsOpen rows reached
  pub left : after ≡ slice_set before key (Some reached)

-- the key's connection made these moves, and was dropped; what its wire gave last may be lost
pub record IsDropped (rows : List UserSpec) (key : ℕ) (moves : List Move) (before after : List (Option TalkState)) : Type 0 where
  pub talk : TalkState
  pub reached : TalkState
  pub sent : List ℕ
  pub lost : List ℕ
  pub held : slice_index_or before key None ≡ Some talk
  pub goes : Goes rows moves sent lost talk.link reached.link
  pub left : after ≡ slice_set before key None

-- what a visit does to the connections
abbrev pub IsVisit : List UserSpec → List (Option TalkState) → Visit → List (Option TalkState) → Type 0
IsVisit rows before (Moved key moves) after = IsMoved rows key moves before after
IsVisit rows before (Dropped key moves) after = IsDropped rows key moves before after

-- visit after visit
abbrev pub AllVisits : List UserSpec → List (Option TalkState) → List Visit → List (Option TalkState) → Type 0
AllVisits rows before [] after = after ≡ before
AllVisits rows before (v ∷ vs) after =
    (next : List (Option TalkState)) × IsVisit rows before v next × AllVisits rows next vs after

-- the moves of a visit
abbrev pub moves_of : Visit → List Move
moves_of (Moved key moves) = moves
moves_of (Dropped key moves) = moves

-- the moves of visits, in their order
abbrev pub moves_in : List Visit → List Move
moves_in [] = []
moves_in (v ∷ vs) = moves_of v ++ moves_in vs

-- a worker visited connections: the calls of their moves were made, so many at most, and no other
pub record Serves (most : ℕ) (rows : List UserSpec) (before after : WorkerState) : Type 0 where
  pub visits : List Visit
  pub made : AllVisits rows before.links visits after.links
  pub noted : Notes most (moves_in visits) before.desk after.desk

-- the key's connection made its last moves, and is to be dropped
pub record Ends (most : ℕ) (rows : List UserSpec) (key : ℕ) (before after : WorkerState) : Type 0 where
  pub talk : TalkState
  pub reached : TalkState
  pub sent : List ℕ
  pub lost : List ℕ
  pub moves : List Move
  pub held : slice_index_or before.links key None ≡ Some talk
  pub goes : Goes rows moves sent lost talk.link reached.link
  pub noted : Notes most moves before.desk after.desk
  pub left : after.links ≡ slice_set before.links key (Some reached)

-- what was done with the key's connection: a visit, or its last moves
abbrev pub GoesOnOrEnds : ℕ → List UserSpec → ℕ → Bool → WorkerState → WorkerState → Type 0
GoesOnOrEnds most rows key true before after = Serves most rows before after
GoesOnOrEnds most rows key false before after = Ends most rows key before after

-- whether it goes on after a turn
abbrev pub goes_on : Onward → Bool
goes_on (GoesOn pace) = true
goes_on Done = false

-- the user whose turn comes after that of `done`, of so many users: each in its turn, then the first
abbrev pub user_after : ℕ → ℕ → ℕ
user_after users done = cond (nat_lt done users) (done + 1) 1
