-- Replies that are owed. Source: this project's own.
use Rattle.std.specs.Prelude.{ℕ, ◌+◌, ◌≡◌, List, [], ◌∷◌, ◌++◌}
use Rattle.tc_session.specs.declared.replies.Owed.{Owed}
use Rattle.tc_session.specs.Replies.{values_text}
use Rattle.tc_session.specs.Room.{room_of}

-- bytes that wait to be sent, how many of these, the last, are not written yet, and for how many more there is room
pub record Waiting : Type 0 where
  pub bytes : List ℕ
  pub unwritten : ℕ
  pub room : ℕ

-- what replies that are owed say
abbrev pub owed_text : List Owed → List ℕ
owed_text [] = []
owed_text (o ∷ os) = values_text o.form o.hits ++ owed_text os

-- room for all of them
abbrev pub owed_room : List Owed → ℕ
owed_room [] = 0
owed_room (o ∷ os) = o.room + owed_room os

-- each says for how many bytes room is made
abbrev pub AreMeasured : List Owed → Type 0
AreMeasured [] = Unit {0}
AreMeasured (o ∷ os) = (o.room ≡ room_of o.hits) × AreMeasured os
