-- One reply more that is owed, and that each says something.
use Rattle.std.proofs.Common.{◌≡◌, ◌+◌, ◌<◌, List, [], ◌∷◌, ◌++◌, length, length-append, append_assoc, codes, arith, refl}
use Rattle.std.specs.List.{flat_map}
use Rattle.std.proofs.lemmas.List.{append-nil}
use Rattle.tc_grammar.specs.declared.command.Form.{Form}
use Rattle.tc_stats.specs.declared.hits.Hit.{Hit}
use Rattle.tc_session.specs.declared.replies.Owed.{Owed}
use Rattle.tc_session.specs.Replies.{value_text, values_text}
use Rattle.tc_session.specs.Room.{room_of}
use Rattle.tc_session.specs.Owing.{owed_text, owed_room, AreMeasured}

pub text_behind : (os : List Owed) (o : Owed) → owed_text (os ++ o ∷ []) ≡ owed_text os ++ values_text o.form o.hits
text_behind [] o = append-nil (values_text o.form o.hits)
text_behind (p ∷ os) o = rw (text_behind os o) (simp append_assoc)

pub room_behind : (os : List Owed) (o : Owed) → owed_room (os ++ o ∷ []) ≡ owed_room os + o.room
room_behind [] o = omega arith
room_behind (p ∷ os) o = omega (arith, room_behind os o)

pub measured_behind : (os : List Owed) (o : Owed) → AreMeasured os → o.room ≡ room_of o.hits → AreMeasured (os ++ o ∷ [])
measured_behind [] o h e = (e, tt)
measured_behind (p ∷ os) o h e = (h.0, measured_behind os o h.1 e)

text_some : (form : Form) (hits : List Hit) → 0 < length (values_text form hits)
unfolding values_text
text_some form hits =
    let both = length-append (flat_map (value_text form) hits) (codes "END\r\n") in
    omega (arith, both)

pub owed_some : (os : List Owed) → 0 < length os → 0 < length (owed_text os)
owed_some [] h = absurd (omega arith)
owed_some (o ∷ os) h =
    let both = length-append (values_text o.form o.hits) (owed_text os) in
    omega (arith, both, text_some o.form o.hits)

pub owed_none : (os : List Owed) → length os ≡ 0 → length (owed_text os) ≡ 0
owed_none [] h = refl
owed_none (o ∷ os) h = absurd (omega arith)

-- where what is owed says nothing, nothing is owed
pub owed_room_none : (os : List Owed) → length (owed_text os) ≡ 0 → owed_room os ≡ 0
owed_room_none [] h = refl
owed_room_none (o ∷ os) h = absurd (omega (arith, h, owed_some (o ∷ os) (omega arith)))
