-- What a worker does to its connections between turns, one change after the other.
use Rattle.std.proofs.Common.{◌≡◌, ◌⊎◌, ℕ, List, [], ◌∷◌, ◌++◌, Option, Some, None}
use Rattle.std.proofs.Common.{refl, ◌∙◌, ap, subst, inl, inr}
use Rattle.std.specs.Prelude.{slice_index_or, slice_set}
use Rattle.slab.specs.Slab.{Slab, Updates, get}
use Rattle.tc_links.specs.Lives.{TalkState}
use Rattle.tc_links.specs.Turns.{WorkerState}
use Rattle.tc_workers.specs.Between.{Enters, TakesIn, MayDrop, Change, Left, Back, ComesBack, AllChanges, Changes}

all_changes-append : (a b c : List (Option TalkState)) (xs ys : List Change) → AllChanges a xs b → AllChanges b ys c
    → AllChanges a (xs ++ ys) c
all_changes-append a b c [] ys same second = subst (λ (l : List (Option TalkState)). AllChanges l ys c) same second
all_changes-append a b c (x ∷ xs) ys (next, change, later) second =
    (next, change, all_changes-append next b c xs ys later second)

-- a slab into which a connection was put
pub enters-at : (s t : Slab TalkState) (key : ℕ) (talk : TalkState) → get s key ≡ None → Updates s t key (Some talk)
    → Enters talk s.slots t.slots
enters-at s t key talk vacant updates = record {
  key = key;
  vacant = vacant;
  held = updates.changed;
  others = updates.others;
}

-- a worker that did nothing
pub changes-same : {a b : WorkerState} → b ≡ a → Changes a b
changes-same same = record { desk = ap (λ w. w.desk) same; changes = []; made = ap (λ w. w.links) same }

pub changes-append : {a b c : WorkerState} → Changes a b → Changes b c → Changes a c
changes-append {a} {b} {c} x y = record {
  desk = y.desk ∙ x.desk;
  changes = x.changes ++ y.changes;
  made = all_changes-append a.links b.links c.links x.changes y.changes x.made y.made;
}

-- a worker that parted with the connection of a key
pub changes-left : {a b : WorkerState} (key : ℕ) → b.desk ≡ a.desk → b.links ≡ slice_set a.links key None → Changes a b
changes-left {b = b} key desk gone = record { desk = desk; changes = Left key ∷ []; made = (b.links, gone, refl) }

-- a worker that may have dropped one
pub changes-dropped : {a b : WorkerState} (key : ℕ) → MayDrop key a b → Changes a b
changes-dropped {a} {b} key x = elim x.links [
  | inl same ↦ record { desk = x.desk; changes = []; made = same }
  | inr gone ↦ changes-left key x.desk gone
]

-- a worker that took one out, and may have it back
pub changes-back : {a b c : WorkerState} {talk : TalkState} (key : ℕ) → slice_index_or a.links key None ≡ Some talk
    → b.desk ≡ a.desk → b.links ≡ slice_set a.links key None → TakesIn talk b c ⊎ (c ≡ b) → Changes a c
changes-back {a} {c = c} {talk} key held desk gone (inl x) =
    let back : ComesBack key a.links c.links =
    record {
      talk = talk;
      held = held;
      enters = subst (λ (l : List (Option TalkState)). Enters talk l c.links) gone x.enters;
    } in
    record { desk = x.desk ∙ desk; changes = Back key ∷ []; made = (c.links, back, refl) }
changes-back {a} {b} key held desk gone (inr same) =
    changes-left key (ap (λ w. w.desk) same ∙ desk) (ap (λ w. w.links) same ∙ gone)
