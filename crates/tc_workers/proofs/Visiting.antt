-- Visits one after the other, and what they leave of a worker.
use Rattle.std.proofs.Common.{◌≡◌, ◌≢◌, ℕ, ◌+◌, ◌≤◌, Bool, true, false, List, [], ◌∷◌, ◌++◌, Option, Some, None}
use Rattle.std.proofs.Common.{refl, sym, ◌∙◌, ap, subst, append_assoc}
use Rattle.std.proofs.lemmas.List.{append-nil, set-set, set-get_or}
use Rattle.std.specs.Prelude.{slice_index_or, slice_set, OnSome, IfNone}
use Rattle.slab.specs.Slab.{Slab, get}
use Rattle.tc_users.specs.declared.users.UserSpec.{UserSpec}
use Rattle.tc_links.specs.declared.pace.Onward.{Onward}
use Rattle.tc_links.specs.declared.pace.Onward.TheVariants.{GoesOn, Done}
use Rattle.tc_links.specs.Talks.{DeskState, Goes, Notes, Talks, Carries}
use Rattle.tc_links.specs.Lives.{TalkState, IsOpen}
use Rattle.tc_links.specs.Turns.{WorkerState, Visit, Moved, Dropped, IsMoved, IsDropped, AllVisits, moves_of, moves_in}
use Rattle.tc_links.specs.Turns.{Serves, Ends, GoesOnOrEnds, goes_on}
use Rattle.tc_links.proofs.Talking.{notes-still, notes-as, notes-more, notes-append, carries-talks}
use Rattle.tc_links.proofs.SingleMoves.{carries-same}

all_visits-append : (rows : List UserSpec) (a b c : List (Option TalkState)) (vs ws : List Visit) → AllVisits rows a vs b
    → AllVisits rows b ws c → AllVisits rows a (vs ++ ws) c
all_visits-append rows a b c [] ws same second = subst (λ (x : List (Option TalkState)). AllVisits rows x ws c) same second
all_visits-append rows a b c (v ∷ vs) ws (next, visit, later) second =
    (next, visit, all_visits-append rows next b c vs ws later second)

moves_in-append : (vs ws : List Visit) → moves_in (vs ++ ws) ≡ moves_in vs ++ moves_in ws
moves_in-append [] ws = refl
moves_in-append (v ∷ vs) ws =
    ap (λ xs. moves_of v ++ xs) (moves_in-append vs ws) ∙ sym (append_assoc (moves_of v) (moves_in vs) (moves_in ws))

-- a worker that visited no connection
pub serves-none : {most : ℕ} {rows : List UserSpec} {a b : WorkerState} → b.desk ≡ a.desk → b.links ≡ a.links
    → Serves most rows a b
serves-none desk links = record { visits = []; made = links; noted = notes-still desk }

pub serves-same : {most : ℕ} {rows : List UserSpec} {a b : WorkerState} → b ≡ a → Serves most rows a b
serves-same same = serves-none (ap (λ w. w.desk) same) (ap (λ w. w.links) same)

-- a worker that visited one connection
pub serves-one : {most : ℕ} {rows : List UserSpec} {a b : WorkerState} {talk reached : TalkState} {sent lost : List ℕ} (key : ℕ)
    → slice_index_or a.links key None ≡ Some talk → Talks most rows sent lost talk.link reached.link a.desk b.desk → lost ≡ []
    → (IsOpen rows talk → IsOpen rows reached) → b.links ≡ slice_set a.links key (Some reached) → Serves most rows a b
serves-one {rows = rows} {a} {b} {talk} {reached} {sent} key held x none stays left = record {
  visits = Moved key x.moves ∷ [];
  made =
      let moved : IsMoved rows key x.moves a.links b.links =
      record {
        talk = talk;
        reached = reached;
        sent = sent;
        held = held;
        goes = subst (λ (l : List ℕ). Goes rows x.moves sent l talk.link reached.link) none x.goes;
        stays = stays;
        left = left;
      } in
      (b.links, moved, refl);
  noted = notes-as (append-nil x.moves) x.noted;
}

-- a worker whose visit of a connection is the last one
pub ends-one : {most : ℕ} {rows : List UserSpec} {a b : WorkerState} {talk : TalkState} {sent lost : List ℕ} (reached : TalkState)
    (key : ℕ) → slice_index_or a.links key None ≡ Some talk → Talks most rows sent lost talk.link reached.link a.desk b.desk
    → b.links ≡ slice_set a.links key (Some reached) → Ends most rows key a b
ends-one {talk = talk} {sent} {lost} reached key held x left = record {
  talk = talk;
  reached = reached;
  sent = sent;
  lost = lost;
  moves = x.moves;
  held = held;
  goes = x.goes;
  noted = x.noted;
  left = left;
}

-- a worker that visited one connection, which goes on, or is to be dropped
pub visited : {most : ℕ} {talk reached : TalkState} {sent lost : List ℕ} (rows : List UserSpec) (a b : WorkerState) (key : ℕ)
    (goes_on : Bool) → slice_index_or a.links key None ≡ Some talk
    → Talks most rows sent lost talk.link reached.link a.desk b.desk → (goes_on ≡ true → lost ≡ [])
    → (goes_on ≡ true → IsOpen rows talk → IsOpen rows reached) → b.links ≡ slice_set a.links key (Some reached)
    → GoesOnOrEnds most rows key goes_on a b
visited rows a b key true held x none stays left = serves-one key held x (none refl) (stays refl) left
visited {reached = reached} rows a b key false held x none stays left = ends-one reached key held x left

goes_on-on : (o : Onward) → goes_on o ≡ true → o ≢ Done
goes_on-on (GoesOn pace) on = λ done. cc
goes_on-on Done on = absurd cc

-- the same where no call was made for it
pub visited-silent : {talk reached : TalkState} {sent lost : List ℕ} (rows : List UserSpec) (a b : WorkerState) (key : ℕ)
    (o : Onward) → slice_index_or a.links key None ≡ Some talk → Carries sent lost talk.link reached.link
    → (o ≢ Done → lost ≡ []) → (o ≢ Done → (table : List UserSpec) → IsOpen table talk → IsOpen table reached)
    → b.desk ≡ a.desk → b.links ≡ slice_set a.links key (Some reached) → GoesOnOrEnds 0 rows key (goes_on o) a b
visited-silent {talk} {reached} {sent} {lost} rows a b key o held x whole stays same left =
    let y : Talks 0 rows sent lost talk.link reached.link a.desk a.desk = carries-talks x in
    visited rows a b key (goes_on o) held
    (subst (λ (d : DeskState). Talks 0 rows sent lost talk.link reached.link a.desk d) (sym same) y)
    (λ on. whole (goes_on-on o on)) (λ on. stays (goes_on-on o on) rows) left

-- a worker that left one connection as it was
pub serves-silent : {rows : List UserSpec} {a b : WorkerState} {talk reached : TalkState} (key : ℕ)
    → slice_index_or a.links key None ≡ Some talk → reached ≡ talk → b.desk ≡ a.desk
    → b.links ≡ slice_set a.links key (Some reached) → Serves 0 rows a b
serves-silent {rows} {a} {talk = talk} {reached} key held same desk left =
    let x : Carries [] [] talk.link reached.link = carries-same (ap (λ (t : TalkState). t.link) same) in
    let y : Talks 0 rows [] [] talk.link reached.link a.desk a.desk = carries-talks x in
    serves-one key held (subst (λ (d : DeskState). Talks 0 rows [] [] talk.link reached.link a.desk d) (sym desk) y) refl
    (λ still. subst (IsOpen rows) (sym same) still) left

-- a worker that dropped the connection whose last visit it made
pub ends-dropped : {most : ℕ} {rows : List UserSpec} {key : ℕ} {a b c : WorkerState} → Ends most rows key a b
    → c.desk ≡ b.desk → c.links ≡ slice_set b.links key None → Serves most rows a c
ends-dropped {most} {rows} {key} {a} {c = c} x desk gone = record {
  visits = Dropped key x.moves ∷ [];
  made =
      let dropped : IsDropped rows key x.moves a.links c.links =
      record {
        talk = x.talk;
        reached = x.reached;
        sent = x.sent;
        lost = x.lost;
        held = x.held;
        goes = x.goes;
        left =
            gone ∙ ap (λ (l : List (Option TalkState)). slice_set l key None) x.left
            ∙ set-set a.links key (Some x.reached) None;
      } in
      (c.links, dropped, refl);
  noted =
      notes-as (append-nil x.moves) (subst (λ (d : DeskState). Notes most x.moves a.desk d) (sym desk) x.noted);
}

-- what is removed is gone, whether or not there was something
pub removed : (s t : Slab TalkState) (key : ℕ) (gone : Option TalkState) → gone ≡ get s key
    → OnSome gone (t.slots ≡ slice_set s.slots key None) → IfNone gone (t ≡ s) → t.slots ≡ slice_set s.slots key None
removed s t key None was dropped kept =
    ap (λ l. l.slots) kept ∙ sym (set-get_or s.slots key None) ∙ ap (slice_set s.slots key) (sym was)
removed s t key (Some x) was dropped kept = dropped

-- the same where it has this desk and these connections
pub serves-at : {most : ℕ} {rows : List UserSpec} {a b c : WorkerState} → Serves most rows a b → c.desk ≡ b.desk
    → c.links ≡ b.links → Serves most rows a c
serves-at {most} {rows} {a} x desk links = record {
  visits = x.visits;
  made = subst (λ (l : List (Option TalkState)). AllVisits rows a.links x.visits l) (sym links) x.made;
  noted = subst (λ (d : DeskState). Notes most (moves_in x.visits) a.desk d) (sym desk) x.noted;
}

pub serves-append : {most more : ℕ} {rows : List UserSpec} {a b c : WorkerState} → Serves most rows a b → Serves more rows b c
    → Serves (most + more) rows a c
serves-append {rows = rows} {a} {b} {c} x y = record {
  visits = x.visits ++ y.visits;
  made = all_visits-append rows a.links b.links c.links x.visits y.visits x.made y.made;
  noted = notes-as (moves_in-append x.visits y.visits) (notes-append x.noted y.noted);
}

pub serves-more : {most more : ℕ} {rows : List UserSpec} {a b : WorkerState} → most ≤ more → Serves most rows a b
    → Serves more rows a b
serves-more h x = record { visits = x.visits; made = x.made; noted = notes-more h x.noted }
