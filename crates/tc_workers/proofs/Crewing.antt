-- What befalls a crew keeps true that each connection is a talk, whose calls the workers' seats noted.
use Rattle.std.proofs.Common.{◌≡◌, ◌⊎◌, ℕ, zero, suc, List, [], ◌∷◌, ◌++◌, Option, Some, None, refl, sym, subst, inl, inr}
use Rattle.std.specs.Prelude.{All, Contains, slice_get, slice_set}
use Rattle.std.specs.List.{AllByRecursion as Each}
use Rattle.std.proofs.lemmas.List.Elements.{All-nil, All-contains, recursion_from_All}
use Rattle.tc_users.specs.declared.users.UserSpec.{UserSpec}
use Rattle.tc_locked.specs.declared.view.Note.{Note}
use Rattle.tc_links.specs.Talks.{Move, LinkState, Carries, Goes, notes_in}
use Rattle.tc_links.specs.Lives.{IsTalk, TalkState, IsOpen, IsOpened}
use Rattle.tc_links.specs.Turns.{WorkerState, Visit, Moved, Dropped, AllVisits, moves_in}
use Rattle.tc_workers.specs.Crewing.{CrewState, IsNew, Event, Turn, Opening, Taking, Passing, Dropping, Befalls, Has, IsEvent}
use Rattle.tc_workers.specs.Crewing.{AllEvents, IsOf}
use Rattle.tc_links.proofs.Talking.{goes-append, notes_in-append}
use Rattle.tc_links.proofs.SingleMoves.{carries-same}
use Rattle.tc_workers.proofs.Staying.{open-new}
use Rattle.tc_workers.proofs.Holding.{AllHeld, held-set, held-at, held-as, held-enters, held-changes, held-dropped}
use Rattle.tc_workers.proofs.Rising.{In, in-front, in-behind, each-as, each-append, each-split, each-in}

-- since it was opened it is a talk, and this holds of its calls
pub record Since (rows : List UserSpec) (P : Note → Type 0) (t : TalkState) : Type 0 where
  pub still : IsOpen rows t
  pub opened : LinkState
  pub talk : IsTalk rows opened t.link
  pub calls : Each P (notes_in talk.moves)

pub since-as : (rows : List UserSpec) (P Q : Note → Type 0) (t : TalkState) → ((n : Note) → P n → Q n) → Since rows P t
    → Since rows Q t
since-as rows P Q t f x = record {
  still = x.still;
  opened = x.opened;
  talk = x.talk;
  calls = each-as P Q (notes_in x.talk.moves) f x.calls;
}

-- a connection that was just opened
pub since-opened : (rows : List UserSpec) (P : Note → Type 0) (conn : ℕ) (gave took : Option (List ℕ)) (t : TalkState)
    → IsOpened conn gave took t → Since rows P t
since-opened rows P conn gave took t x =
    let none : Carries [] [] t.link t.link = carries-same refl in
    let still : IsOpen rows t = open-new x in record {
      still = still;
      opened = t.link;
      talk = record {
        endpoint = x.endpoint;
        out = x.out;
        last = x.last_is;
        rose = still.rose;
        moves = none.moves;
        sent = [];
        goes = none.goes rows;
      };
      calls = subst (λ (ns : List Note). Each P ns) (sym none.silent) tt;
    }

-- one that made moves, and goes on
since-moved : (rows : List UserSpec) (P : Note → Type 0) (moves : List Move) (sent : List ℕ) (t reached : TalkState)
    → Since rows P t → Goes rows moves sent [] t.link reached.link → IsOpen rows reached → Each P (notes_in moves)
    → Since rows P reached
since-moved rows P moves sent t reached x goes still new = record {
  still = still;
  opened = x.opened;
  talk = record {
    endpoint = x.talk.endpoint;
    out = x.talk.out;
    last = x.talk.last;
    rose = still.rose;
    moves = x.talk.moves ++ moves;
    sent = x.talk.sent ++ sent;
    goes = goes-append x.talk.goes goes;
  };
  calls =
      subst (λ (ns : List Note). Each P ns) (sym (notes_in-append x.talk.moves moves))
      (each-append P (notes_in x.talk.moves) (notes_in moves) x.calls new);
}

-- ---- one worker
since-visits : (rows : List UserSpec) (P : Note → Type 0) (a b : List (Option TalkState)) (vs : List Visit)
    → Each P (notes_in (moves_in vs)) → AllHeld (Since rows P) a → AllVisits rows a vs b → AllHeld (Since rows P) b
since-visits rows P a b [] new all same = subst (AllHeld (Since rows P)) (sym same) all
since-visits rows P a b (Moved key moves ∷ vs) new all (next, visit, later) =
    let parts = each-split P (notes_in moves) (notes_in (moves_in vs))
    (subst (λ (ns : List Note). Each P ns) (notes_in-append moves (moves_in vs)) new) in
    let before : Since rows P visit.talk = held-at (Since rows P) a key visit.talk all visit.held in
    let own : Since rows P visit.reached =
    since-moved rows P moves visit.sent visit.talk visit.reached before visit.goes (visit.stays before.still) parts.0 in
    since-visits rows P next b vs parts.1 (held-set (Since rows P) a next key (Some visit.reached) all own visit.left) later
since-visits rows P a b (Dropped key moves ∷ vs) new all (next, visit, later) =
    let parts = each-split P (notes_in moves) (notes_in (moves_in vs))
    (subst (λ (ns : List Note). Each P ns) (notes_in-append moves (moves_in vs)) new) in
    since-visits rows P next b vs parts.1 (held-set (Since rows P) a next key None all tt visit.left) later

-- a worker's notes only grow
grows : (rows : List UserSpec) (left : List TalkState) (e : Event) (a b : WorkerState) → Befalls rows left e a b → (n : Note)
    → In n a.desk.seat.notes → In n b.desk.seat.notes
grows rows left Turn a b (most, x) n i =
    subst (In n) (sym x.noted.notes) (in-front n a.desk.seat.notes (notes_in (moves_in x.visits)) i)
grows rows left (Opening conn gave took) a b x n i = subst (λ d. In n d.seat.notes) (sym x.takes.desk) i
grows rows left (Taking talk) a b x n i = subst (λ d. In n d.seat.notes) (sym x.1.desk) i
grows rows left Passing a b x n i = subst (λ d. In n d.seat.notes) (sym x.desk) i
grows rows left (Dropping key) a b x n i = subst (λ d. In n d.seat.notes) (sym x.desk) i

since-befalls : (rows : List UserSpec) (P : Note → Type 0) (left : List TalkState) (e : Event) (a b : WorkerState)
    → ((n : Note) → In n b.desk.seat.notes → P n) → All (Since rows P) left → AllHeld (Since rows P) a.links
    → Befalls rows left e a b → AllHeld (Since rows P) b.links
since-befalls rows P left Turn a b noted gone all (most, x) =
    let new = notes_in (moves_in x.visits) in
    since-visits rows P a.links b.links x.visits
    (each-in P new (λ n i. noted n (subst (In n) (sym x.noted.notes) (in-behind n a.desk.seat.notes new i)))) all x.made
since-befalls rows P left (Opening conn gave took) a b noted gone all x =
    held-enters (Since rows P) x.talk a.links b.links all (since-opened rows P conn gave took x.talk x.opened) x.takes.enters
since-befalls rows P left (Taking talk) a b noted gone all x =
    held-enters (Since rows P) talk a.links b.links all (All-contains (Since rows P) left talk gone x.0) x.1.enters
since-befalls rows P left Passing a b noted gone all x =
    held-changes (Since rows P) a.links b.links x.changes all x.made
since-befalls rows P left (Dropping key) a b noted gone all x = held-dropped (Since rows P) key a b all x

-- ---- all workers
-- a worker's seat noted this
abbrev pub Noted : List WorkerState → Note → Type 0
Noted [] n = ⊥
Noted (w ∷ ws) n = In n w.desk.seat.notes ⊎ Noted ws n

some-same : {a b : WorkerState} → Some a ≡ Some b → a ≡ b
some-same same = cc

noted-grows : (ws : List WorkerState) (at : ℕ) (was is : WorkerState) (n : Note) → slice_get ws at ≡ Some was
    → (In n was.desk.seat.notes → In n is.desk.seat.notes) → Noted ws n → Noted (slice_set ws at is) n
noted-grows [] at was is n found f i = absurd i
noted-grows (w ∷ ws) zero was is n found f (inl i) =
    inl (f (subst (λ (v : WorkerState). In n v.desk.seat.notes) (some-same found) i))
noted-grows (w ∷ ws) zero was is n found f (inr i) = inr i
noted-grows (w ∷ ws) (suc at) was is n found f (inl i) = inl i
noted-grows (w ∷ ws) (suc at) was is n found f (inr i) = inr (noted-grows ws at was is n found f i)

noted-new : (ws : List WorkerState) (at : ℕ) (was is : WorkerState) (n : Note) → slice_get ws at ≡ Some was
    → In n is.desk.seat.notes → Noted (slice_set ws at is) n
noted-new [] at was is n found i = absurd cc
noted-new (w ∷ ws) zero was is n found i = inl i
noted-new (w ∷ ws) (suc at) was is n found i = inr (noted-new ws at was is n found i)

each-get : (P : WorkerState → Type 0) (ws : List WorkerState) (at : ℕ) (w : WorkerState) → slice_get ws at ≡ Some w → Each P ws
    → P w
each-get P [] at w found all = absurd cc
each-get P (x ∷ xs) zero w found all = subst P (some-same found) all.0
each-get P (x ∷ xs) (suc at) w found all = each-get P xs at w found all.1

each-set : (P : WorkerState → Type 0) (ws : List WorkerState) (at : ℕ) (w : WorkerState) → P w → Each P ws
    → Each P (slice_set ws at w)
each-set P [] at w new all = tt
each-set P (x ∷ xs) zero w new all = (new, all.1)
each-set P (x ∷ xs) (suc at) w new all = (all.0, each-set P xs at w new all.1)

-- each connection of these workers, and each that left one, is a talk whose calls their seats noted
pub record AllSince (rows : List UserSpec) (P : Note → Type 0) (ws : List WorkerState) (left : List TalkState) : Type 0 where
  pub here : Each (λ w. AllHeld (Since rows P) w.links) ws
  pub gone : All (Since rows P) left

all_since-as : (rows : List UserSpec) (P Q : Note → Type 0) (ws : List WorkerState) (left : List TalkState)
    → ((n : Note) → P n → Q n) → AllSince rows P ws left → AllSince rows Q ws left
all_since-as rows P Q ws left f x = record {
  here =
      each-as (λ w. AllHeld (Since rows P) w.links) (λ w. AllHeld (Since rows Q) w.links) ws
      (λ w all. held-as (Since rows P) (Since rows Q) w.links (λ t. since-as rows P Q t f) all) x.here;
  gone = λ k d lt. since-as rows P Q _ f (x.gone k d lt);
}

since-left : (rows : List UserSpec) (P : Note → Type 0) (left : List TalkState) (was : WorkerState) (t : TalkState)
    → All (Since rows P) left → AllHeld (Since rows P) was.links → Contains left t ⊎ Has was t → Since rows P t
since-left rows P left was t gone all (inl there) = All-contains (Since rows P) left t gone there
since-left rows P left was t gone all (inr (key, held)) = held-at (Since rows P) was.links key t all held

since-event : (rows : List UserSpec) (e : Event) (before after : CrewState)
    → AllSince rows (Noted before.workers) before.workers before.left → IsEvent rows e before after
    → AllSince rows (Noted after.workers) after.workers after.left
since-event rows e before after all x =
    let ws = slice_set before.workers x.at x.is in
    let P = Noted before.workers in
    let Q = Noted ws in
    let grown : (n : Note) → P n → Q n =
    λ n. noted-grows before.workers x.at x.was x.is n x.found (grows rows before.left e x.was x.is x.befell n) in
    let kept : AllSince rows Q before.workers before.left = all_since-as rows P Q before.workers before.left grown all in
    let had : AllHeld (Since rows Q) x.was.links =
    each-get (λ w. AllHeld (Since rows Q) w.links) before.workers x.at x.was x.found kept.here in
    let has : AllHeld (Since rows Q) x.is.links =
    since-befalls rows Q before.left e x.was x.is (λ n. noted-new before.workers x.at x.was x.is n x.found) kept.gone had
    x.befell in
    let next : AllSince rows Q ws after.left =
    record {
      here = each-set (λ w. AllHeld (Since rows Q) w.links) before.workers x.at x.is has kept.here;
      gone = λ k d lt. since-left rows Q before.left x.was _ kept.gone had (x.left k d lt);
    } in
    subst (λ (l : List WorkerState). AllSince rows (Noted l) l after.left) (sym x.workers) next

since-events : (rows : List UserSpec) (es : List Event) (before after : CrewState)
    → AllSince rows (Noted before.workers) before.workers before.left → AllEvents rows before es after
    → AllSince rows (Noted after.workers) after.workers after.left
since-events rows [] before after all same =
    subst (λ (c : CrewState). AllSince rows (Noted c.workers) c.workers c.left) (sym same) all
since-events rows (e ∷ es) before after all (next, event, later) =
    since-events rows es next after (since-event rows e before next all event) later

-- a worker with no connection
held-none : (P : TalkState → Type 0) (w : WorkerState) → w.links ≡ [] → AllHeld P w.links
held-none P w none = subst (AllHeld P) (sym none) (λ key. tt)

since-new : (rows : List UserSpec) (crew : CrewState) → IsNew crew → AllSince rows (Noted crew.workers) crew.workers crew.left
since-new rows crew x =
    let P = Noted crew.workers in record {
      here =
          each-as (λ w. w.links ≡ []) (λ w. AllHeld (Since rows P) w.links) crew.workers
          (λ w none. held-none (Since rows P) w none)
          (recursion_from_All (λ w. w.links ≡ []) crew.workers x.idle);
      gone = subst (All (Since rows P)) (sym x.none) (All-nil (Since rows P));
    }

pub since-crew : (rows : List UserSpec) (es : List Event) (new crew : CrewState) (t : TalkState) → IsNew new
    → AllEvents rows new es crew → IsOf crew t → Since rows (Noted crew.workers) t
since-crew rows es new crew t begins went is = go (since-events rows es new crew (since-new rows new begins) went) is
  where
    go : AllSince rows (Noted crew.workers) crew.workers crew.left → IsOf crew t → Since rows (Noted crew.workers) t
    go all (inl there) = All-contains (Since rows (Noted crew.workers)) crew.left t all.gone there
    go all (inr (at, w, found, held)) =
        held-at (Since rows (Noted crew.workers)) w.links held.0 t
        (each-get (λ v. AllHeld (Since rows (Noted crew.workers)) v.links) crew.workers at w found all.here) held.1
