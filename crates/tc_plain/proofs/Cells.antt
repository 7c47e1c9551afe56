-- Each hit is the cell of the history before it: what is held under a key, if anything, is the key's cell.
use Rattle.std.specs.Prelude.{max, filter}
use Rattle.std.proofs.Common.{◌≡◌, ℕ, ◌≤◌, Bool, true, false, cond, List, [], ◌∷◌, ◌++◌, Option, Some, None, refl, sym, ◌∙◌, ap}
use Rattle.std.proofs.Common.{subst, append_assoc, arith}
use Rattle.std.proofs.lemmas.List.{append-nil}
use Rattle.tc_model.specs.Caching.{Event, Replays}
use Rattle.tc_model.proofs.Every.{Every, Every-filter, EveryIn, EveryIn-weaker, all_of_every}
use Rattle.tc_item.specs.declared.item.Item.{Item}
use Rattle.tc_item.specs.Expiry.{is_before}
use Rattle.tc_grammar.specs.declared.command.Command.{Command}
use Rattle.tc_stats.specs.declared.outcome.Outcome.{Outcome}
use Rattle.tc_plain.specs.declared.shared.entry.Entry.{Entry}
use Rattle.tc_plain.specs.Entries.{lives}
use Rattle.tc_plain.specs.EvictionState.{EvictionState, filtered, no_entries, is_flush_due, at_moment}
use Rattle.tc_plain.specs.UserCache.{UserCache, fresh, advance}
use Rattle.tc_plain.specs.Doing.{act, done, with_note}
use Rattle.tc_plain.specs.Cell.{Cell, empty_cell, living, cell_at, item_after, changes_after, after_command, cell_from, cell}
use Rattle.tc_plain.specs.Laws.{user_caching}
use Rattle.tc_plain.specs.Freshness.{hits_in, IsCell, IsFresh}
use Rattle.tc_plain.proofs.Held.{Map, Matches}
use Rattle.tc_plain.proofs.Steps.{Goes, goes}

abbrev Call : Type 0
Call = Event Command Outcome

-- what a history left under a key is what is held there, if anything is
record Known (past : List Call) (k : UserCache) : Type 0 where
  items : EveryIn (λ e. (cell past e.key).item ≡ Some e.item) k.live.areas
  flush : (key : List ℕ) → (cell past key).flush ≡ k.live.flush
  changes : (key : List ℕ) → (cell past key).changes ≡ k.last

-- the same of what look-ups touch, once both have come to a moment
record Advanced (past : List Call) (m : ℕ) (l : EvictionState) : Type 0 where
  moment : l.moment ≡ m
  items : Matches (λ key. (cell_at m (cell past key)).item) m l.areas
  flush : (key : List ℕ) → (cell_at m (cell past key)).flush ≡ l.flush

changes-cell_at : (m : ℕ) (c : Cell) → (cell_at m c).changes ≡ c.changes
changes-cell_at m c = go (is_flush_due c.flush m)
  where
    go : (b : Bool)
        → (cond b (record { item = None; flush = None; changes = c.changes }) (record c { item = living m c.item })).changes
        ≡ c.changes
    go true = refl
    go false = refl

living_item : (m : ℕ) (o : Option Item) (i : Item) → o ≡ Some i → is_before m i.due ≡ true → living m o ≡ Some i
living_item m o i e l = rw (e, l) refl

come : (past : List Call) (m : ℕ) (l : EvictionState) → EveryIn (λ e. (cell past e.key).item ≡ Some e.item) l.areas
    → ((key : List ℕ) → (cell past key).flush ≡ l.flush) → Advanced past m (at_moment m l)
come past m l items flush = go (is_flush_due l.flush m) refl
  where
    go : (b : Bool) → is_flush_due l.flush m ≡ b
        → Advanced past m (cond b (record l { areas = no_entries; flush = None; moment = m })
        (record l { areas = filtered (lives m) l.areas; moment = m }))
    go true d =
        let due : (key : List ℕ) → is_flush_due (cell past key).flush m ≡ true =
        λ key. ap (λ f. is_flush_due f m) (flush key) ∙ d in
        record {
          moment = refl;
          items = record { window = tt; probation = tt; protected = tt };
          flush = λ key. rw (due key) refl;
        }
    go false d =
        let due : (key : List ℕ) → is_flush_due (cell past key).flush m ≡ false =
        λ key. ap (λ f. is_flush_due f m) (flush key) ∙ d in
        let left : (xs : List Entry) → Every (λ e. (cell past e.key).item ≡ Some e.item) xs
        → Every (λ e. ((cell_at m (cell past e.key)).item ≡ Some e.item) × (lives m e ≡ true)) (filter (lives m) xs) =
        λ xs g. Every-filter (λ e. (cell past e.key).item ≡ Some e.item)
        (λ e. ((cell_at m (cell past e.key)).item ≡ Some e.item) × (lives m e ≡ true)) (lives m)
        (λ e t s. (rw (due e.key) (living_item m (cell past e.key).item e.item s t), t)) xs g in
        record {
          moment = refl;
          items = record {
            window = left l.areas.window items.window;
            probation = left l.areas.probation items.probation;
            protected = left l.areas.protected items.protected;
          };
          flush = λ key. rw (due key) (flush key);
        }

cell_from-append : (key : List ℕ) (c : Cell) (xs ys : List Call)
    → cell_from key c (xs ++ ys) ≡ cell_from key (cell_from key c xs) ys
cell_from-append key c [] ys = refl
cell_from-append key c (x ∷ xs) ys = cell_from-append key (after_command key x (cell_at x.moment c)) xs ys

cell-push : (past : List Call) (e : Call) (key : List ℕ)
    → cell (past ++ e ∷ []) key ≡ after_command key e (cell_at e.moment (cell past key))
cell-push past e key = cell_from-append key empty_cell past (e ∷ [])

-- a call keeps what is known, and its hits are cells
record Called (past : List Call) (e : Call) (r : Outcome × UserCache) : Type 0 where
  known : Known (past ++ e ∷ []) r.1
  moment : r.1.live.moment ≡ e.moment
  fresh : Every (IsCell past e.moment) (hits_in e.outcome)

call_at : ℕ → Command → UserCache → Call
call_at m command j = record { moment = m; command = command; outcome = (done j command).0 }

called_now : (past : List Call) (command : Command) (j : UserCache) → Advanced past j.live.moment j.live
    → ((key : List ℕ) → (cell_at j.live.moment (cell past key)).changes ≡ j.last)
    → Called past (call_at j.live.moment command j) (with_note command (done j command))
unfolding call_at
called_now past command j a changes =
    let m : ℕ = j.live.moment in
    let e : Call = call_at m command j in
    let c : Map = λ key. (cell_at m (cell past key)).item in
    let g : Goes c j command (done j command) = goes c j command a.items in
    record {
      known = record {
        items =
            EveryIn-weaker (λ x. (item_after x.key m (changes_after (done j command).0 j.last) command (done j command).0
            (c x.key)
            ≡ Some x.item)
            × (lives m x ≡ true))
            (λ x. (cell (past ++ e ∷ []) x.key).item ≡ Some x.item)
            (λ x s. rw (cell-push past e x.key) (rw (changes x.key) (living_item m _ x.item s.0 s.1)))
            (done j command).1.live.areas g.items;
        flush = λ key. rw (cell-push past e key) (rw (a.flush key) (sym g.flush));
        changes = λ key. rw (cell-push past e key) (rw (changes key) (sym g.last));
      };
      moment = g.moment;
      fresh = g.fresh;
    }

called : (past : List Call) (e : Call) (k : UserCache) → k.live.moment ≤ e.moment → (act k e.moment e.command).0 ≡ e.outcome
    → Known past k → Called past e (act k e.moment e.command)
unfolding call_at
called past e k le o h =
    let j : UserCache = advance k e.moment in
    let top : max k.live.moment e.moment ≡ e.moment = omega arith in
    let a : Advanced past e.moment j.live = rw top (come past e.moment k.live h.items h.flush) in
    let at : j.live.moment ≡ e.moment = a.moment in
    let changes : (t : ℕ) (key : List ℕ) → (cell_at t (cell past key)).changes ≡ k.last =
    λ t key. changes-cell_at t (cell past key) ∙ h.changes key in
    let now : Called past (call_at j.live.moment e.command j) (act k e.moment e.command) =
    called_now past e.command j (subst (λ t. Advanced past t j.live) (sym at) a) (changes j.live.moment) in
    let there : Called past (call_at e.moment e.command j) (act k e.moment e.command) =
    subst (λ t. Called past (call_at t e.command j) (act k e.moment e.command)) at now in
    subst (λ t. Called past (record { moment = e.moment; command = e.command; outcome = t }) (act k e.moment e.command)) o there

fresh_from : (past before after : List Call) (e : Call) (k : UserCache) → Known past k
    → Replays user_caching k.live.moment k (before ++ e ∷ after) → Every (IsCell (past ++ before) e.moment) (hits_in e.outcome)
fresh_from past [] after e k h r = rw (append-nil past) (called past e k r.0 r.1 h).fresh
fresh_from past (x ∷ before) after e k h r =
    let c = called past x k r.0 r.1 h in
    let next : Every (IsCell ((past ++ x ∷ []) ++ before) e.moment) (hits_in e.outcome) =
    fresh_from (past ++ x ∷ []) before after e (act k x.moment x.command).1 c.known
    (subst (λ t. Replays user_caching t (act k x.moment x.command).1 (before ++ e ∷ after)) (sym c.moment) r.2) in
    rw append_assoc at next

pub is_fresh : IsFresh
is_fresh budget largest before after e r =
    all_of_every (IsCell before e.moment) (hits_in e.outcome)
    (fresh_from [] before after e (fresh budget largest)
    (record { items = record { window = tt; probation = tt; protected = tt }; flush = λ key. refl; changes = λ key. refl }) r)
