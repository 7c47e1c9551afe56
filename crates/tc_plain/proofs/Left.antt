-- What a command leaves is advanced to its moment: no flush is due, and all entries
-- are alive. What follows for a cache that is advanced again.
use Rattle.std.specs.Prelude.{max, filter, not, is_some, nat_le}
use Rattle.std.proofs.Common.{◌≡◌, ℕ, zero, suc, ◌+◌, ◌<◌, ◌≤◌, Bool, true, false, cond, List, [], ◌∷◌, Option, Some, None, refl}
use Rattle.std.proofs.Common.{sym, ◌∙◌, ap, arith}
use Rattle.std.proofs.lemmas.Bool.{leb-true}
use mathlib.Core.Logic.{dite}
use native.Mathlib.Decide.{dec_lt}
use Rattle.tc_model.specs.Areas.{Areas, accessed}
use Rattle.tc_model.proofs.Every.{Every, Every-filter, EveryIn, EveryIn-accessed, EveryIn-settle}
use Rattle.tc_item.specs.declared.moment.Due.{Due}
use Rattle.tc_item.specs.declared.item.Item.{Item}
use Rattle.tc_item.specs.Expiry.{due_of}
use Rattle.tc_grammar.specs.declared.command.Way.{Way}
use Rattle.tc_grammar.specs.declared.command.Command.{Command}
use Rattle.tc_grammar.specs.declared.command.Command.TheVariants.{Store, Get, Gat, Delete, Count, Touch, Flush, Stats as AskStats}
use Rattle.tc_grammar.specs.declared.command.Command.TheVariants.{Version as AskVersion, Verbosity, Quit}
use Rattle.tc_stats.specs.declared.outcome.Outcome.{Outcome}
use Rattle.tc_stats.specs.declared.outcome.Outcome.TheVariants.{Stored, TooLarge, CasWorn}
use Rattle.tc_plain.specs.declared.shared.entry.Entry.{Entry}
use Rattle.tc_plain.specs.Entries.{weight, lives, has_key, with_item, with_due}
use Rattle.tc_plain.specs.EvictionState.{EvictionState, no_entries, held, filtered, is_flush_due, at_moment, advanced}
use Rattle.tc_plain.specs.Placing.{frequency, at_front, placed, used}
use Rattle.tc_plain.specs.UserCache.{UserCache, fresh, advance}
use Rattle.tc_plain.specs.Storing.{Offer, Refused, Offered, is_too_large, is_worn, changed, accepted}
use Rattle.tc_plain.specs.Doing.{looked_up, all_looked_up, touched, deleted, counted_to, counted_under, done, act}
use Rattle.tc_plain.specs.Laws.{LeavesAdvanced}
use Rattle.tc_plain.proofs.Advances.{advances_once, acts_advanced}

-- at this moment no flush is due, and all entries are alive
record IsAt (moment : ℕ) (l : EvictionState) : Type 0 where
  moment_is : l.moment ≡ moment
  flush : is_flush_due l.flush moment ≡ false
  alive : EveryIn (λ e. lives moment e ≡ true) l.areas

-- ---- what is at a moment stays as it is there
filter-passing : {A : Type 0} (p : A → Bool) (xs : List A) → Every (λ x. p x ≡ true) xs → filter p xs ≡ xs
filter-passing p [] h = refl
filter-passing p (x ∷ xs) h =
    ap (λ (b : Bool). cond b (x ∷ filter p xs) (filter p xs)) h.0 ∙ ap (λ ys. x ∷ ys) (filter-passing p xs h.1)

kept-passing : (p : Entry → Bool) (a : Areas Entry) → EveryIn (λ e. p e ≡ true) a → filtered p a ≡ a
kept-passing p a h =
    λ i. record {
      window = filter-passing p a.window h.window i;
      probation = filter-passing p a.probation h.probation i;
      protected = filter-passing p a.protected h.protected i;
    }

at_moment-same : (m : ℕ) (l : EvictionState) → IsAt m l → at_moment m l ≡ l
at_moment-same m l h =
    ap (λ (b : Bool). cond b (let n : EvictionState = record l { areas = no_entries; flush = None; moment = m } in n)
    (record l { areas = filtered (lives m) l.areas; moment = m })) h.flush
    ∙ (λ i. record l { areas = kept-passing (lives m) l.areas h.alive i; moment = sym h.moment_is i })

advanced-same : (m n : ℕ) (l : EvictionState) → IsAt m l → n ≤ m → advanced l n ≡ l
advanced-same m n l h le =
    let same : max l.moment n ≡ m = omega (arith, h.moment_is) in ap (λ t. at_moment t l) same ∙ at_moment-same m l h

-- ---- what comes to a moment is at it
passing : (p : Entry → Bool) (xs : List Entry) → Every (λ x. p x ≡ true) (filter p xs)
passing p [] = tt
passing p (x ∷ xs) = go (p x) refl (passing p xs)
  where
    go : (b : Bool) → p x ≡ b → Every (λ x. p x ≡ true) (filter p xs)
        → Every (λ x. p x ≡ true) (cond b (x ∷ filter p xs) (filter p xs))
    go true is h = (is, h)
    go false is h = h

at-at_moment : (m : ℕ) (l : EvictionState) → IsAt m (at_moment m l)
at-at_moment m l = go (is_flush_due l.flush m) refl
  where
    go : (b : Bool) → is_flush_due l.flush m ≡ b
        → IsAt m (cond b (record l { areas = no_entries; flush = None; moment = m })
        (record l { areas = filtered (lives m) l.areas; moment = m }))
    go true is = record { moment_is = refl; flush = refl; alive = record { window = tt; probation = tt; protected = tt } }
    go false is = record {
      moment_is = refl;
      flush = is;
      alive = record {
        window = passing (lives m) l.areas.window;
        probation = passing (lives m) l.areas.probation;
        protected = passing (lives m) l.areas.protected;
      };
    }

-- ---- what commands do there
alive_without : (P : Entry → Type 0) (p : Entry → Bool) (a : Areas Entry) → EveryIn P a → EveryIn P (filtered p a)
alive_without P p a h = record {
  window = left a.window h.window;
  probation = left a.probation h.probation;
  protected = left a.protected h.protected;
}
  where
    left : (xs : List Entry) → Every P xs → Every P (filter p xs)
    left xs g = Every-filter P P p (λ y t q. q) xs g

at_placed : (m : ℕ) (l : EvictionState) (x : Entry) → IsAt m l → EveryIn (λ e. lives m e ≡ true) (placed l x)
at_placed m l x h = go (lives l.moment x) (is_some (held x.key l.areas)) refl
  where
    P : Entry → Type 0
    P = λ e. lives m e ≡ true

    go : (a b : Bool) → lives l.moment x ≡ a
        → EveryIn P (cond a (cond b (accessed weight l.limits (has_key x.key) x l.areas) (at_front x l.areas))
        (filtered (λ e. not (has_key x.key e)) l.areas))
    go true true is =
        EveryIn-accessed P P weight l.limits (has_key x.key) x l.areas (λ y t p. p)
        (ap (λ t. lives t x) (sym h.moment_is) ∙ is) h.alive
    go true false is = record {
      window = (ap (λ t. lives t x) (sym h.moment_is) ∙ is, h.alive.window);
      probation = h.alive.probation;
      protected = h.alive.protected;
    }
    go false b is = alive_without P (λ e. not (has_key x.key e)) l.areas h.alive

at_used : (m : ℕ) (l : EvictionState) (x : Entry) → IsAt m l → IsAt m (used x l)
at_used m l x h = record { moment_is = h.moment_is; flush = h.flush; alive = at_placed m l x h }

at_changed : (m : ℕ) (x : Entry) (k : UserCache) → IsAt m k.live → IsAt m (changed x k).live
at_changed m x k h = record {
  moment_is = h.moment_is;
  flush = h.flush;
  alive =
      EveryIn-settle (λ e. lives m e ≡ true) weight (frequency (used x k.live)) k.live.limits (used x k.live).areas
      (at_placed m k.live x h);
}

at_accepted : (m : ℕ) (k : UserCache) (key : List ℕ) (o : Offer) → IsAt m k.live → IsAt m (accepted k key o).1.live
at_accepted m k key (Refused o) h = h
at_accepted m k key (Offered item) h = go (is_too_large k key item.blob) (is_worn k)
  where
    x : Entry
    x = record { key = key; item = item }

    go : (a b : Bool) → IsAt m (cond {A = Outcome × UserCache} a (TooLarge, k) (cond b (CasWorn, k) (Stored, changed x k))).1.live
    go true b = h
    go false true = h
    go false false = at_changed m x k h

at_looked : (m : ℕ) (change : Item → Item) (key : List ℕ) (o : Option Entry) (l : EvictionState) → IsAt m l
    → IsAt m (looked_up change key o l).1
at_looked m change key None l h = record { moment_is = h.moment_is; flush = h.flush; alive = h.alive }
at_looked m change key (Some e) l h = at_used m l (with_item e (change e.item)) h

at_all_looked : (m : ℕ) (change : Item → Item) (keys : List (List ℕ)) (l : EvictionState) → IsAt m l
    → IsAt m (all_looked_up change keys l).1
at_all_looked m change [] l h = h
at_all_looked m change (key ∷ keys) l h =
    at_all_looked m change keys (looked_up change key (held key l.areas) l).1 (at_looked m change key (held key l.areas) l h)

at_touched : (m : ℕ) (due : Due) (key : List ℕ) (o : Option Entry) (k : UserCache) → IsAt m k.live
    → IsAt m (touched due key o k).1.live
at_touched m due key None k h = record { moment_is = h.moment_is; flush = h.flush; alive = h.alive }
at_touched m due key (Some e) k h = at_used m k.live (with_item e (with_due due e.item)) h

at_deleted : (m : ℕ) (key : List ℕ) (o : Option Entry) (k : UserCache) → IsAt m k.live → IsAt m (deleted key o k).1.live
at_deleted m key None k h = h
at_deleted m key (Some e) k h = record {
  moment_is = h.moment_is;
  flush = h.flush;
  alive = alive_without (λ e. lives m e ≡ true) (λ x. not (has_key key x)) k.live.areas h.alive;
}

at_counted : (m : ℕ) (way : Way) (by : ℕ) (k : UserCache) (e : Entry) (o : Option ℕ) → IsAt m k.live
    → IsAt m (counted_to way by k e o).1.live
at_counted m way by k e None h = h
at_counted m way by k e (Some n) h = go _ _ (is_worn k)
  where
    go : (o : Outcome) (x : Entry) (b : Bool) → IsAt m (cond {A = Outcome × UserCache} b (CasWorn, k) (o, changed x k)).1.live
    go o x true = h
    go o x false = at_changed m x k h

at_counted_under : (m : ℕ) (way : Way) (by : ℕ) (k : UserCache) (o : Option Entry) → IsAt m k.live
    → IsAt m (counted_under way by o k).1.live
at_counted_under m way by k None h = h
at_counted_under m way by k (Some e) h = at_counted m way by k e _ h

later_flush : (m n : ℕ) → nat_le (m + suc n) m ≡ false
later_flush m n = go (nat_le (m + suc n) m) refl
  where
    go : (b : Bool) → nat_le (m + suc n) m ≡ b → b ≡ false
    go true is = absurd (omega (arith, leb-true (m + suc n) m is))
    go false is = refl

at_done : (m : ℕ) (k : UserCache) (command : Command) → IsAt m k.live → IsAt m (done k command).1.live
at_done m k (Store head blob) h = at_accepted m k head.key _ h
at_done m k (Get form keys) h = at_all_looked m (λ i. i) keys k.live h
at_done m k (Gat form exptime keys) h = at_all_looked m (with_due (due_of exptime k.live.moment)) keys k.live h
at_done m k (Delete key quiet) h = at_deleted m key (held key k.live.areas) k h
at_done m k (Count way key value quiet) h = at_counted_under m way value k (held key k.live.areas) h
at_done m k (Touch key exptime quiet) h = at_touched m (due_of exptime k.live.moment) key (held key k.live.areas) k h
at_done m k (Flush zero quiet) h = record {
  moment_is = h.moment_is;
  flush = refl;
  alive = record { window = tt; probation = tt; protected = tt };
}
at_done m k (Flush (suc delay) quiet) h = record {
  moment_is = h.moment_is;
  flush = ap (λ t. nat_le (t + suc delay) m) h.moment_is ∙ later_flush m delay;
  alive = h.alive;
}
at_done m k AskStats h = h
at_done m k AskVersion h = h
at_done m k (Verbosity level quiet) h = h
at_done m k Quit h = h

pub leaves_advanced : LeavesAdvanced
leaves_advanced k m command =
    let t : ℕ = max k.live.moment m in
    let r : UserCache = (act k m command).1 in
    let h : IsAt t (done (advance k m) command).1.live = at_done t (advance k m) command (at-at_moment t k.live) in
    ap (λ (l : EvictionState). record r { live = l }) (advanced-same t m r.live h (omega arith))

-- ---- advance, twice
pub advance-earlier : (k : UserCache) (m n : ℕ) → n ≤ m → advance (advance k m) n ≡ advance k m
advance-earlier k m n le =
    ap (λ (l : EvictionState). record k { live = l })
    (advanced-same (max k.live.moment m) n (advanced k.live m) (at-at_moment (max k.live.moment m) k.live) (omega arith))

pub advance-advance : (k : UserCache) (m n : ℕ) → advance (advance k m) n ≡ advance k (max m n)
advance-advance k m n =
    dite (dec_lt m n)
    (λ (lt : m < n). advances_once k m n (omega arith) ∙ ap (advance k) (let e : n ≡ max m n = omega arith in e))
    (λ no. advance-earlier k m n (omega arith) ∙ ap (advance k) (let e : m ≡ max m n = omega arith in e))

-- a command does the same on a cache that was advanced before
pub act-advance : (k : UserCache) (m n : ℕ) (command : Command) → m ≤ n → act (advance k m) n command ≡ act k n command
act-advance k m n command le =
    acts_advanced (advance k m) n command ∙ ap (λ j. act j n command) (advances_once k m n le) ∙ sym (acts_advanced k n command)

-- an empty cache is advanced to 0
pub advance-empty : (budget largest : ℕ) → advance (fresh budget largest) 0 ≡ fresh budget largest
advance-empty budget largest = refl
