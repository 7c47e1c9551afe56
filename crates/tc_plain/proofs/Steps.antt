-- What each command does to what stands under each key.
use Rattle.std.specs.Prelude.{option_map, ◌==◌, ℤ}
use Rattle.std.specs.Str.{bytes_eq}
use Rattle.std.proofs.Common.{◌≡◌, ℕ, zero, suc, ◌+◌, Bool, true, false, cond, List, Option, Some, None, refl, sym, ◌∙◌, ap}
use Rattle.std.proofs.Common.{arith}
use Rattle.tc_model.proofs.Every.{Every, EveryIn-settle}
use Rattle.tc_item.specs.declared.item.Item.{Item}
use Rattle.tc_item.specs.Expiry.{due_of}
use Rattle.tc_counter.specs.CounterText.{number_in, text_of}
use Rattle.tc_grammar.specs.declared.command.StoreKind.{StoreKind}
use Rattle.tc_grammar.specs.declared.command.StoreKind.TheVariants.{Set, Add, Replace, Append, Prepend, Cas}
use Rattle.tc_grammar.specs.declared.command.Head.{Head}
use Rattle.tc_grammar.specs.declared.command.Form.{Form}
use Rattle.tc_grammar.specs.declared.command.Way.{Way}
use Rattle.tc_grammar.specs.declared.command.Command.{Command}
use Rattle.tc_grammar.specs.declared.command.Command.TheVariants.{Store, Get, Gat, Delete, Count, Touch, Flush, Stats as AskStats}
use Rattle.tc_grammar.specs.declared.command.Command.TheVariants.{Version as AskVersion, Verbosity, Quit}
use Rattle.tc_stats.specs.declared.outcome.Outcome.{Outcome}
use Rattle.tc_stats.specs.declared.outcome.Outcome.TheVariants.{Stored, Exists, NotFound, Deleted, Touched, Number, TooLarge}
use Rattle.tc_stats.specs.declared.outcome.Outcome.TheVariants.{CasWorn}
use Rattle.tc_plain.specs.declared.shared.entry.Entry.{Entry}
use Rattle.tc_plain.specs.Entries.{weight, with_item, with_due, with_data}
use Rattle.tc_plain.specs.EvictionState.{held}
use Rattle.tc_plain.specs.Placing.{frequency, used}
use Rattle.tc_plain.specs.UserCache.{UserCache}
use Rattle.tc_plain.specs.Storing.{Offer, Refused, Offered, item_of, offer_by, is_too_large, is_worn, changed, accepted, stored}
use Rattle.tc_plain.specs.Doing.{all_looked_up, as_values, touched, deleted, counted, counted_to, counted_under, done}
use Rattle.tc_plain.specs.Cell.{left_by, after_store, item_after, flush_after, changes_after}
use Rattle.tc_plain.specs.Freshness.{hits_in}
use Rattle.tc_plain.proofs.Held.{Map, IsIn, Matches, Matches-same, held_matches, unheld_matches, without_key_matches}
use Rattle.tc_plain.proofs.Held.{placed_matches}
use Rattle.tc_plain.proofs.Looks.{IsShown, same_key, cond-same, changed_by, all_looked}

-- what stands under a key after a command
abbrev pub map_after : Map → UserCache → Command → Outcome → Map
map_after c k command outcome key = item_after key k.live.moment (changes_after outcome k.last) command outcome (c key)

-- a command's outcome and the cache after it are what the cell's rules say
pub record Goes (c : Map) (k : UserCache) (command : Command) (r : Outcome × UserCache) : Type 0 where
  pub items : Matches (map_after c k command r.0) k.live.moment r.1.live.areas
  pub moment : r.1.live.moment ≡ k.live.moment
  pub last : r.1.last ≡ changes_after r.0 k.last
  pub flush : r.1.live.flush ≡ flush_after k.live.moment command k.live.flush
  pub fresh : Every (IsShown c) (hits_in r.0)

-- an entry that is changed may change what stands under its key, and nothing else
changed_matches : (c d : Map) (e : Entry) (k : UserCache) → ((q : List ℕ) → bytes_eq q e.key ≡ false → d q ≡ c q)
    → d e.key ≡ Some e.item → Matches c k.live.moment k.live.areas
    → Matches d k.live.moment (changed e k).live.areas
changed_matches c d e k g new h =
    EveryIn-settle (IsIn d k.live.moment) weight (frequency (used e k.live)) k.live.limits (used e k.live).areas
    (placed_matches c d e k.live g new h)

-- the storage commands

abbrev Offers : Map → UserCache → StoreKind → Head → List ℕ → Offer → Type 0
Offers c k kind head blob (Refused o) =
    (n : ℕ)
    → (changes_after o n ≡ n) × ((i : Option Item) → after_store head blob k.live.moment n o i ≡ i)
    × Every (IsShown c) (hits_in o)
Offers c k kind head blob (Offered item) = left_by kind (item_of head blob k.live.moment (k.last + 1)) (c head.key) ≡ Some item

offers : (c : Map) (k : UserCache) (kind : StoreKind) (head : Head) (blob : List ℕ) (unique : ℕ) (old : Option Item)
    → ((i : Item) → old ≡ Some i → c head.key ≡ Some i)
    → Offers c k kind head blob (offer_by kind unique (item_of head blob k.live.moment (k.last + 1)) old)
offers c k Set head blob unique old f = refl
offers c k Add head blob unique None f = refl
offers c k Add head blob unique (Some i) f = λ n. (refl, λ i. refl, tt)
offers c k Replace head blob unique None f = λ n. (refl, λ i. refl, tt)
offers c k Replace head blob unique (Some i) f = refl
offers c k Append head blob unique None f = λ n. (refl, λ i. refl, tt)
offers c k Append head blob unique (Some i) f = rw (f i refl) refl
offers c k Prepend head blob unique None f = λ n. (refl, λ i. refl, tt)
offers c k Prepend head blob unique (Some i) f = rw (f i refl) refl
offers c k Cas head blob unique None f = λ n. (refl, λ i. refl, tt)
offers c k Cas head blob unique (Some i) f = go (i.cas == unique)
  where
    go : (b : Bool) → Offers c k Cas head blob (cond b (Offered (item_of head blob k.live.moment (k.last + 1))) (Refused Exists))
    go true = refl
    go false = λ n. (refl, λ i. refl, tt)

kept_goes : (c : Map) (k : UserCache) (head : Head) (blob : List ℕ) (o : Outcome)
    → ((n : ℕ)
    → (changes_after o n ≡ n) × ((i : Option Item) → after_store head blob k.live.moment n o i ≡ i)
    × Every (IsShown c) (hits_in o))
    → Matches c k.live.moment k.live.areas → Goes c k (Store head blob) (o, k)
kept_goes c k head blob o f h = record {
  items =
      Matches-same c (map_after c k (Store head blob) o) k.live.moment k.live.areas
      (λ key. cond-same (bytes_eq key head.key) _ (c key) ((f (changes_after o k.last)).1 (c key))) h;
  moment = refl;
  last = sym (f k.last).0;
  flush = refl;
  fresh = (f k.last).2;
}

changed_goes : (c : Map) (k : UserCache) (head : Head) (blob : List ℕ) (item : Item)
    → left_by head.kind (item_of head blob k.live.moment (k.last + 1)) (c head.key) ≡ Some item
    → Matches c k.live.moment k.live.areas
    → Goes c k (Store head blob) (Stored, changed (record { key = head.key; item = item }) k)
changed_goes c k head blob item f h =
    let e : Entry = record { key = head.key; item = item } in
    record {
      items = changed_matches c (map_after c k (Store head blob) Stored) e k (λ q n. rw n refl) (rw (same_key head.key) f) h;
      moment = refl;
      last = refl;
      flush = refl;
      fresh = tt;
    }

accepted_goes : (c : Map) (k : UserCache) (head : Head) (blob : List ℕ) (o : Offer) → Offers c k head.kind head blob o
    → Matches c k.live.moment k.live.areas → Goes c k (Store head blob) (accepted k head.key o)
accepted_goes c k head blob (Refused o) f h = kept_goes c k head blob o f h
accepted_goes c k head blob (Offered item) f h = go (is_too_large k head.key item.blob) (is_worn k)
  where
    go : (a b : Bool)
        → Goes c k (Store head blob)
        (cond a (TooLarge, k) (cond b (CasWorn, k) (Stored, changed (record { key = head.key; item = item }) k)))
    go true b = kept_goes c k head blob TooLarge (λ n. (refl, λ i. refl, tt)) h
    go false true = kept_goes c k head blob CasWorn (λ n. (refl, λ i. refl, tt)) h
    go false false = changed_goes c k head blob item f h

store_goes : (c : Map) (k : UserCache) (head : Head) (blob : List ℕ) → Matches c k.live.moment k.live.areas
    → Goes c k (Store head blob) (stored k head blob)
store_goes c k head blob h =
    accepted_goes c k head blob _ (offers c k head.kind head blob head.cas_unique _ (go (held head.key k.live.areas) refl)) h
  where
    go : (o : Option Entry) → held head.key k.live.areas ≡ o → (i : Item) → option_map (λ (e : Entry). e.item) o ≡ Some i
        → c head.key ≡ Some i
    go None f i g = absurd (grind (arith, g))
    go (Some e) f i g = (held_matches c k.live.moment head.key k.live.areas e f h).1 ∙ g

-- the look-ups

get_goes : (c : Map) (k : UserCache) (form : Form) (keys : List (List ℕ)) → Matches c k.live.moment k.live.areas
    → Goes c k (Get form keys) (as_values k (all_looked_up (λ i. i) keys k.live))
get_goes c k form keys h =
    let r = all_looked c (λ i. i) (record { twice = λ i. refl; shown = λ key i. refl }) keys k.live h in
    let same : (b : Bool) (o : Option Item) → o ≡ cond b (option_map (λ i. i) o) o = unchanged in
    record {
      items =
          Matches-same (changed_by (λ i. i) (all_looked_up (λ i. i) keys k.live).0 c) c k.live.moment _
          (λ key. same _ (c key)) r.items;
      moment = r.same.moment;
      last = refl;
      flush = r.same.flush;
      fresh = r.fresh;
    }
  where
    unchanged : (b : Bool) (o : Option Item) → o ≡ cond b (option_map (λ i. i) o) o
    unchanged true None = refl
    unchanged true (Some i) = refl
    unchanged false o = refl

gat_goes : (c : Map) (k : UserCache) (form : Form) (exptime : ℤ) (keys : List (List ℕ)) → Matches c k.live.moment k.live.areas
    → Goes c k (Gat form exptime keys) (as_values k (all_looked_up (with_due (due_of exptime k.live.moment)) keys k.live))
gat_goes c k form exptime keys h =
    let r = all_looked c (with_due (due_of exptime k.live.moment)) (record { twice = λ i. refl; shown = λ key i. refl }) keys
    k.live h in
    record { items = r.items; moment = r.same.moment; last = refl; flush = r.same.flush; fresh = r.fresh }

touch_goes : (c : Map) (k : UserCache) (key : List ℕ) (exptime : ℤ) (quiet : Bool) → Matches c k.live.moment k.live.areas
    → Goes c k (Touch key exptime quiet) (touched (due_of exptime k.live.moment) key (held key k.live.areas) k)
touch_goes c k key exptime quiet h = go (held key k.live.areas) refl
  where
    go : (o : Option Entry) → held key k.live.areas ≡ o
        → Goes c k (Touch key exptime quiet) (touched (due_of exptime k.live.moment) key o k)
    go None f = record {
      items = Matches-same c _ k.live.moment k.live.areas (λ q. cond-same (bytes_eq q key) (c q) (c q) refl) h;
      moment = refl;
      last = refl;
      flush = refl;
      fresh = tt;
    }
    go (Some e) f =
        let r = held_matches c k.live.moment key k.live.areas e f h in
        let d : Map = map_after c k (Touch key exptime quiet) Touched in
        let x : Entry = with_item e (with_due (due_of exptime k.live.moment) e.item) in
        record {
          items = placed_matches c d x k.live (λ q n. other r.0 q n) (ap d r.0 ∙ rw (same_key key) (rw r.1 refl)) h;
          moment = refl;
          last = refl;
          flush = refl;
          fresh = tt;
        }
      where
        other : e.key ≡ key → (q : List ℕ) → bytes_eq q e.key ≡ false → map_after c k (Touch key exptime quiet) Touched q ≡ c q
        other s q n = let m : bytes_eq q key ≡ false = ap (bytes_eq q) (sym s) ∙ n in rw m refl

-- delete, incr and decr

delete_goes : (c : Map) (k : UserCache) (key : List ℕ) (quiet : Bool) → Matches c k.live.moment k.live.areas
    → Goes c k (Delete key quiet) (deleted key (held key k.live.areas) k)
delete_goes c k key quiet h = go (held key k.live.areas) refl
  where
    go : (o : Option Entry) → held key k.live.areas ≡ o → Goes c k (Delete key quiet) (deleted key o k)
    go None f = record {
      items = unheld_matches c (map_after c k (Delete key quiet) NotFound) k.live.moment key k.live.areas f
          (λ q n. rw n refl) h;
      moment = refl;
      last = refl;
      flush = refl;
      fresh = tt;
    }
    go (Some e) f = record {
      items = without_key_matches c (map_after c k (Delete key quiet) Deleted) k.live.moment key k.live.areas
          (λ q n. rw n refl) h;
      moment = refl;
      last = refl;
      flush = refl;
      fresh = tt;
    }

count_goes : (c : Map) (k : UserCache) (way : Way) (key : List ℕ) (by : ℕ) (quiet : Bool) → Matches c k.live.moment k.live.areas
    → Goes c k (Count way key by quiet) (counted_under way by (held key k.live.areas) k)
count_goes c k way key by quiet h = go (held key k.live.areas) refl
  where
    stays : Matches (λ q. cond (bytes_eq q key) (c q) (c q)) k.live.moment k.live.areas
    stays =
        Matches-same c (λ q. cond (bytes_eq q key) (c q) (c q)) k.live.moment k.live.areas
        (λ q. cond-same (bytes_eq q key) (c q) (c q) refl) h

    up : (e : Entry) (n : ℕ) (b : Bool) → held key k.live.areas ≡ Some e
        → Goes c k (Count way key by quiet)
        (cond b (CasWorn, k) (Number n, changed (with_item e (with_data (k.last + 1) (text_of n) e.item)) k))
    up e n true f = record { items = stays; moment = refl; last = refl; flush = refl; fresh = tt }
    up e n false f =
        let r = held_matches c k.live.moment key k.live.areas e f h in
        let d : Map = map_after c k (Count way key by quiet) (Number n) in
        let x : Entry = with_item e (with_data (k.last + 1) (text_of n) e.item) in
        record {
          items = changed_matches c d x k (λ q n. other r.0 q n) (ap d r.0 ∙ rw (same_key key) (rw r.1 refl)) h;
          moment = refl;
          last = refl;
          flush = refl;
          fresh = tt;
        }
      where
        other : e.key ≡ key → (q : List ℕ) → bytes_eq q e.key ≡ false → map_after c k (Count way key by quiet) (Number n) q ≡ c q
        other s q n = let m : bytes_eq q key ≡ false = ap (bytes_eq q) (sym s) ∙ n in rw m refl

    read : (e : Entry) (o : Option ℕ) → held key k.live.areas ≡ Some e
        → Goes c k (Count way key by quiet) (counted_to way by k e o)
    read e None f = record { items = stays; moment = refl; last = refl; flush = refl; fresh = tt }
    read e (Some n) f = up e (counted way n by) (is_worn k) f

    go : (o : Option Entry) → held key k.live.areas ≡ o → Goes c k (Count way key by quiet) (counted_under way by o k)
    go None f = record { items = stays; moment = refl; last = refl; flush = refl; fresh = tt }
    go (Some e) f = read e (number_in e.item.blob) f

pub goes : (c : Map) (k : UserCache) (command : Command) → Matches c k.live.moment k.live.areas
    → Goes c k command (done k command)
goes c k (Store head blob) h = store_goes c k head blob h
goes c k (Get form keys) h = get_goes c k form keys h
goes c k (Gat form exptime keys) h = gat_goes c k form exptime keys h
goes c k (Delete key quiet) h = delete_goes c k key quiet h
goes c k (Count way key by quiet) h = count_goes c k way key by quiet h
goes c k (Touch key exptime quiet) h = touch_goes c k key exptime quiet h
goes c k (Flush zero quiet) h = record {
  items = record { window = tt; probation = tt; protected = tt };
  moment = refl;
  last = refl;
  flush = refl;
  fresh = tt;
}
goes c k (Flush (suc delay) quiet) h = record { items = h; moment = refl; last = refl; flush = refl; fresh = tt }
goes c k AskStats h = record { items = h; moment = refl; last = refl; flush = refl; fresh = tt }
goes c k AskVersion h = record { items = h; moment = refl; last = refl; flush = refl; fresh = tt }
goes c k (Verbosity level quiet) h = record { items = h; moment = refl; last = refl; flush = refl; fresh = tt }
goes c k Quit h = record { items = h; moment = refl; last = refl; flush = refl; fresh = tt }
