-- Each command leaves a sound cache sound.
use Rattle.std.specs.Prelude.{max, nat_lt, nat_le, ◌==◌, ◌&&◌, ◌^◌, take_while, drop}
use Rattle.std.specs.List.{list_all}
use Rattle.std.specs.Char.{is_ascii_digit}
use Rattle.std.specs.Str.Parse.{digits_value}
use Rattle.std.proofs.Common.{◌≡◌, ℕ, zero, suc, ◌+◌, ◌-◌, ◌≤◌, ◌<◌, Bool, true, false, cond, List, [], ◌∷◌, length, Option, Some}
use Rattle.std.proofs.Common.{None, refl, sym, ◌∙◌, ap, subst, arith}
use Rattle.std.proofs.lemmas.Bool.{ltb-true, ltb-false, eqb-false, or_parts, and_parts}
use Rattle.std.proofs.lemmas.Fmt.{length-decimal-le}
use Rattle.tc_model.specs.Areas.{Limits}
use Rattle.tc_item.specs.Bounds.{smallest_budget, longest_key}
use Rattle.tc_item.specs.declared.moment.Due.{Due}
use Rattle.tc_item.specs.declared.item.Item.{Item}
use Rattle.tc_item.specs.Expiry.{due_of}
use Rattle.tc_item.specs.Weight.{weight_of}
use Rattle.tc_counter.specs.CounterText.{is_counter_text, number_in, text_of}
use Rattle.tc_grammar.specs.declared.command.Way.{Way}
use Rattle.tc_grammar.specs.declared.command.Way.TheVariants.{Incr, Decr}
use Rattle.tc_grammar.specs.declared.command.Command.{Command}
use Rattle.tc_grammar.specs.declared.command.Command.TheVariants.{Store, Get, Gat, Delete, Count, Touch, Flush, Stats as AskStats}
use Rattle.tc_grammar.specs.declared.command.Command.TheVariants.{Version as AskVersion, Verbosity, Quit}
use Rattle.tc_stats.specs.declared.outcome.Outcome.{Outcome}
use Rattle.tc_stats.specs.declared.outcome.Outcome.TheVariants.{Stored, Number, TooLarge, CasWorn}
use Rattle.tc_plain.specs.declared.shared.entry.Entry.{Entry}
use Rattle.tc_plain.specs.Entries.{weight, with_item, with_due, with_data}
use Rattle.tc_plain.specs.EvictionState.{EvictionState, limits_of, held, at_moment}
use Rattle.tc_plain.specs.Placing.{seen, frequency, used}
use Rattle.tc_plain.specs.UserCache.{UserCache, advance}
use Rattle.tc_plain.specs.Storing.{Offer, Refused, Offered, is_too_large, is_worn, changed, accepted}
use Rattle.tc_plain.specs.Doing.{looked_up, all_looked_up, with_live, touched, deleted, counted, counted_to, counted_under, done}
use Rattle.tc_plain.specs.Soundness.{AreSound, IsSound, HasShortKey, StaysSound}
use Rattle.tc_item.specs.KeyHash.{hash}
use Rattle.tc_plain.proofs.Widths.{recorded_width, width-at_moment, width-all_looked_up}
use Rattle.tc_plain.proofs.Sound.{IsLight, held_light, sound_kept, sound_none, sound_at_moment, sound_hit, sound_settled}

-- another state of what look-ups touch
pub sound_with : (k : UserCache) (l : EvictionState) → IsSound k → l.limits ≡ k.live.limits
    → l.sketch.width ≡ k.live.sketch.width → AreSound k.live.limits l.areas → IsSound (with_live k l)
sound_with k l h same wide s = record {
  least_budget = h.least_budget;
  most_budget = h.most_budget;
  least_largest = h.least_largest;
  most_largest = h.most_largest;
  limits = same ∙ h.limits;
  width = wide ∙ h.width;
  areas = subst (λ t. AreSound t l.areas) (sym same) s;
  last = h.last;
}

pub sound_changed : (e : Entry) (k : UserCache) → is_worn k ≡ false → IsLight k.live.limits e → IsSound k → IsSound (changed e k)
sound_changed e k w l h = record {
  least_budget = h.least_budget;
  most_budget = h.most_budget;
  least_largest = h.least_largest;
  most_largest = h.most_largest;
  limits = h.limits;
  width = recorded_width k.live.sketch (hash e.key) ∙ h.width;
  areas = sound_settled k.live e (frequency (used e k.live)) l h.areas;
  last = below k.last h.last (eqb-false k.last (2 ^ 64 - 1) w);
}
  where
    below : (x : ℕ) → x ≤ 2 ^ 64 - 1 → (x ≡ 2 ^ 64 - 1 → ⊥) → x + 1 ≤ 2 ^ 64 - 1
    below x le ne = omega arith

sound_accepted : (k : UserCache) (key : List ℕ) (o : Offer) → IsSound k → IsSound (accepted k key o).1
sound_accepted k key (Refused o) h = h
sound_accepted k key (Offered item) h = go (is_too_large k key item.blob) refl (is_worn k) refl
  where
    go : (a : Bool) → is_too_large k key item.blob ≡ a → (b : Bool) → is_worn k ≡ b
        → IsSound (cond a (let r : Outcome × UserCache = (TooLarge, k) in r)
        (cond b (CasWorn, k) (Stored, changed (record { key = key; item = item }) k))).1
    go true l b w = h
    go false l true w = h
    go false l false w =
        let light = (or_parts (nat_lt k.largest (length item.blob)) (nat_lt k.live.limits.main (weight_of key (length item.blob)))
        l).1 in
        sound_changed (record { key = key; item = item }) k w
        (ltb-false k.live.limits.main (weight_of key (length item.blob)) light) h

-- what is found under a key is found under its own
pub held_own : (limits : Limits) (key : List ℕ) (l : EvictionState) (e : Entry) → held key l.areas ≡ Some e
    → AreSound limits l.areas → held e.key l.areas ≡ Some e
held_own limits key l e f h = ap (λ q. held q l.areas) (held_light limits key l.areas e f h).0 ∙ f

pub sound_looked : (change : Item → Item) → ((i : Item) → (change i).blob ≡ i.blob) → (keys : List (List ℕ)) (l : EvictionState)
    → AreSound l.limits l.areas
    → AreSound l.limits (all_looked_up change keys l).1.areas × ((all_looked_up change keys l).1.limits ≡ l.limits)
sound_looked change q [] l h = (h, refl)
sound_looked change q (key ∷ keys) l h = go (held key l.areas) refl (λ j g. sound_looked change q keys j g)
  where
    go : (o : Option Entry) → held key l.areas ≡ o
        → ((j : EvictionState) → AreSound j.limits j.areas
        → AreSound j.limits (all_looked_up change keys j).1.areas × ((all_looked_up change keys j).1.limits ≡ j.limits))
        → AreSound l.limits (all_looked_up change keys (looked_up change key o l).1).1.areas
        × ((all_looked_up change keys (looked_up change key o l).1).1.limits ≡ l.limits)
    go None f later = later (seen key l) h
    go (Some e) f later =
        let x = with_item e (change e.item) in
        let same : weight x ≡ weight e = ap (λ b. weight_of e.key (length b)) (q e.item) in
        later (used x l) (sound_hit l x e (held_own l.limits key l e f h) (omega (arith, same)) h)

pub sound_touched : (due : Due) (key : List ℕ) (k : UserCache) → IsSound k → IsSound (touched due key (held key k.live.areas) k).1
sound_touched due key k h = go (held key k.live.areas) refl
  where
    go : (o : Option Entry) → held key k.live.areas ≡ o → IsSound (touched due key o k).1
    go None f = sound_with k (seen key k.live) h refl (recorded_width k.live.sketch (hash key)) h.areas
    go (Some e) f =
        let x = with_item e (with_due due e.item) in
        sound_with k (used x k.live) h refl (recorded_width k.live.sketch (hash x.key))
        (sound_hit k.live x e (held_own k.live.limits key k.live e f h.areas) (omega arith) h.areas)

sound_deleted : (key : List ℕ) (k : UserCache) → IsSound k → IsSound (deleted key (held key k.live.areas) k).1
sound_deleted key k h = go (held key k.live.areas)
  where
    go : (o : Option Entry) → IsSound (deleted key o k).1
    go None = h
    go (Some e) = sound_with k _ h refl refl (sound_kept k.live.limits k.live.areas _ h.areas)

-- a number that is read is one of 64 bits, and so is what it is counted to
pub number-lt : (text : List ℕ) (n : ℕ) → number_in text ≡ Some n → n < 2 ^ 64
unfolding number_in
number-lt text n e =
    go (is_counter_text (take_while is_ascii_digit text) (drop (length (take_while is_ascii_digit text)) text)) refl e
  where
    go : (b : Bool) → is_counter_text (take_while is_ascii_digit text) (drop (length (take_while is_ascii_digit text)) text) ≡ b
        → cond b (Some (digits_value 10 (take_while is_ascii_digit text))) None ≡ Some n → n < 2 ^ 64
    go true t f =
        let digits = take_while is_ascii_digit text in
        let front = (and_parts (nat_le 1 (length digits) && nat_le (length digits) 20 && nat_lt (digits_value 10 digits) (2 ^ 64))
        (list_all (λ c. c == 32) (drop (length digits) text)) t).0 in
        let small = (and_parts (nat_le 1 (length digits) && nat_le (length digits) 20)
        (nat_lt (digits_value 10 digits) (2 ^ 64)) front).1 in
        let same : digits_value 10 digits ≡ n = cc in
        subst (λ m. m < 2 ^ 64) same (ltb-true (digits_value 10 digits) (2 ^ 64) small)
    go false t f = absurd (grind (arith, f))

pub counted-lt : (way : Way) (n by : ℕ) → n < 2 ^ 64 → counted way n by < 2 ^ 64
counted-lt Incr n by h = omega arith
counted-lt Decr n by h = omega arith

pub light_number : (limits : Limits) (budget : ℕ) (key : List ℕ) (n : ℕ) → limits ≡ limits_of budget → smallest_budget ≤ budget
    → length key ≤ longest_key → n < 2 ^ 64 → weight_of key (length (text_of n)) ≤ limits.main
light_number limits budget key n same big short small =
    let l = length-decimal-le 20 n (omega arith) (omega arith) small in
    let main : limits.main ≡ (limits_of budget).main = ap (λ (t : Limits). t.main) same in
    omega (arith, l, main)

sound_counted : (way : Way) (key : List ℕ) (by : ℕ) (k : UserCache) → length key ≤ longest_key → IsSound k
    → IsSound (counted_under way by (held key k.live.areas) k).1
sound_counted way key by k short h = go (held key k.live.areas) refl
  where
    up : (e : Entry) (n : ℕ) → held key k.live.areas ≡ Some e → n < 2 ^ 64 → (b : Bool) → is_worn k ≡ b
        → IsSound (cond b (let r : Outcome × UserCache = (CasWorn, k) in r)
        (Number n, changed (with_item e (with_data (k.last + 1) (text_of n) e.item)) k)).1
    up e n f s true w = h
    up e n f s false w =
        let same : e.key ≡ key = (held_light k.live.limits key k.live.areas e f h.areas).0 in
        let le : length e.key ≤ longest_key = subst (λ q. length q ≤ longest_key) (sym same) short in
        sound_changed (with_item e (with_data (k.last + 1) (text_of n) e.item)) k w
        (light_number k.live.limits k.budget e.key n h.limits h.least_budget le s) h

    read : (e : Entry) (o : Option ℕ) → held key k.live.areas ≡ Some e → number_in e.item.blob ≡ o
        → IsSound (counted_to way by k e o).1
    read e None f g = h
    read e (Some n) f g = up e (counted way n by) f (counted-lt way n by (number-lt e.item.blob n g)) (is_worn k) refl

    go : (o : Option Entry) → held key k.live.areas ≡ o → IsSound (counted_under way by o k).1
    go None f = h
    go (Some e) f = read e (number_in e.item.blob) f refl

pub sound_done : (k : UserCache) (command : Command) → HasShortKey command → IsSound k → IsSound (done k command).1
sound_done k (Store head blob) short h = sound_accepted k head.key _ h
sound_done k (Get form keys) short h =
    let r = sound_looked (λ i. i) (λ i. refl) keys k.live h.areas in
    sound_with k _ h r.1 (width-all_looked_up (λ i. i) keys k.live) r.0
sound_done k (Gat form exptime keys) short h =
    let r = sound_looked (with_due (due_of exptime k.live.moment)) (λ i. refl) keys k.live h.areas in
    sound_with k _ h r.1 (width-all_looked_up (with_due (due_of exptime k.live.moment)) keys k.live) r.0
sound_done k (Delete key quiet) short h = sound_deleted key k h
sound_done k (Count way key by quiet) short h = sound_counted way key by k short h
sound_done k (Touch key exptime quiet) short h = sound_touched (due_of exptime k.live.moment) key k h
sound_done k (Flush zero quiet) short h = sound_with k _ h refl refl (sound_none k.live.limits)
sound_done k (Flush (suc delay) quiet) short h = sound_with k _ h refl refl h.areas
sound_done k AskStats short h = h
sound_done k AskVersion short h = h
sound_done k (Verbosity level quiet) short h = h
sound_done k Quit short h = h

pub sound_advance : (k : UserCache) (m : ℕ) → IsSound k → IsSound (advance k m)
sound_advance k m h =
    let r = sound_at_moment (max k.live.moment m) k.live h.areas in
    sound_with k (at_moment (max k.live.moment m) k.live) h r.1 (width-at_moment (max k.live.moment m) k.live) r.0

pub stays_sound : StaysSound
stays_sound k m command short h =
    let r = sound_done (advance k m) command short (sound_advance k m h) in
    record {
      least_budget = r.least_budget;
      most_budget = r.most_budget;
      least_largest = r.least_largest;
      most_largest = r.most_largest;
      limits = r.limits;
      width = r.width;
      areas = r.areas;
      last = r.last;
    }
