-- What look-ups do to what stands under each key.
use Rattle.std.specs.Prelude.{option_map, ◌||◌}
use Rattle.std.specs.Str.{bytes_eq}
use Rattle.std.specs.List.{list_any}
use Rattle.std.proofs.Common.{◌≡◌, ℕ, Bool, true, false, cond, List, [], ◌∷◌, ◌++◌, Option, Some, None, refl, sym, ◌∙◌, ap}
use Rattle.std.proofs.lemmas.Slice.Eq.{bytes_eq-Decides}
use Rattle.tc_model.proofs.Every.{Every, Every-weaker}
use Rattle.tc_item.specs.declared.item.Item.{Item}
use Rattle.tc_stats.specs.declared.hits.Hit.{Hit}
use Rattle.tc_plain.specs.declared.shared.entry.Entry.{Entry}
use Rattle.tc_plain.specs.Entries.{shown_as, hit_of, with_item}
use Rattle.tc_plain.specs.EvictionState.{EvictionState, held}
use Rattle.tc_plain.specs.Placing.{seen, used}
use Rattle.tc_plain.specs.Doing.{looked_up, all_looked_up}
use Rattle.tc_plain.proofs.Held.{Map, Matches, Matches-same, held_matches, placed_matches}

-- a hit is what stands under its key
abbrev pub IsShown : Map → Hit → Type 0
IsShown c h = option_map (shown_as h.key) (c h.key) ≡ Some h

pub same_key : (key : List ℕ) → bytes_eq key key ≡ true
same_key key = (bytes_eq-Decides key key).1 refl

pub cond-same : {A : Type 0} (b : Bool) (x y : A) → x ≡ y → cond b x y ≡ y
cond-same true x y e = e
cond-same false x y e = refl

-- what a look-up leaves as it was
pub record SameBut (l j : EvictionState) : Type 0 where
  pub moment : j.moment ≡ l.moment
  pub flush : j.flush ≡ l.flush
  pub limits : j.limits ≡ l.limits

-- what stands under each key once the hits were changed
abbrev pub changed_by : (Item → Item) → List Hit → Map → Map
changed_by change hits c key = cond (list_any (λ h. bytes_eq key h.key) hits) (option_map change (c key)) (c key)

pub record Looked (c : Map) (change : Item → Item) (l : EvictionState) (r : List Hit × EvictionState) : Type 0 where
  pub items : Matches (changed_by change r.0 c) l.moment r.1.areas
  pub same : SameBut l r.1
  pub fresh : Every (IsShown c) r.0

-- a change of due alone, which made twice is made once
pub record IsQuiet (change : Item → Item) : Type 0 where
  pub twice : (i : Item) → change (change i) ≡ change i
  pub shown : (key : List ℕ) (i : Item) → shown_as key (change i) ≡ shown_as key i

changed_twice : (change : Item → Item) → IsQuiet change → (a b : Bool) (o : Option Item)
    → cond (a || b) (option_map change o) o
    ≡ cond b (option_map change (cond a (option_map change o) o)) (cond a (option_map change o) o)
changed_twice change q true true None = refl
changed_twice change q true true (Some i) = ap Some (sym (q.twice i))
changed_twice change q true false o = refl
changed_twice change q false true o = refl
changed_twice change q false false o = refl

shown_before : (change : Item → Item) → IsQuiet change → (key : List ℕ) (b : Bool) (o : Option Item)
    → option_map (shown_as key) o ≡ option_map (shown_as key) (cond b (option_map change o) o)
shown_before change q key true None = refl
shown_before change q key true (Some i) = ap Some (sym (q.shown key i))
shown_before change q key false o = refl

hit_first : (c : Map) (change : Item → Item) → IsQuiet change → (l : EvictionState) (e : Entry) (keys : List (List ℕ))
    → c e.key ≡ Some e.item → Matches c l.moment l.areas
    → ((d : Map) (j : EvictionState) → Matches d j.moment j.areas → Looked d change j (all_looked_up change keys j))
    → Looked c change l (
      hit_of e ∷ (all_looked_up change keys (used (with_item e (change e.item)) l)).0,
      (all_looked_up change keys (used (with_item e (change e.item)) l)).1,
    )
hit_first c change q l e keys f h later =
    let x : Entry = with_item e (change e.item) in
    let j : EvictionState = used x l in
    let d : Map = λ key. cond (bytes_eq key e.key) (option_map change (c key)) (c key) in
    let stands : d e.key ≡ Some x.item = rw (same_key e.key) (rw f refl) in
    let m : Matches d l.moment j.areas = placed_matches c d x l (λ p n. rw n refl) stands h in
    let r = later d j m in
    let hits = (all_looked_up change keys j).0 in
    record {
      items =
          Matches-same (changed_by change hits d) _ l.moment _
          (λ key. changed_twice change q (bytes_eq key e.key) (list_any (λ g. bytes_eq key g.key) hits) (c key)) r.items;
      same = record { moment = r.same.moment; flush = r.same.flush; limits = r.same.limits };
      fresh = (
        rw f refl,
        Every-weaker (IsShown d) (IsShown c) (λ g p. shown_before change q g.key (bytes_eq g.key e.key) (c g.key) ∙ p) hits
            r.fresh,
      );
    }

pub all_looked : (c : Map) (change : Item → Item) → IsQuiet change → (keys : List (List ℕ)) (l : EvictionState)
    → Matches c l.moment l.areas → Looked c change l (all_looked_up change keys l)
all_looked c change q [] l h = record { items = h; same = record { moment = refl; flush = refl; limits = refl }; fresh = tt }
all_looked c change q (key ∷ keys) l h = go (held key l.areas) refl (λ d j g. all_looked d change q keys j g)
  where
    go : (o : Option Entry) → held key l.areas ≡ o
        → ((d : Map) (j : EvictionState) → Matches d j.moment j.areas → Looked d change j (all_looked_up change keys j))
        → Looked c change l (
          (looked_up change key o l).0 ++ (all_looked_up change keys (looked_up change key o l).1).0,
          (all_looked_up change keys (looked_up change key o l).1).1,
        )
    go None f later =
        let r = later c (seen key l) h in
        record {
          items = r.items;
          same = record { moment = r.same.moment; flush = r.same.flush; limits = r.same.limits };
          fresh = r.fresh;
        }
    go (Some e) f later =
        let s = held_matches c l.moment key l.areas e f h in hit_first c change q l e keys (ap c s.0 ∙ s.1) h later
