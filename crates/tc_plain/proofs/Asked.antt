-- The hits of keys that are looked up one after another, by what each held before.
use Rattle.std.specs.Prelude.{filter, option_map, option_to_list, is_some, not, ◌&&◌, ◌||◌}
use Rattle.std.specs.Str.{bytes_eq}
use Rattle.std.specs.List.{list_any}
use Rattle.std.proofs.Common.{◌≡◌, ℕ, ◌≤◌, ◌<◌, ◌+◌, Bool, true, false, cond, List, [], ◌∷◌, ◌++◌, length, get_or, take, Option}
use Rattle.std.proofs.Common.{Some, None, refl, sym, ◌∙◌, ap, subst, append_assoc, arith}
use Rattle.std.proofs.lemmas.List.{append-nil, take_more}
use Rattle.std.proofs.lemmas.Slice.Eq.{bytes_eq-Decides}
use Rattle.tc_model.specs.Areas.{Areas, accessed, raised}
use Rattle.tc_model.proofs.Every.{Every, Every-filter, EveryIn, EveryIn-accessed, EveryIn-weaker}
use Rattle.tc_model.proofs.Totals.{total-demoted}
use Rattle.tc_item.specs.declared.moment.Due.{Due}
use Rattle.tc_item.specs.declared.item.Item.{Item}
use Rattle.tc_item.specs.Expiry.{is_before}
use Rattle.tc_stats.specs.declared.hits.Hit.{Hit}
use Rattle.tc_plain.specs.declared.shared.entry.Entry.{Entry}
use Rattle.tc_plain.specs.Entries.{weight, lives, has_key, hit_of, with_item}
use Rattle.tc_plain.specs.EvictionState.{EvictionState, held, entries_of, filtered, no_entries, is_flush_due, at_moment}
use Rattle.tc_plain.specs.Placing.{seen, at_front, put_in, without_key, placed, used}
use Rattle.tc_plain.specs.Doing.{looked_up, all_looked_up}
use Rattle.tc_plain.specs.AreaLists.{change_of, is_due}
use Rattle.tc_plain.specs.Soundness.{AreSound, count_under}
use Rattle.tc_plain.proofs.Sound.{sound_at_moment, once_put, sound_hit}
use Rattle.tc_plain.proofs.Held.{found, all_of}
use Rattle.tc_plain.proofs.Looks.{IsQuiet}
use Rattle.tc_plain.proofs.Used.{held_key}
use Rattle.tc_plain.proofs.Shown.{held-without_key, held-without_key_own, held-raised, held-raised_own, held-demoted}

-- what keys hold once an entry was used in the place of what its key held
pub held-used : (l : EvictionState) (x old : Entry) (q : List ℕ) (b : Bool) → AreSound l.limits l.areas
    → held x.key l.areas ≡ Some old → lives l.moment x ≡ b
    → held q (used x l).areas ≡ cond (bytes_eq x.key q) (cond b (Some x) None) (held q l.areas)
held-used l x old q b sound h alive =
    ap (λ t. held q (cond t (put_in l.limits x l.areas) (without_key x.key l.areas))) alive
    ∙ ap (λ o. held q (cond b (cond (is_some o) (accessed weight l.limits (has_key x.key) x l.areas) (at_front x l.areas))
    (without_key x.key l.areas))) h
    ∙ go b (bytes_eq x.key q) refl
  where
    r : Areas Entry
    r = raised (has_key x.key) x l.areas

    few : count_under q (raised (has_key x.key) x l.areas) ≤ 1
    few =
        let f : Entry → ℕ = λ e. cond (has_key q e) 1 0 in
        let put : put_in l.limits x l.areas ≡ accessed weight l.limits (has_key x.key) x l.areas =
        ap (λ o. cond (is_some o) (accessed weight l.limits (has_key x.key) x l.areas) (at_front x l.areas)) h in
        let once : count_under q (accessed weight l.limits (has_key x.key) x l.areas) ≤ 1 =
        subst (λ a. count_under q a ≤ 1) put (once_put l.limits x l.areas sound q) in
        let same : count_under q (accessed weight l.limits (has_key x.key) x l.areas)
        ≡ count_under q (raised (has_key x.key) x l.areas) =
        total-demoted f weight l.limits (raised (has_key x.key) x l.areas) in
        subst (λ n. n ≤ 1) same once

    go : (b t : Bool) → bytes_eq x.key q ≡ t
        → held q (cond b (accessed weight l.limits (has_key x.key) x l.areas) (without_key x.key l.areas))
        ≡ cond t (cond b (Some x) None) (held q l.areas)
    go true true e =
        let same : x.key ≡ q = (bytes_eq-Decides x.key q).0 e in
        held-demoted q l.limits (raised (has_key x.key) x l.areas) few
        ∙ ap (λ k. held k (raised (has_key x.key) x l.areas)) (sym same) ∙ held-raised_own x.key x l.areas refl
    go true false e = held-demoted q l.limits (raised (has_key x.key) x l.areas) few ∙ held-raised x.key q x l.areas refl e
    go false true e =
        let same : x.key ≡ q = (bytes_eq-Decides x.key q).0 e in
        ap (λ k. held k (without_key x.key l.areas)) (sym same) ∙ held-without_key_own x.key l.areas
    go false false e = held-without_key x.key q l.areas e

pub every_placed : (P : Entry → Type 0) (l : EvictionState) (x : Entry) → P x → EveryIn P l.areas → EveryIn P (placed l x)
every_placed P l x new h = go (lives l.moment x) (is_some (held x.key l.areas))
  where
    left : (xs : List Entry) → Every P xs → Every P (filter (λ y. not (has_key x.key y)) xs)
    left xs g = Every-filter P P (λ y. not (has_key x.key y)) (λ y t p. p) xs g

    go : (a b : Bool)
        → EveryIn P (cond a (cond b (accessed weight l.limits (has_key x.key) x l.areas) (at_front x l.areas))
        (without_key x.key l.areas))
    go true true = EveryIn-accessed P P weight l.limits (has_key x.key) x l.areas (λ y t p. p) new h
    go true false = record { window = (new, h.window); probation = h.probation; protected = h.protected }
    go false b = record {
      window = left l.areas.window h.window;
      probation = left l.areas.probation h.probation;
      protected = left l.areas.protected h.protected;
    }

-- hits are gone after the first, or all stay alive
abbrev pub Lasting : Bool → (Item → Item) → EvictionState → Type 0
Lasting true change l = (e : Entry) → lives l.moment (with_item e (change e.item)) ≡ false
Lasting false change l = EveryIn (λ e. lives l.moment (with_item e (change e.item)) ≡ true) l.areas

module _ (change : Item → Item) (quiet : IsQuiet change) (lighter : (i : Item) → (change i).blob ≡ i.blob) where
  abbrev changed_entry : Entry → Entry
  changed_entry e = with_item e (change e.item)

  lasting_alive : (g : Bool) (l : EvictionState) (e : Entry) → Lasting g change l → held e.key l.areas ≡ Some e
      → lives l.moment (changed_entry e) ≡ not g
  lasting_alive true l e h f = h e
  lasting_alive false l e h f =
      (found (λ x. lives l.moment (changed_entry x) ≡ true) (has_key e.key) (entries_of l.areas) e f
      (all_of (λ x. lives l.moment (changed_entry x) ≡ true) l.areas h)).1

  lasting_used : (g : Bool) (l : EvictionState) (e : Entry) → Lasting g change l → lives l.moment (changed_entry e) ≡ not g
      → Lasting g change (used (changed_entry e) l)
  lasting_used true l e h f = h
  lasting_used false l e h f =
      every_placed (λ y. lives l.moment (with_item y (change y.item)) ≡ true) l (changed_entry e)
      (ap (λ i. lives l.moment (with_item e i)) (quiet.twice e.item) ∙ f) h

  -- what a key shows
  abbrev shown : EvictionState → List ℕ → Option Hit
  shown l q = option_map hit_of (held q l.areas)

  shown_once : (g t m : Bool) (x e : Entry) (o : Option Entry) → hit_of x ≡ hit_of e → (t ≡ true → o ≡ Some e)
      → cond (g && m) None (option_map hit_of (cond t (cond (not g) (Some x) None) o))
      ≡ cond (g && (t || m)) None (option_map hit_of o)
  shown_once true true true x e o same h = refl
  shown_once true true false x e o same h = refl
  shown_once true false m x e o same h = refl
  shown_once false true m x e o same h = ap Some same ∙ sym (ap (option_map hit_of) (h refl))
  shown_once false false m x e o same h = refl

  missed_once : (g t m : Bool) (o : Option Entry) → (t ≡ true → o ≡ None)
      → cond (g && m) None (option_map hit_of o) ≡ cond (g && (t || m)) None (option_map hit_of o)
  missed_once true true true o h = refl
  missed_once true true false o h = ap (option_map hit_of) (h refl)
  missed_once true false m o h = refl
  missed_once false t m o h = refl

  -- what a key shows once others were looked up
  pub shown-looked_up : (g : Bool) (ks : List (List ℕ)) (l : EvictionState) → AreSound l.limits l.areas → Lasting g change l
      → (q : List ℕ)
      → shown (all_looked_up change ks l).1 q ≡ cond (g && list_any (λ k. bytes_eq k q) ks) None (shown l q)
  shown-looked_up true [] l s h q = refl
  shown-looked_up false [] l s h q = refl
  shown-looked_up g (k ∷ ks) l s h q = go (held k l.areas) refl (λ j a b. shown-looked_up g ks j a b q)
    where
      go : (o : Option Entry) → held k l.areas ≡ o
          → ((j : EvictionState) → AreSound j.limits j.areas → Lasting g change j
          → shown (all_looked_up change ks j).1 q ≡ cond (g && list_any (λ k. bytes_eq k q) ks) None (shown j q))
          → shown (all_looked_up change ks (looked_up change k o l).1).1 q
          ≡ cond (g && (bytes_eq k q || list_any (λ k. bytes_eq k q) ks)) None (shown l q)
      go None f later =
          later (seen k l) s (same_lasting g h)
          ∙ missed_once g (bytes_eq k q) (list_any (λ k. bytes_eq k q) ks) (held q l.areas)
          (λ t. ap (λ j. held j l.areas) (sym ((bytes_eq-Decides k q).0 t)) ∙ f)
        where
          same_lasting : (g : Bool) → Lasting g change l → Lasting g change (seen k l)
          same_lasting true h = h
          same_lasting false h = h
      go (Some e) f later =
          let same : e.key ≡ k = held_key k l.areas e f in
          let own : held e.key l.areas ≡ Some e = ap (λ j. held j l.areas) same ∙ f in
          let x : Entry = changed_entry e in
          let alive : lives l.moment x ≡ not g = lasting_alive g l e h own in
          let light : weight x ≡ weight e = ap (λ b. weight (with_item e (record e.item { blob = b }))) (lighter e.item) in
          later (used x l) (sound_hit l x e own (omega (arith, light)) s) (lasting_used g l e h alive)
          ∙ ap (λ o. cond (g && list_any (λ k. bytes_eq k q) ks) None (option_map hit_of o))
          (held-used l x e q (not g) s own alive)
          ∙ ap (λ j. cond (g && list_any (λ k. bytes_eq k q) ks) None
          (option_map hit_of (cond (bytes_eq j q) (cond (not g) (Some x) None) (held q l.areas)))) same
          ∙ shown_once g (bytes_eq k q) (list_any (λ k. bytes_eq k q) ks) x e (held q l.areas) (quiet.shown e.key e.item)
          (λ t. ap (λ j. held j l.areas) (sym ((bytes_eq-Decides k q).0 t)) ∙ f)

-- one key more comes last
pub looked_up-push : (change : Item → Item) (ks : List (List ℕ)) (k : List ℕ) (l : EvictionState)
    → let j = (all_looked_up change ks l).1 in
    all_looked_up change (ks ++ k ∷ []) l
    ≡ ((all_looked_up change ks l).0 ++ (looked_up change k (held k j.areas) j).0, (looked_up change k (held k j.areas) j).1)
looked_up-push change [] k l =
    ap (λ xs. (xs, (looked_up change k (held k l.areas) l).1)) (append-nil (looked_up change k (held k l.areas) l).0)
looked_up-push change (c ∷ ks) k l =
    let first = looked_up change c (held c l.areas) l in
    let j = (all_looked_up change ks first.1).1 in
    let hits : List Hit = (all_looked_up change ks first.1).0 in
    let last = looked_up change k (held k j.areas) j in
    ap (λ r. (first.0 ++ r.0, r.1)) (looked_up-push change ks k first.1)
    ∙ ap (λ xs. (xs, last.1)) (sym (append_assoc first.0 hits last.0))

hits_one : (change : Item → Item) (k : List ℕ) (o : Option Entry) (l : EvictionState)
    → (looked_up change k o l).0 ≡ option_to_list (option_map hit_of o)
hits_one change k None l = refl
hits_one change k (Some e) l = refl

-- the state after one key more
pub live-take_more : (change : Item → Item) (keys : List (List ℕ)) (i : ℕ) (d : List ℕ) (l : EvictionState) → i < length keys
    → let j = (all_looked_up change (take i keys) l).1 in
    (all_looked_up change (take (i + 1) keys) l).1 ≡ (looked_up change (get_or keys i d) (held (get_or keys i d) j.areas) j).1
live-take_more change keys i d l lt =
    ap (λ ks. (all_looked_up change ks l).1) (take_more keys i d lt)
    ∙ ap (λ r. r.1) (looked_up-push change (take i keys) (get_or keys i d) l)

pub change_light : (due : Option Due) (i : Item) → (change_of due i).blob ≡ i.blob
change_light None i = refl
change_light (Some d) i = refl

-- the hits of one key more
pub hits-take_more : (due : Option Due) (g : Bool) (keys : List (List ℕ)) (i : ℕ) (d : List ℕ) (l : EvictionState)
    → i < length keys → AreSound l.limits l.areas → Lasting g (change_of due) l
    → (all_looked_up (change_of due) (take (i + 1) keys) l).0
    ≡ (all_looked_up (change_of due) (take i keys) l).0
    ++ option_to_list (cond (g && list_any (λ k. bytes_eq k (get_or keys i d)) (take i keys)) None
    (option_map hit_of (held (get_or keys i d) l.areas)))
hits-take_more due g keys i d l lt s h =
    let k : List ℕ = get_or keys i d in
    let j : EvictionState = (all_looked_up (change_of due) (take i keys) l).1 in
    let before : List Hit = (all_looked_up (change_of due) (take i keys) l).0 in
    ap (λ ks. (all_looked_up (change_of due) ks l).0) (take_more keys i d lt)
    ∙ ap (λ r. r.0) (looked_up-push (change_of due) (take i keys) k l)
    ∙ ap (λ xs. before ++ xs) (hits_one (change_of due) k (held k j.areas) j)
    ∙ ap (λ o. before ++ option_to_list o)
    (shown-looked_up (change_of due) (quiet due) (change_light due) g (take i keys) l s h k)
  where
    quiet : (due : Option Due) → IsQuiet (change_of due)
    quiet None = record { twice = λ i. refl; shown = λ key i. refl }
    quiet (Some d) = record { twice = λ i. refl; shown = λ key i. refl }

lasting_by : (due : Option Due) (m : ℕ) (l : EvictionState) → l.moment ≡ m → EveryIn (λ e. lives m e ≡ true) l.areas
    → Lasting (is_due due m) (change_of due) l
lasting_by None m l at h =
    EveryIn-weaker (λ e. lives m e ≡ true) (λ e. lives l.moment e ≡ true) (λ e t. ap (λ n. lives n e) at ∙ t) l.areas h
lasting_by (Some d) m l at h = go (is_before m d) refl
  where
    go : (b : Bool) → is_before m d ≡ b → Lasting (not b) (change_of (Some d)) l
    go true t =
        EveryIn-weaker (λ e. lives m e ≡ true) (λ e. is_before l.moment d ≡ true)
        (λ e s. ap (λ n. is_before n d) at ∙ t) l.areas h
    go false t = λ e. ap (λ n. is_before n d) at ∙ t

-- hits are gone where they are given a due that has come
pub lasting_at : (due : Option Due) (m : ℕ) (l : EvictionState) → Lasting (is_due due m) (change_of due) (at_moment m l)
lasting_at due m l = go (is_flush_due l.flush m)
  where
    left : (xs : List Entry) → Every (λ e. lives m e ≡ true) (filter (lives m) xs)
    left [] = tt
    left (x ∷ xs) = next (lives m x) refl (left xs)
      where
        next : (b : Bool) → lives m x ≡ b → Every (λ e. lives m e ≡ true) (filter (lives m) xs)
            → Every (λ e. lives m e ≡ true) (cond b (x ∷ filter (lives m) xs) (filter (lives m) xs))
        next true t rest = (t, rest)
        next false t rest = rest

    go : (b : Bool)
        → Lasting (is_due due m) (change_of due)
        (cond b (record l { areas = no_entries; flush = None; moment = m })
        (record l { areas = filtered (lives m) l.areas; moment = m }))
    go true =
        lasting_by due m (record l { areas = no_entries; flush = None; moment = m }) refl
        (record { window = tt; probation = tt; protected = tt })
    go false =
        lasting_by due m (record l { areas = filtered (lives m) l.areas; moment = m }) refl
        (record { window = left l.areas.window; probation = left l.areas.probation; protected = left l.areas.protected })

-- a loop over keys that has come to one key more
hits_next : (due : Option Due) (m : ℕ) (keys : List (List ℕ)) (i : ℕ) (d key : List ℕ) (asked : List (List ℕ)) (gone : Bool)
    (l : EvictionState) (hits new : List Hit)
    → i < length keys → AreSound l.limits l.areas → gone ≡ is_due due m → asked ≡ take i keys → key ≡ get_or keys i d
    → hits ≡ (all_looked_up (change_of due) (take i keys) (at_moment m l)).0
    → new ≡ hits
    ++ option_to_list
    (cond (gone && list_any (λ k. bytes_eq k key) asked) None (option_map hit_of (held key (at_moment m l).areas)))
    → new ≡ (all_looked_up (change_of due) (take (i + 1) keys) (at_moment m l)).0
hits_next due m keys i d key asked gone l hits new lt sound e f g h same =
    let j : EvictionState = at_moment m l in
    let s = sound_at_moment m l sound in
    let there : AreSound j.limits j.areas = subst (λ t. AreSound t j.areas) (sym s.1) s.0 in
    same
    ∙ ap (λ xs. xs
    ++ option_to_list (cond (gone && list_any (λ k. bytes_eq k key) asked) None (option_map hit_of (held key j.areas)))) h
    ∙ ap (λ b. (all_looked_up (change_of due) (take i keys) j).0
    ++ option_to_list (cond (b && list_any (λ k. bytes_eq k key) asked) None (option_map hit_of (held key j.areas)))) e
    ∙ ap (λ ks. (all_looked_up (change_of due) (take i keys) j).0
    ++ option_to_list (cond (is_due due m && list_any (λ k. bytes_eq k key) ks) None (option_map hit_of (held key j.areas)))) f
    ∙ ap (λ q. (all_looked_up (change_of due) (take i keys) j).0
    ++ option_to_list
    (cond (is_due due m && list_any (λ k. bytes_eq k q) (take i keys)) None (option_map hit_of (held q j.areas)))) g
    ∙ sym (hits-take_more due (is_due due m) keys i d j lt there (lasting_at due m l))

-- where the key was found to hold an entry, its hit is the next, unless the entry is gone since the key was asked before
pub hits_found : (due : Option Due) (m : ℕ) (keys : List (List ℕ)) (i : ℕ) (d key : List ℕ) (asked : List (List ℕ)) (gone : Bool)
    (l : EvictionState) (e : Entry) (hits new : List Hit)
    → i < length keys → AreSound l.limits l.areas → gone ≡ is_due due m → asked ≡ take i keys → key ≡ get_or keys i d
    → hits ≡ (all_looked_up (change_of due) (take i keys) (at_moment m l)).0
    → held key (at_moment m l).areas ≡ Some e
    → new ≡ hits ++ option_to_list (cond (gone && list_any (λ k. bytes_eq k key) asked) None (Some (hit_of e)))
    → new ≡ (all_looked_up (change_of due) (take (i + 1) keys) (at_moment m l)).0
hits_found due m keys i d key asked gone l e hits new lt sound eg ea ek h at same =
    hits_next due m keys i d key asked gone l hits new lt sound eg ea ek h
    (same ∙ ap (λ o. hits ++ option_to_list (cond (gone && list_any (λ k. bytes_eq k key) asked) None (option_map hit_of o))) (sym at))

-- where it was found to hold nothing, the hits are the same
pub hits_none : (due : Option Due) (m : ℕ) (keys : List (List ℕ)) (i : ℕ) (d key : List ℕ) (l : EvictionState) (hits : List Hit)
    → i < length keys → AreSound l.limits l.areas → key ≡ get_or keys i d
    → hits ≡ (all_looked_up (change_of due) (take i keys) (at_moment m l)).0
    → held key (at_moment m l).areas ≡ None
    → hits ≡ (all_looked_up (change_of due) (take (i + 1) keys) (at_moment m l)).0
hits_none due m keys i d key l hits lt sound ek h none =
    let b : Bool = is_due due m && list_any (λ k. bytes_eq k key) (take i keys) in
    hits_next due m keys i d key (take i keys) (is_due due m) l hits hits lt sound refl refl ek h
    (sym (ap (λ o. hits ++ option_to_list (cond b None (option_map hit_of o))) none ∙ left b))
  where
    left : (b : Bool) → hits ++ option_to_list (cond b None (option_map hit_of None)) ≡ hits
    left true = append-nil hits
    left false = append-nil hits
