-- What an entry that is used leaves, by what its key held.
use Rattle.std.specs.Prelude.{find, is_some, sum_by}
use Rattle.std.proofs.Common.{◌≡◌, ℕ, ◌≤◌, ◌+◌, Bool, true, false, cond, List, [], ◌∷◌, ◌++◌, Option, Some, None, refl, sym, ◌∙◌}
use Rattle.std.proofs.Common.{ap, arith}
use Rattle.std.proofs.lemmas.List.Sums.{sum_by-cons, sum_by-append}
use Rattle.std.proofs.lemmas.Slice.Eq.{bytes_eq-Decides}
use Rattle.tc_model.specs.Areas.{Areas, is_in, demoted, accessed, total, without}
use Rattle.tc_model.proofs.Totals.{sum-filter-le, total-accessed}
use Rattle.tc_item.specs.KeyHash.{hash}
use Rattle.tc_sketch.specs.Sketch.{Sketch, recorded}
use Rattle.tc_item.specs.declared.moment.Due.{Due}
use Rattle.tc_item.specs.declared.item.Item.{Item}
use Rattle.tc_plain.specs.declared.shared.entry.Entry.{Entry}
use Rattle.tc_plain.specs.Entries.{weight, lives, has_key, with_item}
use Rattle.tc_plain.specs.EvictionState.{EvictionState, held, entries_of, filtered, no_entries, is_flush_due, at_moment}
use Rattle.tc_plain.specs.Placing.{seen, at_front, put_in, without_key, placed, used}
use Rattle.tc_plain.specs.Doing.{looked_up}
use Rattle.tc_plain.specs.AreaLists.{put_back, change_of}
use Rattle.tc_plain.proofs.Gone.{without-missed}

found_passes : {A : Type 0} (p : A → Bool) (xs : List A) (e : A) → find p xs ≡ Some e → p e ≡ true
found_passes p [] e h = grind (arith, h)
found_passes {A} p (x ∷ xs) e h = go (p x) refl h (λ g. found_passes p xs e g)
  where
    go : (b : Bool) → p x ≡ b → cond b (Some x) (find p xs) ≡ Some e → (find p xs ≡ Some e → p e ≡ true) → p e ≡ true
    go true t g later = let same : x ≡ e = cc in ap p (sym same) ∙ t
    go false t g later = later g

-- what is held under a key is under it
pub held_key : (key : List ℕ) (a : Areas Entry) (e : Entry) → held key a ≡ Some e → e.key ≡ key
held_key key a e h = (bytes_eq-Decides e.key key).0 (found_passes (has_key key) (entries_of a) e h)

missed_parts : {A : Type 0} (p : A → Bool) (xs ys : List A) → find p (xs ++ ys) ≡ None → (find p xs ≡ None) × (find p ys ≡ None)
missed_parts p [] ys h = (refl, h)
missed_parts {A} p (x ∷ xs) ys h = go (p x) h (λ g. missed_parts p xs ys g)
  where
    go : (b : Bool) → cond b (Some x) (find p (xs ++ ys)) ≡ None
        → (find p (xs ++ ys) ≡ None → (find p xs ≡ None) × (find p ys ≡ None))
        → (cond b (Some x) (find p xs) ≡ None) × (find p ys ≡ None)
    go true g later = grind (arith, g)
    go false g later = later g

-- where a key holds nothing, nothing is taken out
pub without_key-missed : (key : List ℕ) (a : Areas Entry) → held key a ≡ None → without_key key a ≡ a
without_key-missed key a h =
    let w = missed_parts (has_key key) a.window (a.probation ++ a.protected) h in
    let m = missed_parts (has_key key) a.probation a.protected w.1 in
    rw (
      without-missed (has_key key) a.window w.0,
      without-missed (has_key key) a.probation m.0,
      without-missed (has_key key) a.protected m.1,
    ) refl

-- a key that holds nothing is only seen
pub look_misses : (change : Item → Item) (key : List ℕ) (l new : EvictionState) → held key l.areas ≡ None
    → new ≡ (let n : EvictionState = record (seen key l) { areas = without_key key l.areas } in n)
    → new ≡ (looked_up change key (held key l.areas) l).1
look_misses change key l new h same =
    same ∙ ap (λ a. (let n : EvictionState = record (seen key l) { areas = a } in n)) (without_key-missed key l.areas h)
    ∙ sym (ap (λ o. (looked_up change key o l).1) h)

-- what is used in the place of what its key held
abbrev used_under : EvictionState → Entry → List ℕ → Option Entry → EvictionState
used_under l x key o = record (seen key l) {
  areas =
      cond (lives l.moment x) (cond (is_some o) (accessed weight l.limits (has_key key) x l.areas) (at_front x l.areas))
      (without_key key l.areas);
}

-- what goes back to where it stood
abbrev pub back : EvictionState → Entry → List ℕ → Bool → EvictionState
back l x key in_window = record (seen key l) {
  areas =
      cond (lives l.moment x) (demoted weight l.limits (put_back in_window x (without_key key l.areas)))
      (without_key key l.areas);
}

pub used_back : (l : EvictionState) (x : Entry) (key : List ℕ) (e : Entry) (b : Bool) → held key l.areas ≡ Some e → x.key ≡ key
    → b ≡ is_in (has_key key) l.areas.window → back l x key b ≡ used x l
used_back l x key e b h same from =
    ap (back l x key) from ∙ sym (ap (used_under l x key) h) ∙ sym (ap (λ k. used_under l x k (held k l.areas)) same)

pub look_hits : (change : Item → Item) (key : List ℕ) (l new : EvictionState) (e : Entry) (b : Bool) → held key l.areas ≡ Some e
    → b ≡ is_in (has_key key) l.areas.window → new ≡ back l (with_item e (change e.item)) key b
    → new ≡ (looked_up change key (held key l.areas) l).1
look_hits change key l new e b h from same =
    same ∙ used_back l (with_item e (change e.item)) key e b h (held_key key l.areas e h) from
    ∙ sym (ap (λ o. (looked_up change key o l).1) h)

-- where its key held nothing it goes to the front of the window, if it is alive
pub used_front : (l : EvictionState) (x : Entry) (b : Bool) → held x.key l.areas ≡ None → lives l.moment x ≡ b
    → used x l ≡ (let n : EvictionState = record (seen x.key l) {
      areas = cond b (at_front x (without_key x.key l.areas)) (without_key x.key l.areas);
    } in n)
used_front l x b h alive =
    ap (used_under l x x.key) h
    ∙ ap (λ t. (let n : EvictionState = record (seen x.key l) {
      areas = cond t (at_front x l.areas) (without_key x.key l.areas);
    } in n)) alive
    ∙ ap (λ a. (let n : EvictionState = record (seen x.key l) { areas = cond b (at_front x a) (without_key x.key l.areas) } in n))
    (sym (without_key-missed x.key l.areas h))

-- the same, by its parts
abbrev backed : EvictionState → Entry → Areas Entry → Sketch → Bool → EvictionState
backed l x a s in_window = record l {
  sketch = s;
  areas = cond (lives l.moment x) (demoted weight l.limits (put_back in_window x a)) a;
}

pub back_by : (l : EvictionState) (x y : Entry) (a : Areas Entry) (s : Sketch) (key : List ℕ) (b : Bool) → y ≡ x
    → a ≡ without_key key l.areas → s ≡ recorded l.sketch (hash key) → backed l y a s b ≡ back l x key b
back_by l x y a s key b e f g =
    ap (λ z. backed l z a s b) e ∙ ap (λ z. backed l x z s b) f ∙ ap (λ z. backed l x (without_key key l.areas) z b) g

pub live_by : (l : EvictionState) (a b : Areas Entry) (s t : Sketch) → a ≡ b → s ≡ t
    → ◌≡◌ {A = EvictionState} (record l { areas = a; sketch = s }) (record l { areas = b; sketch = t })
live_by l a b s t e f =
    ap (λ z. (let n : EvictionState = record l { areas = z; sketch = s } in n)) e
    ∙ ap (λ z. (let n : EvictionState = record l { areas = b; sketch = z } in n)) f

pub weight_change : (due : Option Due) (e : Entry) → weight (with_item e (change_of due e.item)) ≡ weight e
weight_change None e = refl
weight_change (Some d) e = refl

-- what is held weighs no more than all
found_le : (p : Entry → Bool) (xs : List Entry) (e : Entry) → find p xs ≡ Some e → weight e ≤ sum_by weight xs
found_le p [] e h = grind (arith, h)
found_le p (x ∷ xs) e h = go (p x) h (λ g. found_le p xs e g)
  where
    go : (b : Bool) → cond b (Some x) (find p xs) ≡ Some e → (find p xs ≡ Some e → weight e ≤ sum_by weight xs)
        → weight e ≤ sum_by weight (x ∷ xs)
    go true g later = let same : x ≡ e = cc in let own = ap weight same in omega (arith, own, sum_by-cons weight x xs)
    go false g later = omega (arith, later g, sum_by-cons weight x xs)

pub held_le : (key : List ℕ) (a : Areas Entry) (e : Entry) → held key a ≡ Some e → weight e ≤ total weight a
held_le key a e h =
    omega (
      arith,
      found_le (has_key key) (entries_of a) e h,
      sum_by-append weight a.window (a.probation ++ a.protected),
      sum_by-append weight a.probation a.protected,
    )

pub without_key_le : (key : List ℕ) (a : Areas Entry) → total weight (without_key key a) ≤ total weight a
without_key_le key a = omega (arith, left a.window, left a.probation, left a.protected)
  where
    left : (xs : List Entry) → sum_by weight (without (has_key key) xs) ≤ sum_by weight xs
    left xs = sum-filter-le weight _ xs

-- an entry that is placed adds at most what it weighs
pub placed_le : (l : EvictionState) (e : Entry) → total weight (placed l e) ≤ total weight l.areas + weight e
placed_le l e = go (lives l.moment e)
  where
    put : (o : Option Entry)
        → total weight (cond (is_some o) (accessed weight l.limits (has_key e.key) e l.areas) (at_front e l.areas))
        ≤ total weight l.areas + weight e
    put (Some x) = omega (arith, total-accessed weight weight l.limits (has_key e.key) e l.areas, without_key_le e.key l.areas)
    put None = omega (arith, sum_by-cons weight e l.areas.window)

    go : (b : Bool)
        → total weight (cond b (put_in l.limits e l.areas) (without_key e.key l.areas)) ≤ total weight l.areas + weight e
    go true = put (held e.key l.areas)
    go false = omega (arith, without_key_le e.key l.areas)

-- what a key will hold, where no flush is due
pub held_later : (key : List ℕ) (m : ℕ) (l : EvictionState) (o : Option Entry) → is_flush_due l.flush m ≡ false
    → held key (filtered (lives m) l.areas) ≡ o → held key (at_moment m l).areas ≡ o
held_later key m l o none h =
    ap (λ b. held key (cond b (let n : EvictionState = record l { areas = no_entries; flush = None; moment = m } in n)
    (record l { areas = filtered (lives m) l.areas; moment = m })).areas) none
    ∙ h
