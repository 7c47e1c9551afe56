-- What moves of slots make of what look-ups touch.
use Rattle.std.specs.Prelude.{find, filter, is_some, sum_by}
use Rattle.std.proofs.Common.{◌≡◌, ℕ, ◌+◌, ◌≤◌, Bool, true, false, cond, List, [], ◌∷◌, ◌++◌, Option, Some, None, refl, sym, ◌∙◌}
use Rattle.std.proofs.Common.{ap, arith}
use Rattle.std.proofs.lemmas.List.Elements.{filter-append}
use Rattle.std.proofs.lemmas.List.Sums.{sum_by-cons, sum_by-append}
use Rattle.tc_model.specs.Areas.{Areas, accessed}
use Rattle.tc_item.specs.KeyHash.{hash}
use Rattle.tc_sketch.specs.Sketch.{Sketch, recorded}
use Rattle.tc_plain.specs.declared.shared.entry.Entry.{Entry}
use Rattle.tc_plain.specs.Entries.{weight, lives, has_key}
use Rattle.tc_plain.specs.EvictionState.{EvictionState, held, filtered, entries_of}
use Rattle.tc_plain.specs.Placing.{at_front, without_key, placed, used}
use Rattle.tc_plain.specs.Doing.{looked_up}
use Rattle.tc_plain.specs.Soundness.{count_under}

-- a search among what passes, where one at most is searched

find_kept_none : (p q : Entry → Bool) (xs : List Entry) → sum_by (λ e. cond (p e) 1 0) xs ≡ 0 → find p (filter q xs) ≡ None
find_kept_none p q [] h = refl
find_kept_none p q (x ∷ xs) h =
    go (p x) refl (q x) (sym (sum_by-cons (λ e. cond (p e) 1 0) x xs) ∙ h) (λ k. find_kept_none p q xs k)
  where
    go : (b : Bool) → p x ≡ b → (c : Bool) → cond {A = ℕ} b 1 0 + sum_by (λ e. cond (p e) 1 0) xs ≡ 0
        → (sum_by (λ e. cond (p e) 1 0) xs ≡ 0 → find p (filter q xs) ≡ None)
        → find p (cond c (x ∷ filter q xs) (filter q xs)) ≡ None
    go true e c k later = absurd (omega (arith, k))
    go false e true k later = ap (λ b. cond b (Some x) (find p (filter q xs))) e ∙ later (omega (arith, k))
    go false e false k later = later (omega (arith, k))

find_kept : (p q : Entry → Bool) (xs : List Entry) (e : Entry) → sum_by (λ e. cond (p e) 1 0) xs ≤ 1 → find p xs ≡ Some e
    → find p (filter q xs) ≡ cond (q e) (Some e) None
find_kept p q [] e h f = absurd (cc)
find_kept p q (x ∷ xs) e h f = go (p x) refl (q x) refl (sum_by-cons (λ e. cond (p e) 1 0) x xs) f (λ k g. find_kept p q xs e k g)
  where
    go : (b : Bool) → p x ≡ b → (c : Bool) → q x ≡ c
        → sum_by (λ e. cond (p e) 1 0) (x ∷ xs) ≡ cond {A = ℕ} b 1 0 + sum_by (λ e. cond (p e) 1 0) xs
        → cond b (Some x) (find p xs) ≡ Some e
        → (sum_by (λ e. cond (p e) 1 0) xs ≤ 1 → find p xs ≡ Some e → find p (filter q xs) ≡ cond (q e) (Some e) None)
        → find p (cond c (x ∷ filter q xs) (filter q xs)) ≡ cond (q e) (Some e) None
    go true t true u k g later =
        let same : x ≡ e = cc in
        ap (λ b. cond b (Some x) (find p (filter q xs))) t ∙ sym (ap (λ b. cond b (Some x) None) u)
        ∙ ap (λ z. cond (q z) (Some z) None) same
    go true t false u k g later =
        let same : x ≡ e = cc in
        find_kept_none p q xs (omega (arith, h, k)) ∙ sym (ap (λ b. cond b (Some x) None) u)
        ∙ ap (λ z. cond (q z) (Some z) None) same
    go false t true u k g later = ap (λ b. cond b (Some x) (find p (filter q xs))) t ∙ later (omega (arith, h, k)) g
    go false t false u k g later = later (omega (arith, h, k)) g

find_missing : (p q : Entry → Bool) (xs : List Entry) → find p xs ≡ None → find p (filter q xs) ≡ None
find_missing p q [] f = refl
find_missing p q (x ∷ xs) f = go (p x) refl (q x) f (λ g. find_missing p q xs g)
  where
    go : (b : Bool) → p x ≡ b → (c : Bool) → cond b (Some x) (find p xs) ≡ None → (find p xs ≡ None → find p (filter q xs) ≡ None)
        → find p (cond c (x ∷ filter q xs) (filter q xs)) ≡ None
    go true t c g later = absurd (cc)
    go false t true g later = ap (λ b. cond b (Some x) (find p (filter q xs))) t ∙ later g
    go false t false g later = later g

entries_kept : (q : Entry → Bool) (a : Areas Entry) → entries_of (filtered q a) ≡ filter q (entries_of a)
entries_kept q a =
    sym (filter-append q a.window (a.probation ++ a.protected)
    ∙ ap (λ t. filter q a.window ++ t) (filter-append q a.probation a.protected))

pub held_kept : (key : List ℕ) (q : Entry → Bool) (a : Areas Entry) (e : Entry) → count_under key a ≤ 1 → held key a ≡ Some e
    → held key (filtered q a) ≡ cond (q e) (Some e) None
held_kept key q a e h f =
    let f1 : Entry → ℕ = λ e. cond (has_key key e) 1 0 in
    let all : sum_by f1 (entries_of a) ≤ 1 =
    omega (arith, h, sum_by-append f1 a.window (a.probation ++ a.protected), sum_by-append f1 a.probation a.protected) in
    ap (find (has_key key)) (entries_kept q a) ∙ find_kept (has_key key) q (entries_of a) e all f

pub held_kept_none : (key : List ℕ) (q : Entry → Bool) (a : Areas Entry) → held key a ≡ None → held key (filtered q a) ≡ None
held_kept_none key q a f = ap (find (has_key key)) (entries_kept q a) ∙ find_missing (has_key key) q (entries_of a) f

-- what is placed, by whether it is alive and what its key held
abbrev placed_as : EvictionState → Entry → Bool → Option Entry → Areas Entry
placed_as l x b o =
    cond b (cond (is_some o) (accessed weight l.limits (has_key x.key) x l.areas) (at_front x l.areas))
    (without_key x.key l.areas)

pub placed_by : (l : EvictionState) (x : Entry) (b : Bool) (o : Option Entry) → lives l.moment x ≡ b → held x.key l.areas ≡ o
    → placed l x ≡ placed_as l x b o
placed_by l x b o e f = ap (λ t. placed_as l x t (held x.key l.areas)) e ∙ ap (λ t. placed_as l x b t) f

pub used_by : (l : EvictionState) (x : Entry) (a : Areas Entry) (s : Sketch) (b : Bool) (o : Option Entry) → lives l.moment x ≡ b
    → held x.key l.areas ≡ o → a ≡ placed_as l x b o → s ≡ recorded l.sketch (hash x.key)
    → ◌≡◌ {A = EvictionState} (record l { areas = a; sketch = s }) (used x l)
used_by l x a s b o e f g h =
    ap (λ z. (let n : EvictionState = record l { areas = z; sketch = s } in n)) (g ∙ sym (placed_by l x b o e f))
    ∙ ap (λ z. (let n : EvictionState = record l { areas = placed l x; sketch = z } in n)) h

-- a hit of what a key holds and is alive
pub hit_by : (l : EvictionState) (e : Entry) (a : Areas Entry) (s : Sketch) → lives l.moment e ≡ true
    → held e.key l.areas ≡ Some e → a ≡ accessed weight l.limits (has_key e.key) e l.areas → s ≡ recorded l.sketch (hash e.key)
    → ◌≡◌ {A = EvictionState} (record l { areas = a; sketch = s }) (looked_up (λ i. i) e.key (held e.key l.areas) l).1
hit_by l e a s alive f g h = used_by l e a s true (Some e) alive f g h ∙ sym (ap (λ o. (looked_up (λ i. i) e.key o l).1) f)
