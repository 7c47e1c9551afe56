-- Index, entries, wheel and lists agree again once an entry came to a slot, or left it.
use Rattle.std.specs.Prelude.{◌==◌, map, not, sum_by}
use Rattle.std.specs.Str.{bytes_eq}
use Rattle.std.proofs.Common.{◌≡◌, ℕ, ◌+◌, Bool, true, false, cond, List, [], ◌∷◌, Option, Some, None, refl, sym, ◌∙◌, ap, arith}
use Rattle.std.proofs.Common.{eq-eqb}
use Rattle.std.proofs.lemmas.Bool.{eqb-true}
use Rattle.std.proofs.lemmas.List.Sums.{sum_by-cons}
use Rattle.std.proofs.lemmas.Slice.Eq.{bytes_eq-Decides}
use Rattle.tc_item.specs.declared.slot.Slot.{Slot}
use Rattle.tc_model.specs.Areas.{Areas, without, total}
use Rattle.tc_plain.specs.declared.shared.entry.Entry.{Entry}
use Rattle.tc_plain.specs.Entries.{weight, has_key}
use Rattle.tc_plain.specs.Placing.{without_key}
use Rattle.tc_slru.specs.Slots.{Placed, placed, is_slot, without_slot}
use Rattle.tc_slru.specs.InAreas.{fronted_in}
use Rattle.tc_slru.specs.declared.area.Area.{Area}
use Rattle.tc_slru.specs.declared.area.Area.TheVariants.{Window, Probation, Protected}
use Rattle.tc_slots.specs.Agreement.{set_at, set_key, key_of, count_of, at_slot}
use Rattle.tc_plain.specs.BySlot.{stray, stray_by, entry_at, entry_or}
use Rattle.tc_slots.specs.Agreement.{due_by, wheel_due, Agree}
use Rattle.tc_plain.specs.BySlot.{areas_by}
use Rattle.tc_slots.proofs.Away.{three_same, areas_away, total-stray_away}
use Rattle.tc_slots.proofs.OneSlot.{IsLess}

pub some_same : {A : Type 0} (x y : A) → Some x ≡ Some y → x ≡ y
some_same x y e = cc

none_some : {A : Type 0} {B : Type 0} (x : A) → None ≡ Some x → B
none_some x e = absurd (cc)

-- a test that fails, turned
turned : (m n : ℕ) → (m == n) ≡ false → (n == m) ≡ false
turned m n h = go (n == m) refl
  where
    go : (b : Bool) → (n == m) ≡ b → b ≡ false
    go true k = absurd (cc (h, eq-eqb m n (sym (eqb-true n m k))))
    go false k = refl

-- a place at the front of a list
pub total-fronted_in : {A : Type 0} (area : Area) (f : A → ℕ) (p : A) (a : Areas A) → total f (fronted_in area p a) ≡ f p + total f a
total-fronted_in Window f p a = omega (arith, sum_by-cons f p a.window)
total-fronted_in Probation f p a = omega (arith, sum_by-cons f p a.probation)
total-fronted_in Protected f p a = omega (arith, sum_by-cons f p a.protected)

module _ (I : List ℕ → Option Slot) (S : ℕ → Option Entry) (D : ℕ → Option ℕ) (a : Areas Placed) (h : Agree I S D a) (e : Entry)
    (v : Slot) where
  -- an entry comes

  module _ (vacant : S v.0 ≡ None) (new : I e.key ≡ None) where
    pub none_at : total (at_slot v.0) a ≡ 0
    none_at = h.listed v.0 ∙ ap count_of vacant

    fill_indexed : (key : List ℕ) (slot : Slot) → set_key e.key (Some v) I key ≡ Some slot
        → key_of (set_at v.0 (Some e) S slot.0) ≡ Some key
    fill_indexed key slot g = go (bytes_eq e.key key) refl g
      where
        other : (b : Bool) → (slot.0 == v.0) ≡ b → key_of (S slot.0) ≡ Some key → key_of (cond b (Some e) (S slot.0)) ≡ Some key
        other true t k = none_some key (sym (ap key_of (ap S (eqb-true slot.0 v.0 t) ∙ vacant)) ∙ k)
        other false t k = k

        go : (b : Bool) → bytes_eq e.key key ≡ b → cond b (Some v) (I key) ≡ Some slot
            → key_of (set_at v.0 (Some e) S slot.0) ≡ Some key
        go true t g =
            let same : slot.0 ≡ v.0 = ap (λ (s : Slot). s.0) (sym (some_same v slot g)) in
            ap (λ b. key_of (cond b (Some e) (S slot.0))) (eq-eqb slot.0 v.0 same) ∙ ap Some ((bytes_eq-Decides e.key key).0 t)
        go false t g = other (slot.0 == v.0) refl (h.indexed key slot g)

    fill_found : (key : List ℕ) (slot : Slot) → key_of (set_at v.0 (Some e) S slot.0) ≡ Some key
        → set_key e.key (Some v) I key ≡ Some slot
    fill_found key slot g = go (slot.0 == v.0) refl g
      where
        other : (b : Bool) → bytes_eq e.key key ≡ b → I key ≡ Some slot → cond b (Some v) (I key) ≡ Some slot
        other true t k = none_some slot (sym new ∙ ap I ((bytes_eq-Decides e.key key).0 t) ∙ k)
        other false t k = k

        go : (b : Bool) → (slot.0 == v.0) ≡ b → key_of (cond b (Some e) (S slot.0)) ≡ Some key
            → set_key e.key (Some v) I key ≡ Some slot
        go true t g =
            let same : v ≡ slot = ap (λ n. (let s : Slot = record { 0 = n } in s)) (sym (eqb-true slot.0 v.0 t)) in
            ap (λ b. cond b (Some v) (I key)) ((bytes_eq-Decides e.key key).1 (some_same e.key key g)) ∙ ap Some same
        go false t g = other (bytes_eq e.key key) refl (h.found key slot g)

    fill_listed : (area : Area) (w n : ℕ) → total (at_slot n) (fronted_in area (placed v.0 w) a) ≡ count_of (set_at v.0 (Some e) S n)
    fill_listed area w n =
        total-fronted_in area (at_slot n) (placed v.0 w) a ∙ ap (λ t. at_slot n (placed v.0 w) + t) (h.listed n) ∙ go (n == v.0) refl
      where
        go : (b : Bool) → (n == v.0) ≡ b → cond (v.0 == n) 1 0 + count_of (S n) ≡ count_of (cond b (Some e) (S n))
        go true t =
            let same : n ≡ v.0 = eqb-true n v.0 t in
            ap (λ b. cond b 1 0 + count_of (S n)) (eq-eqb v.0 n (sym same)) ∙ ap (λ o. 1 + count_of o) (ap S same ∙ vacant)
        go false t =
            let none : 0 + count_of (S n) ≡ count_of (S n) = omega arith in
            ap (λ b. cond b 1 0 + count_of (S n)) (turned n v.0 t) ∙ none

    fill_weighed : (area : Area) (w : ℕ) → w ≡ weight e
        → total (stray (set_at v.0 (Some e) S)) (fronted_in area (placed v.0 w) a) ≡ 0
    fill_weighed area w k =
        let own : stray (set_at v.0 (Some e) S) (placed v.0 w) ≡ 0 =
        ap (λ b. stray_by w (cond b (Some e) (S v.0))) (eq-eqb v.0 v.0 refl)
        ∙ ap (λ b. cond b 0 1) (eq-eqb (weight e) w (sym k)) in
        total-fronted_in area (stray (set_at v.0 (Some e) S)) (placed v.0 w) a
        ∙ ap (λ t. t + total (stray (set_at v.0 (Some e) S)) a) own
        ∙ ap (λ t. 0 + t) (total-stray_away S v.0 (Some e) a none_at ∙ h.weighed)

    fill_timed : (n : ℕ) → set_at v.0 (due_by e.item.due) D n ≡ wheel_due (set_at v.0 (Some e) S n)
    fill_timed n = go (n == v.0)
      where
        go : (b : Bool) → cond b (due_by e.item.due) (D n) ≡ wheel_due (cond b (Some e) (S n))
        go true = refl
        go false = h.timed n

    pub agree_filled : (area : Area) (w : ℕ) → w ≡ weight e
        → Agree (set_key e.key (Some v) I) (set_at v.0 (Some e) S) (set_at v.0 (due_by e.item.due) D)
        (fronted_in area (placed v.0 w) a)
    agree_filled area w k = record {
      indexed = fill_indexed;
      found = fill_found;
      listed = fill_listed area w;
      weighed = fill_weighed area w k;
      timed = fill_timed;
    }

    own_entry : (w : ℕ) → entry_at (set_at v.0 (Some e) S) (placed v.0 w) ≡ e
    own_entry w = ap (λ b. entry_or (cond b (Some e) (S v.0))) (eq-eqb v.0 v.0 refl)

    map_fronted : (area : Area) (w : ℕ) → areas_by (set_at v.0 (Some e) S) (fronted_in area (placed v.0 w) a)
        ≡ fronted_in area (entry_at (set_at v.0 (Some e) S) (placed v.0 w)) (areas_by (set_at v.0 (Some e) S) a)
    map_fronted Window w = refl
    map_fronted Probation w = refl
    map_fronted Protected w = refl

    pub filled_areas : (area : Area) (w : ℕ)
        → areas_by (set_at v.0 (Some e) S) (fronted_in area (placed v.0 w) a) ≡ fronted_in area e (areas_by S a)
    filled_areas area w =
        map_fronted area w
        ∙ ap (λ d. fronted_in area d (areas_by (set_at v.0 (Some e) S) a)) (own_entry w)
        ∙ ap (λ (z : Areas Entry). fronted_in area e z) (areas_away S v.0 (Some e) a none_at)

    -- nothing is noted for a slot that holds nothing
    pub untimed : D v.0 ≡ None
    untimed = h.timed v.0 ∙ ap wheel_due vacant

  -- an entry leaves

  module _ (held : S v.0 ≡ Some e) where
    at_key : I e.key ≡ Some v
    at_key = h.found e.key v (ap key_of held)

    pub once_at : total (at_slot v.0) a ≡ 1
    once_at = h.listed v.0 ∙ ap count_of held

    empty_indexed : (key : List ℕ) (slot : Slot) → set_key e.key None I key ≡ Some slot
        → key_of (set_at v.0 None S slot.0) ≡ Some key
    empty_indexed key slot g = go (bytes_eq e.key key) refl g
      where
        other : (b : Bool) → (slot.0 == v.0) ≡ b → bytes_eq e.key key ≡ false → key_of (S slot.0) ≡ Some key
            → key_of (cond b None (S slot.0)) ≡ Some key
        other true t f k =
            let same : e.key ≡ key = some_same e.key key (sym (ap key_of (ap S (eqb-true slot.0 v.0 t) ∙ held)) ∙ k) in
            absurd (cc (f, (bytes_eq-Decides e.key key).1 same))
        other false t f k = k

        go : (b : Bool) → bytes_eq e.key key ≡ b → cond b None (I key) ≡ Some slot → key_of (set_at v.0 None S slot.0) ≡ Some key
        go true t g = none_some slot g
        go false t g = other (slot.0 == v.0) refl t (h.indexed key slot g)

    empty_found : (key : List ℕ) (slot : Slot) → key_of (set_at v.0 None S slot.0) ≡ Some key
        → set_key e.key None I key ≡ Some slot
    empty_found key slot g = go (slot.0 == v.0) refl g
      where
        other : (b : Bool) → bytes_eq e.key key ≡ b → (slot.0 == v.0) ≡ false → I key ≡ Some slot
            → cond b None (I key) ≡ Some slot
        other true t f k =
            let same : v ≡ slot = some_same v slot (sym at_key ∙ ap I ((bytes_eq-Decides e.key key).0 t) ∙ k) in
            absurd (cc (f, eq-eqb slot.0 v.0 (ap (λ (s : Slot). s.0) (sym same))))
        other false t f k = k

        go : (b : Bool) → (slot.0 == v.0) ≡ b → key_of (cond b None (S slot.0)) ≡ Some key → set_key e.key None I key ≡ Some slot
        go true t g = none_some key g
        go false t g = other (bytes_eq e.key key) refl t (h.found key slot g)

    empty_timed : (n : ℕ) → set_at v.0 None D n ≡ wheel_due (set_at v.0 None S n)
    empty_timed n = go (n == v.0)
      where
        go : (b : Bool) → cond b None (D n) ≡ wheel_due (cond b None (S n))
        go true = refl
        go false = h.timed n

    module _ (b : Areas Placed) (less : IsLess v.0 a b) where
      empty_listed : (n : ℕ) → total (at_slot n) b ≡ count_of (set_at v.0 None S n)
      empty_listed n = go (n == v.0) refl
        where
          both : total (at_slot n) b + cond (v.0 == n) 1 0 ≡ count_of (S n)
          both = less.less (at_slot n) ∙ h.listed n

          go : (t : Bool) → (n == v.0) ≡ t → total (at_slot n) b ≡ count_of (cond t None (S n))
          go true t =
              let same : n ≡ v.0 = eqb-true n v.0 t in
              let one : total (at_slot n) b + 1 ≡ 1 =
              ap (λ c. total (at_slot n) b + cond c 1 0) (sym (eq-eqb v.0 n (sym same))) ∙ both
              ∙ ap count_of (ap S same ∙ held) in
              omega (arith, one)
          go false t =
              let none : total (at_slot n) b + 0 ≡ count_of (S n) =
              ap (λ c. total (at_slot n) b + cond c 1 0) (sym (turned n v.0 t)) ∙ both in
              omega (arith, none)

      pub gone_from : total (at_slot v.0) b ≡ 0
      gone_from = empty_listed v.0 ∙ ap (λ c. count_of (cond c None (S v.0))) (eq-eqb v.0 v.0 refl)

      empty_weighed : total (stray (set_at v.0 None S)) b ≡ 0
      empty_weighed = total-stray_away S v.0 None b gone_from ∙ omega (arith, less.less (stray S), h.weighed)

      pub agree_emptied : Agree (set_key e.key None I) (set_at v.0 None S) (set_at v.0 None D) b
      agree_emptied = record {
        indexed = empty_indexed;
        found = empty_found;
        listed = empty_listed;
        weighed = empty_weighed;
        timed = empty_timed;
      }

    -- a place in the lists is the slot's where its entry has the key
    pub own_place : (p : Placed) → stray S p ≡ 0 → (p.slot == v.0) ≡ has_key e.key (entry_at S p)
    own_place p k = go (S p.slot) refl k
      where
        at : (d : Entry) → S p.slot ≡ Some d → (t u : Bool) → (p.slot == v.0) ≡ t → bytes_eq d.key e.key ≡ u → t ≡ u
        at d s true true x y = refl
        at d s false false x y = refl
        at d s true false x y =
            let same : d ≡ e = some_same d e (sym s ∙ ap S (eqb-true p.slot v.0 x) ∙ held) in
            absurd (cc (y, (bytes_eq-Decides d.key e.key).1 (ap (λ (z : Entry). z.key) same)))
        at d s false true x y =
            let here : I d.key ≡ Some (record { 0 = p.slot }) = h.found d.key (record { 0 = p.slot }) (ap key_of s) in
            let same : v ≡ record { 0 = p.slot } =
            some_same _ _ (sym at_key ∙ ap I (sym ((bytes_eq-Decides d.key e.key).0 y)) ∙ here) in
            absurd (cc (x, eq-eqb p.slot v.0 (ap (λ (z : Slot). z.0) (sym same))))

        go : (o : Option Entry) → S p.slot ≡ o → stray_by p.weight o ≡ 0 → (p.slot == v.0) ≡ has_key e.key (entry_or o)
        go None s k = absurd (omega (arith, k))
        go (Some d) s k = at d s (p.slot == v.0) (bytes_eq d.key e.key) refl refl

    pub without_seen : (o : Option Entry) (ps : List Placed) → sum_by (stray S) ps ≡ 0
        → map (entry_at (set_at v.0 o S)) (without (is_slot v.0) ps) ≡ without (has_key e.key) (map (entry_at S) ps)
    without_seen o [] k = refl
    without_seen o (p ∷ ps) k =
        let split = sum_by-cons (stray S) p ps in
        go (p.slot == v.0) refl (own_place p (omega (arith, k, split))) (without_seen o ps (omega (arith, k, split)))
      where
        go : (t : Bool) → (p.slot == v.0) ≡ t → (p.slot == v.0) ≡ has_key e.key (entry_at S p)
            → map (entry_at (set_at v.0 o S)) (without (is_slot v.0) ps) ≡ without (has_key e.key) (map (entry_at S) ps)
            → map (entry_at (set_at v.0 o S))
            (cond (not (p.slot == v.0)) (p ∷ without (is_slot v.0) ps) (without (is_slot v.0) ps))
            ≡ cond (not (has_key e.key (entry_at S p))) (entry_at S p ∷ without (has_key e.key) (map (entry_at S) ps))
            (without (has_key e.key) (map (entry_at S) ps))
        go true t own rest =
            ap (λ c. map (entry_at (set_at v.0 o S)) (cond (not c) (p ∷ without (is_slot v.0) ps) (without (is_slot v.0) ps))) t
            ∙ rest
            ∙ ap
            (λ c. cond (not c) (entry_at S p ∷ without (has_key e.key) (map (entry_at S) ps))
            (without (has_key e.key) (map (entry_at S) ps)))
            (sym t ∙ own)
        go false t own rest =
            ap (λ c. map (entry_at (set_at v.0 o S)) (cond (not c) (p ∷ without (is_slot v.0) ps) (without (is_slot v.0) ps))) t
            ∙ ap (λ c. entry_or (cond c o (S p.slot)) ∷ map (entry_at (set_at v.0 o S)) (without (is_slot v.0) ps)) t
            ∙ ap (λ r. entry_at S p ∷ r) rest
            ∙ ap
            (λ c. cond (not c) (entry_at S p ∷ without (has_key e.key) (map (entry_at S) ps))
            (without (has_key e.key) (map (entry_at S) ps)))
            (sym t ∙ own)

    pub emptied_areas : areas_by (set_at v.0 None S) (without_slot v.0 a) ≡ without_key e.key (areas_by S a)
    emptied_areas =
        let w = h.weighed in
        three_same _ _ _ _ _ _ (without_seen None a.window (omega (arith, w))) (without_seen None a.probation (omega (arith, w)))
        (without_seen None a.protected (omega (arith, w)))
