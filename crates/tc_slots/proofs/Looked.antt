-- What the index gives for a key is what the lists hold under it.
use Rattle.std.specs.Prelude.{◌==◌, map, not, sum_by, find, ◌||◌}
use Rattle.std.specs.Str.{bytes_eq}
use Rattle.std.proofs.Common.{◌≡◌, ℕ, zero, suc, Bool, true, false, cond, List, [], ◌∷◌, ◌++◌, Option, Some, None, refl, sym, ◌∙◌}
use Rattle.std.proofs.Common.{ap, arith}
use Rattle.std.proofs.lemmas.Bool.{eqb-true}
use Rattle.std.proofs.lemmas.List.Sums.{sum_by-cons}
use Rattle.std.proofs.lemmas.Slice.Eq.{bytes_eq-Decides}
use Rattle.tc_item.specs.declared.slot.Slot.{Slot}
use Rattle.tc_model.specs.Areas.{Areas, is_in, without, total}
use Rattle.tc_plain.specs.declared.shared.entry.Entry.{Entry}
use Rattle.tc_plain.specs.Entries.{has_key}
use Rattle.tc_plain.specs.EvictionState.{held}
use Rattle.tc_plain.specs.Placing.{without_key}
use Rattle.tc_slru.specs.Slots.{Placed, is_slot}
use Rattle.tc_slots.specs.Agreement.{key_of, at_slot, Agree}
use Rattle.tc_plain.specs.BySlot.{stray, stray_by, entry_at, entry_or, areas_by}
use Rattle.tc_slots.proofs.Away.{three_same, not_in, is_in_some}
use Rattle.tc_slots.proofs.Filling.{own_place, once_at}

module _ (I : List ℕ → Option Slot) (S : ℕ → Option Entry) (D : ℕ → Option ℕ) (a : Areas Placed) (h : Agree I S D a) where
  -- the index gives a slot

  module _ (e : Entry) (v : Slot) (at : S v.0 ≡ Some e) where
    find_filled : (ps : List Placed) (rest : List Entry) → sum_by (stray S) ps ≡ 0
        → find (has_key e.key) (map (entry_at S) ps ++ rest) ≡ cond (is_in (is_slot v.0) ps) (Some e) (find (has_key e.key) rest)
    find_filled [] rest k = refl
    find_filled (p ∷ ps) rest k =
        let split = sum_by-cons (stray S) p ps in
        go (p.slot == v.0) refl (own_place I S D a h e v at p (omega (arith, k, split)))
        (find_filled ps rest (omega (arith, k, split)))
      where
        go : (t : Bool) → (p.slot == v.0) ≡ t → (p.slot == v.0) ≡ has_key e.key (entry_at S p)
            → find (has_key e.key) (map (entry_at S) ps ++ rest)
            ≡ cond (is_in (is_slot v.0) ps) (Some e) (find (has_key e.key) rest)
            → cond (has_key e.key (entry_at S p)) (Some (entry_at S p)) (find (has_key e.key) (map (entry_at S) ps ++ rest))
            ≡ cond ((p.slot == v.0) || is_in (is_slot v.0) ps) (Some e) (find (has_key e.key) rest)
        go true t own later =
            let here : entry_at S p ≡ e = ap entry_or (ap S (eqb-true p.slot v.0 t) ∙ at) in
            ap (λ c. cond c (Some (entry_at S p)) (find (has_key e.key) (map (entry_at S) ps ++ rest))) (sym own ∙ t)
            ∙ ap Some here
            ∙ ap (λ c. cond (c || is_in (is_slot v.0) ps) (Some e) (find (has_key e.key) rest)) (sym t)
        go false t own later =
            ap (λ c. cond c (Some (entry_at S p)) (find (has_key e.key) (map (entry_at S) ps ++ rest))) (sym own ∙ t)
            ∙ later
            ∙ ap (λ c. cond (c || is_in (is_slot v.0) ps) (Some e) (find (has_key e.key) rest)) (sym t)

    find_last : (ps : List Placed) → sum_by (stray S) ps ≡ 0 → is_in (is_slot v.0) ps ≡ true
        → find (has_key e.key) (map (entry_at S) ps) ≡ Some e
    find_last [] k i = absurd (cc)
    find_last (p ∷ ps) k i =
        let split = sum_by-cons (stray S) p ps in
        go (p.slot == v.0) refl (own_place I S D a h e v at p (omega (arith, k, split))) i
        (λ j. find_last ps (omega (arith, k, split)) j)
      where
        go : (t : Bool) → (p.slot == v.0) ≡ t → (p.slot == v.0) ≡ has_key e.key (entry_at S p)
            → ((p.slot == v.0) || is_in (is_slot v.0) ps) ≡ true
            → (is_in (is_slot v.0) ps ≡ true → find (has_key e.key) (map (entry_at S) ps) ≡ Some e)
            → cond (has_key e.key (entry_at S p)) (Some (entry_at S p)) (find (has_key e.key) (map (entry_at S) ps)) ≡ Some e
        go true t own j later =
            ap (λ c. cond c (Some (entry_at S p)) (find (has_key e.key) (map (entry_at S) ps))) (sym own ∙ t)
            ∙ ap (λ o. Some (entry_or o)) (ap S (eqb-true p.slot v.0 t) ∙ at)
        go false t own j later =
            ap (λ c. cond c (Some (entry_at S p)) (find (has_key e.key) (map (entry_at S) ps))) (sym own ∙ t)
            ∙ later (sym (ap (λ c. c || is_in (is_slot v.0) ps) t) ∙ j)

    pub held_filled : held e.key (areas_by S a) ≡ Some e
    held_filled =
        let w = h.weighed in
        find_filled a.window (map (entry_at S) a.probation ++ map (entry_at S) a.protected) (omega (arith, w))
        ∙ go (sum_by (at_slot v.0) a.window) (sum_by (at_slot v.0) a.probation) refl refl
      where
        once : total (at_slot v.0) a ≡ 1
        once = once_at I S D a h e v at

        go : (m n : ℕ) → sum_by (at_slot v.0) a.window ≡ m → sum_by (at_slot v.0) a.probation ≡ n
            → cond (is_in (is_slot v.0) a.window) (Some e)
            (find (has_key e.key) (map (entry_at S) a.probation ++ map (entry_at S) a.protected))
            ≡ Some e
        go (suc m) n x y =
            ap (λ c. cond c (Some e) (find (has_key e.key) (map (entry_at S) a.probation ++ map (entry_at S) a.protected)))
            (is_in_some v.0 m a.window (omega (arith, x)))
        go zero (suc n) x y =
            ap (λ c. cond c (Some e) (find (has_key e.key) (map (entry_at S) a.probation ++ map (entry_at S) a.protected)))
            (not_in v.0 a.window x)
            ∙ find_filled a.probation (map (entry_at S) a.protected) (omega (arith, h.weighed))
            ∙ ap (λ c. cond c (Some e) (find (has_key e.key) (map (entry_at S) a.protected)))
            (is_in_some v.0 n a.probation (omega (arith, y)))
        go zero zero x y =
            ap (λ c. cond c (Some e) (find (has_key e.key) (map (entry_at S) a.probation ++ map (entry_at S) a.protected)))
            (not_in v.0 a.window x)
            ∙ find_filled a.probation (map (entry_at S) a.protected) (omega (arith, h.weighed))
            ∙ ap (λ c. cond c (Some e) (find (has_key e.key) (map (entry_at S) a.protected))) (not_in v.0 a.probation y)
            ∙ find_last a.protected (omega (arith, h.weighed)) (is_in_some v.0 0 a.protected (omega (arith, once, x, y)))

  -- the index gives none

  module _ (key : List ℕ) (none : I key ≡ None) where
    other : (p : Placed) → stray S p ≡ 0 → has_key key (entry_at S p) ≡ false
    other p k = go (S p.slot) refl k
      where
        at : (d : Entry) → S p.slot ≡ Some d → (b : Bool) → bytes_eq d.key key ≡ b → b ≡ false
        at d s false t = refl
        at d s true t =
            let here : I d.key ≡ Some (record { 0 = p.slot }) = h.found d.key (record { 0 = p.slot }) (ap key_of s) in
            let both : None ≡ Some (let z : Slot = record { 0 = p.slot } in z) =
            sym none ∙ ap I (sym ((bytes_eq-Decides d.key key).0 t)) ∙ here in
            absurd (cc)

        go : (o : Option Entry) → S p.slot ≡ o → stray_by p.weight o ≡ 0 → has_key key (entry_or o) ≡ false
        go None s k = absurd (omega (arith, k))
        go (Some d) s k = at d s (bytes_eq d.key key) refl

    without_none_of : (ps : List Placed) → sum_by (stray S) ps ≡ 0
        → without (has_key key) (map (entry_at S) ps) ≡ map (entry_at S) ps
    without_none_of [] k = refl
    without_none_of (p ∷ ps) k =
        let split = sum_by-cons (stray S) p ps in
        ap
        (λ c. cond (not c) (entry_at S p ∷ without (has_key key) (map (entry_at S) ps))
        (without (has_key key) (map (entry_at S) ps)))
        (other p (omega (arith, k, split)))
        ∙ ap (λ t. entry_at S p ∷ t) (without_none_of ps (omega (arith, k, split)))

    pub without_unheld : without_key key (areas_by S a) ≡ areas_by S a
    without_unheld =
        let w = h.weighed in
        three_same _ _ _ _ _ _ (without_none_of a.window (omega (arith, w))) (without_none_of a.probation (omega (arith, w)))
        (without_none_of a.protected (omega (arith, w)))

    find_none : (ps : List Placed) (rest : List Entry) → sum_by (stray S) ps ≡ 0
        → find (has_key key) (map (entry_at S) ps ++ rest) ≡ find (has_key key) rest
    find_none [] rest k = refl
    find_none (p ∷ ps) rest k =
        let split = sum_by-cons (stray S) p ps in
        ap (λ c. cond c (Some (entry_at S p)) (find (has_key key) (map (entry_at S) ps ++ rest)))
        (other p (omega (arith, k, split)))
        ∙ find_none ps rest (omega (arith, k, split))

    find_end : (ps : List Placed) → sum_by (stray S) ps ≡ 0 → find (has_key key) (map (entry_at S) ps) ≡ None
    find_end [] k = refl
    find_end (p ∷ ps) k =
        let split = sum_by-cons (stray S) p ps in
        ap (λ c. cond c (Some (entry_at S p)) (find (has_key key) (map (entry_at S) ps))) (other p (omega (arith, k, split)))
        ∙ find_end ps (omega (arith, k, split))

    pub held_emptied : held key (areas_by S a) ≡ None
    held_emptied =
        let w = h.weighed in
        find_none a.window (map (entry_at S) a.probation ++ map (entry_at S) a.protected) (omega (arith, w))
        ∙ find_none a.probation (map (entry_at S) a.protected) (omega (arith, w))
        ∙ find_end a.protected (omega (arith, w))
