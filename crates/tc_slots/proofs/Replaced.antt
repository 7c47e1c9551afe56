-- Another entry under the same key comes to a slot, which is an access.
use Rattle.std.specs.Prelude.{◌==◌, map, sum_by, ◌||◌}
use Rattle.std.proofs.Common.{◌≡◌, ℕ, ◌+◌, Bool, true, false, cond, List, [], ◌∷◌, Option, Some, refl, sym, ◌∙◌, ap, arith}
use Rattle.std.proofs.Common.{eq-eqb}
use Rattle.std.proofs.lemmas.Bool.{eqb-true}
use Rattle.std.proofs.lemmas.List.Sums.{sum_by-cons}
use Rattle.tc_item.specs.declared.slot.Slot.{Slot}
use Rattle.tc_model.specs.Areas.{Areas, Limits, demoted, raised, accessed, is_in, without, total}
use Rattle.tc_model.proofs.Totals.{total-demoted, total-accessed}
use Rattle.tc_plain.specs.declared.shared.entry.Entry.{Entry}
use Rattle.tc_plain.specs.Entries.{weight, has_key}
use Rattle.tc_slru.specs.Slots.{Placed, placed, weigh, is_slot, without_slot}
use Rattle.tc_model.specs.Mapped.{map_areas}
use Rattle.tc_slots.specs.Agreement.{set_at, key_of, count_of, at_slot, due_by}
use Rattle.tc_plain.specs.BySlot.{stray, stray_by, entry_at, entry_or, areas_by}
use Rattle.tc_slots.specs.Agreement.{wheel_due, Agree}
use Rattle.tc_slots.proofs.Away.{three, three_same, total-stray_away}
use Rattle.tc_slots.proofs.OneSlot.{IsLess, without_slot_less}
use Rattle.tc_slots.proofs.Filling.{own_place, once_at, gone_from, without_seen}
use Rattle.tc_model.proofs.Maps.{map-demoted}
use Rattle.tc_slots.proofs.Settled.{Own, owns, owns_are, entries_own, weigh_own, areas-map}

-- holding protected to its limit, of places and of their entries
pub demote_seen : (S : ℕ → Option Entry) (limits : Limits) (a : Areas Placed) → total (stray S) a ≡ 0
    → areas_by S (demoted weigh limits a) ≡ demoted weight limits (areas_by S a)
demote_seen S limits a k =
    ap (λ z. areas_by S (demoted weigh limits z)) (sym (owns_are S a k))
    ∙ ap (λ z. areas_by S z) (sym (map-demoted (λ (o : Own S). o.0) weigh limits (owns S a k)))
    ∙ areas-map (entry_at S) (λ (o : Own S). o.0) (demoted (λ (o : Own S). weigh o.0) limits (owns S a k))
    ∙ ap (λ f. map_areas (λ (o : Own S). entry_at S o.0) (demoted f limits (owns S a k))) (weigh_own S)
    ∙ map-demoted (λ (o : Own S). entry_at S o.0) weight limits (owns S a k)
    ∙ ap (λ z. demoted weight limits z) (entries_own S a k)

module _ (I : List ℕ → Option Slot) (S : ℕ → Option Entry) (D : ℕ → Option ℕ) (a : Areas Placed) (h : Agree I S D a) (e x : Entry)
    (v : Slot) (held : S v.0 ≡ Some e) (own : e.key ≡ x.key) (w : ℕ) (weighs : w ≡ weight x) (limits : Limits) where
  abbrev after : Areas Placed
  after = accessed weigh limits (is_slot v.0) (placed v.0 w) a

  left : IsLess v.0 a (without_slot v.0 a)
  left = without_slot_less v.0 a (once_at I S D a h e v held)

  totals : (f : Placed → ℕ) → total f after ≡ f (placed v.0 w) + total f (without_slot v.0 a)
  totals f = total-accessed f weigh limits (is_slot v.0) (placed v.0 w) a

  keys_same : (n : ℕ) → key_of (set_at v.0 (Some x) S n) ≡ key_of (S n)
  keys_same n = go (n == v.0) refl
    where
      go : (b : Bool) → (n == v.0) ≡ b → key_of (cond b (Some x) (S n)) ≡ key_of (S n)
      go true t = ap Some (sym own) ∙ sym (ap key_of (ap S (eqb-true n v.0 t) ∙ held))
      go false t = refl

  counts_same : (n : ℕ) → count_of (set_at v.0 (Some x) S n) ≡ count_of (S n)
  counts_same n = go (n == v.0) refl
    where
      go : (b : Bool) → (n == v.0) ≡ b → count_of (cond b (Some x) (S n)) ≡ count_of (S n)
      go true t = sym (ap count_of (ap S (eqb-true n v.0 t) ∙ held))
      go false t = refl

  replaced_weighed : total (stray (set_at v.0 (Some x) S)) after ≡ 0
  replaced_weighed =
      let first : stray (set_at v.0 (Some x) S) (placed v.0 w) ≡ 0 =
      ap (λ b. stray_by w (cond b (Some x) (S v.0))) (eq-eqb v.0 v.0 refl)
      ∙ ap (λ b. cond b 0 1) (eq-eqb (weight x) w (sym weighs)) in
      let rest : total (stray (set_at v.0 (Some x) S)) (without_slot v.0 a) ≡ total (stray S) (without_slot v.0 a) =
      total-stray_away S v.0 (Some x) (without_slot v.0 a) (gone_from I S D a h e v held (without_slot v.0 a) left) in
      omega (arith, totals (stray (set_at v.0 (Some x) S)), first, rest, left.less (stray S), h.weighed)

  pub replaced : Agree I (set_at v.0 (Some x) S) (set_at v.0 (due_by x.item.due) D) after
  replaced = record {
    indexed = λ key slot g. keys_same slot.0 ∙ h.indexed key slot g;
    found = λ key slot g. h.found key slot (sym (keys_same slot.0) ∙ g);
    listed = λ n. omega (arith, totals (at_slot n), left.less (at_slot n), h.listed n, counts_same n);
    weighed = replaced_weighed;
    timed = λ n. time n (n == v.0);
  }
    where
      time : (n : ℕ) (b : Bool) → cond b (due_by x.item.due) (D n) ≡ wheel_due (cond b (Some x) (S n))
      time n true = refl
      time n false = h.timed n

  in_seen : (ps : List Placed) → sum_by (stray S) ps ≡ 0 → is_in (is_slot v.0) ps ≡ is_in (has_key e.key) (map (entry_at S) ps)
  in_seen [] k = refl
  in_seen (p ∷ ps) k =
      let split = sum_by-cons (stray S) p ps in
      ap (λ b. b || is_in (is_slot v.0) ps) (own_place I S D a h e v held p (omega (arith, k, split)))
      ∙ ap (λ b. has_key e.key (entry_at S p) || b) (in_seen ps (omega (arith, k, split)))

  raised_seen : areas_by (set_at v.0 (Some x) S) (raised (is_slot v.0) (placed v.0 w) a) ≡ raised (has_key e.key) x (areas_by S a)
  raised_seen =
      let k = h.weighed in
      let here : entry_at (set_at v.0 (Some x) S) (placed v.0 w) ≡ x =
      ap (λ b. entry_or (cond b (Some x) (S v.0))) (eq-eqb v.0 v.0 refl) in
      go (is_in (is_slot v.0) a.window) (is_in (has_key e.key) (map (entry_at S) a.window))
      (in_seen a.window (omega (arith, k))) here
      (without_seen I S D a h e v held (Some x) a.window (omega (arith, k)))
      (without_seen I S D a h e v held (Some x) a.probation (omega (arith, k)))
      (without_seen I S D a h e v held (Some x) a.protected (omega (arith, k)))
    where
      go : (b c : Bool) → b ≡ c → entry_at (set_at v.0 (Some x) S) (placed v.0 w) ≡ x
          → map (entry_at (set_at v.0 (Some x) S)) (without (is_slot v.0) a.window)
          ≡ without (has_key e.key) (map (entry_at S) a.window)
          → map (entry_at (set_at v.0 (Some x) S)) (without (is_slot v.0) a.probation)
          ≡ without (has_key e.key) (map (entry_at S) a.probation)
          → map (entry_at (set_at v.0 (Some x) S)) (without (is_slot v.0) a.protected)
          ≡ without (has_key e.key) (map (entry_at S) a.protected)
          → areas_by (set_at v.0 (Some x) S)
          (cond b
          (three (placed v.0 w ∷ without (is_slot v.0) a.window) (without (is_slot v.0) a.probation)
          (without (is_slot v.0) a.protected))
          (three (without (is_slot v.0) a.window) (without (is_slot v.0) a.probation)
          (placed v.0 w ∷ without (is_slot v.0) a.protected)))
          ≡ cond c (three (x ∷ without (has_key e.key) (map (entry_at S) a.window))
          (without (has_key e.key) (map (entry_at S) a.probation)) (without (has_key e.key) (map (entry_at S) a.protected)))
          (three (without (has_key e.key) (map (entry_at S) a.window)) (without (has_key e.key) (map (entry_at S) a.probation))
          (x ∷ without (has_key e.key) (map (entry_at S) a.protected)))
      go true true q here f g i =
          three_same _ _ _ _ _ _
          (ap (λ y. y ∷ map (entry_at (set_at v.0 (Some x) S)) (without (is_slot v.0) a.window)) here ∙ ap (λ t. x ∷ t) f) g i
      go false false q here f g i =
          three_same _ _ _ _ _ _ f g
          (ap (λ y. y ∷ map (entry_at (set_at v.0 (Some x) S)) (without (is_slot v.0) a.protected)) here ∙ ap (λ t. x ∷ t) i)
      go true false q here f g i = absurd (cc (q))
      go false true q here f g i = absurd (cc (q))

  pub replaced_areas : areas_by (set_at v.0 (Some x) S) after ≡ accessed weight limits (has_key x.key) x (areas_by S a)
  replaced_areas =
      let right : total (stray (set_at v.0 (Some x) S)) (raised (is_slot v.0) (placed v.0 w) a) ≡ 0 =
      sym (total-demoted (stray (set_at v.0 (Some x) S)) weigh limits (raised (is_slot v.0) (placed v.0 w) a))
      ∙ replaced_weighed in
      demote_seen (set_at v.0 (Some x) S) limits (raised (is_slot v.0) (placed v.0 w) a) right
      ∙ ap (λ z. demoted weight limits z) raised_seen
      ∙ ap (λ q. accessed weight limits (has_key q) x (areas_by S a)) own
