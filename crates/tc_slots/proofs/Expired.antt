-- Taking out what is due leaves what is alive.
use Rattle.std.specs.Prelude.{◌==◌, map, filter, sum_by, not, nat_lt}
use Rattle.std.proofs.Common.{◌≡◌, ℕ, ◌<◌, Bool, true, false, cond, List, [], ◌∷◌, Option, Some, None, refl, sym, ◌∙◌, ap}
use Rattle.std.proofs.Common.{arith}
use Rattle.std.proofs.lemmas.Bool.{eqb-true}
use Rattle.std.proofs.lemmas.Bool.Decides.{nat_tests}
use Rattle.std.proofs.lemmas.List.Sums.{sum_by-cons}
use Rattle.tc_item.specs.Bounds.{moment_limit}
use Rattle.tc_item.specs.declared.moment.Due.{Due}
use Rattle.tc_item.specs.declared.moment.Due.TheVariants.{Never, At}
use Rattle.tc_item.specs.declared.slot.Slot.{Slot}
use Rattle.tc_item.specs.Expiry.{is_before}
use Rattle.tc_model.specs.Areas.{Areas, without}
use Rattle.tc_plain.specs.declared.shared.entry.Entry.{Entry}
use Rattle.tc_plain.specs.Entries.{lives}
use Rattle.tc_plain.specs.EvictionState.{filtered}
use Rattle.tc_slru.specs.Slots.{Placed, is_slot, without_slot}
use Rattle.tc_wheel.specs.Dues.{is_due}
use Rattle.tc_slots.specs.Agreement.{set_at, due_by, wheel_due, Agree}
use Rattle.tc_plain.specs.BySlot.{stray, stray_by, entry_at, entry_or, areas_by}
use Rattle.tc_slots.proofs.Away.{three_same}

-- the wheel's dues are those of items
pub due_before : (m : ℕ) (d : Due) → m < moment_limit → is_due m (due_by d) ≡ not (is_before m d)
due_before m Never h = refl
due_before m (At s) h = go (nat_lt s moment_limit) refl
  where
    go : (b : Bool) → nat_lt s moment_limit ≡ b → is_due m (cond b (Some s) None) ≡ not (nat_lt m s)
    go true e = grind (arith, nat_tests)
    go false e = grind (arith, nat_tests)

not_true : (b : Bool) → not b ≡ true → b ≡ false
not_true true e = absurd (cc)
not_true false e = refl

not_false : (b : Bool) → not b ≡ false → b ≡ true
not_false true e = refl
not_false false e = absurd (cc)

module _ (I : List ℕ → Option Slot) (S : ℕ → Option Entry) (D : ℕ → Option ℕ) (a : Areas Placed) (h : Agree I S D a) (m : ℕ)
    (early : m < moment_limit) where
  -- what the wheel gives is held, and is not alive
  pub given_one : (v : ℕ) → is_due m (D v) ≡ true → (e : Entry) × (S v ≡ Some e) × (lives m e ≡ false)
  given_one v g = go (S v) refl (sym (ap (is_due m) (h.timed v)) ∙ g)
    where
      go : (o : Option Entry) → S v ≡ o → is_due m (wheel_due o) ≡ true → (e : Entry) × (S v ≡ Some e) × (lives m e ≡ false)
      go None e k = absurd (cc)
      go (Some d) e k = (d, e, not_true (lives m d) (sym (due_before m d.item.due early) ∙ k))

  -- where the wheel gives nothing, all are alive
  module _ (none : (n : ℕ) → is_due m (D n) ≡ false) where
    all_alive : (p : Placed) → stray S p ≡ 0 → lives m (entry_at S p) ≡ true
    all_alive p k = go (S p.slot) refl k
      where
        go : (o : Option Entry) → S p.slot ≡ o → stray_by p.weight o ≡ 0 → lives m (entry_or o) ≡ true
        go None e k = absurd (omega (arith, k))
        go (Some d) e k =
            not_false (lives m d)
            (sym (due_before m d.item.due early) ∙ sym (ap (is_due m) (h.timed p.slot ∙ ap wheel_due e)) ∙ none p.slot)

    keeps_all : (ps : List Placed) → sum_by (stray S) ps ≡ 0 → filter (lives m) (map (entry_at S) ps) ≡ map (entry_at S) ps
    keeps_all [] k = refl
    keeps_all (p ∷ ps) k =
        let split = sum_by-cons (stray S) p ps in
        ap (λ b. cond b (entry_at S p ∷ filter (lives m) (map (entry_at S) ps)) (filter (lives m) (map (entry_at S) ps)))
        (all_alive p (omega (arith, k, split)))
        ∙ ap (λ t. entry_at S p ∷ t) (keeps_all ps (omega (arith, k, split)))

    pub kept_all : filtered (lives m) (areas_by S a) ≡ areas_by S a
    kept_all =
        let k = h.weighed in
        three_same _ _ _ _ _ _ (keeps_all a.window (omega (arith, k))) (keeps_all a.probation (omega (arith, k)))
        (keeps_all a.protected (omega (arith, k)))

  -- without one that is not alive, the same are alive
  module _ (v : ℕ) (e : Entry) (at : S v ≡ Some e) (dead : lives m e ≡ false) where
    keeps_others : (ps : List Placed)
        → filter (lives m) (map (entry_at (set_at v None S)) (without (is_slot v) ps)) ≡ filter (lives m) (map (entry_at S) ps)
    keeps_others [] = refl
    keeps_others (p ∷ ps) = go (p.slot == v) refl (keeps_others ps)
      where
        go : (b : Bool) → (p.slot == v) ≡ b
            → filter (lives m) (map (entry_at (set_at v None S)) (without (is_slot v) ps))
            ≡ filter (lives m) (map (entry_at S) ps)
            → filter (lives m)
            (map (entry_at (set_at v None S)) (cond (not (p.slot == v)) (p ∷ without (is_slot v) ps) (without (is_slot v) ps)))
            ≡ cond (lives m (entry_at S p)) (entry_at S p ∷ filter (lives m) (map (entry_at S) ps))
            (filter (lives m) (map (entry_at S) ps))
        go true t rest =
            let gone : lives m (entry_at S p) ≡ false = ap (λ o. lives m (entry_or o)) (ap S (eqb-true p.slot v t) ∙ at) ∙ dead in
            ap (λ c. filter (lives m)
            (map (entry_at (set_at v None S)) (cond (not c) (p ∷ without (is_slot v) ps) (without (is_slot v) ps)))) t
            ∙ rest
            ∙ ap (λ c. cond c (entry_at S p ∷ filter (lives m) (map (entry_at S) ps)) (filter (lives m) (map (entry_at S) ps)))
            (sym gone)
        go false t rest =
            ap (λ c. filter (lives m)
            (map (entry_at (set_at v None S)) (cond (not c) (p ∷ without (is_slot v) ps) (without (is_slot v) ps)))) t
            ∙ ap (λ c. filter (lives m)
            (entry_or (cond c None (S p.slot)) ∷ map (entry_at (set_at v None S)) (without (is_slot v) ps))) t
            ∙ ap (λ r. cond (lives m (entry_at S p)) (entry_at S p ∷ r) r) rest

    pub kept_others : filtered (lives m) (areas_by (set_at v None S) (without_slot v a)) ≡ filtered (lives m) (areas_by S a)
    kept_others = three_same _ _ _ _ _ _ (keeps_others a.window) (keeps_others a.probation) (keeps_others a.protected)
