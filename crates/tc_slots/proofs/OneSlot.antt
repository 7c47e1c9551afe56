-- A slot that stands once in the lists, and the lists without it.
use Rattle.std.specs.Prelude.{◌==◌, not, sum_by}
use Rattle.std.proofs.Common.{◌≡◌, ℕ, zero, suc, ◌+◌, Bool, true, false, cond, List, [], ◌∷◌, refl, sym, ◌∙◌, ap, arith}
use Rattle.std.proofs.lemmas.Bool.{eqb-true}
use Rattle.std.proofs.lemmas.List.Sums.{sum_by-cons}
use Rattle.tc_model.specs.Areas.{Areas, without, total}
use Rattle.tc_slru.specs.Slots.{Placed, placed, is_slot, holds, without_slot}
use Rattle.tc_slots.specs.Agreement.{at_slot}
use Rattle.tc_slots.proofs.Away.{none_here, not_in, is_in_some}

pub without_none : (v : ℕ) (ps : List Placed) → sum_by (at_slot v) ps ≡ 0 → without (is_slot v) ps ≡ ps
without_none v [] h = refl
without_none v (p ∷ ps) h =
    let n = none_here v p ps h in
    ap (λ b. cond (not b) (p ∷ without (is_slot v) ps) (without (is_slot v) ps)) n.0 ∙ ap (λ t. p ∷ t) (without_none v ps n.1)

-- the list has a place of this slot and weight, which is gone
pub record IsOneLess (v : ℕ) (ps : List Placed) : Type 0 where
  pub weight : ℕ
  pub less : (f : Placed → ℕ) → sum_by f (without (is_slot v) ps) + f (placed v weight) ≡ sum_by f ps

pub without_one : (v : ℕ) (ps : List Placed) → sum_by (at_slot v) ps ≡ 1 → IsOneLess v ps
without_one v [] h = absurd (omega (arith, h))
without_one v (p ∷ ps) h = go (p.slot == v) refl (sym (sum_by-cons (at_slot v) p ps) ∙ h) (λ k. without_one v ps k)
  where
    gone : (p.slot == v) ≡ true → sum_by (at_slot v) ps ≡ 0 → (f : Placed → ℕ)
        → sum_by f (without (is_slot v) (p ∷ ps)) + f (placed v p.weight) ≡ sum_by f (p ∷ ps)
    gone e k f =
        let left : without (is_slot v) (p ∷ ps) ≡ ps =
        ap (λ b. cond (not b) (p ∷ without (is_slot v) ps) (without (is_slot v) ps)) e ∙ without_none v ps k in
        let own : f (placed v p.weight) ≡ f p = ap (λ s. f (placed s p.weight)) (sym (eqb-true p.slot v e)) in
        omega (arith, ap (sum_by f) left, own, sum_by-cons f p ps)

    kept : (p.slot == v) ≡ false → (r : IsOneLess v ps) → (f : Placed → ℕ)
        → sum_by f (without (is_slot v) (p ∷ ps)) + f (placed v r.weight) ≡ sum_by f (p ∷ ps)
    kept e r f =
        let left : without (is_slot v) (p ∷ ps) ≡ p ∷ without (is_slot v) ps =
        ap (λ b. cond (not b) (p ∷ without (is_slot v) ps) (without (is_slot v) ps)) e in
        omega (arith, ap (sum_by f) left, r.less f, sum_by-cons f p ps, sum_by-cons f p (without (is_slot v) ps))

    go : (b : Bool) → (p.slot == v) ≡ b → cond b 1 0 + sum_by (at_slot v) ps ≡ 1 → (sum_by (at_slot v) ps ≡ 1 → IsOneLess v ps)
        → IsOneLess v (p ∷ ps)
    go true e k later = record { weight = p.weight; less = gone e (omega (arith, k)) }
    go false e k later = let r = later (omega (arith, k)) in record { weight = r.weight; less = kept e r }

-- these lists are those without one place of the slot
pub record IsLess (v : ℕ) (a b : Areas Placed) : Type 0 where
  pub weight : ℕ
  pub less : (f : Placed → ℕ) → total f b + f (placed v weight) ≡ total f a

pub without_slot_less : (v : ℕ) (a : Areas Placed) → total (at_slot v) a ≡ 1 → IsLess v a (without_slot v a)
without_slot_less v a h = go (sum_by (at_slot v) a.window) (sum_by (at_slot v) a.probation) refl refl
  where
    same : (ps : List Placed) → sum_by (at_slot v) ps ≡ 0 → (f : Placed → ℕ) → sum_by f (without (is_slot v) ps) ≡ sum_by f ps
    same ps k f = ap (sum_by f) (without_none v ps k)

    go : (m n : ℕ) → sum_by (at_slot v) a.window ≡ m → sum_by (at_slot v) a.probation ≡ n → IsLess v a (without_slot v a)
    go (suc m) n e k =
        let r = without_one v a.window (omega (arith, h, e)) in
        record {
          weight = r.weight;
          less = λ f. omega (arith, r.less f, same a.probation (omega (arith, h, e)) f, same a.protected (omega (arith, h, e)) f);
        }
    go zero (suc n) e k =
        let r = without_one v a.probation (omega (arith, h, e, k)) in
        record {
          weight = r.weight;
          less = λ f. omega (arith, r.less f, same a.window e f, same a.protected (omega (arith, h, k)) f);
        }
    go zero zero e k =
        let r = without_one v a.protected (omega (arith, h, e, k)) in
        record { weight = r.weight; less = λ f. omega (arith, r.less f, same a.window e f, same a.probation k f) }

-- a slot that stands once is held
pub is_held : (v : ℕ) (a : Areas Placed) → total (at_slot v) a ≡ 1 → holds v a ≡ true
is_held v a h = go (sum_by (at_slot v) a.window) (sum_by (at_slot v) a.probation) refl refl
  where
    go : (m n : ℕ) → sum_by (at_slot v) a.window ≡ m → sum_by (at_slot v) a.probation ≡ n → holds v a ≡ true
    go (suc m) n e k = rw (is_in_some v m a.window (omega (arith, e))) refl
    go zero (suc n) e k = rw (not_in v a.window e, is_in_some v n a.probation (omega (arith, k))) refl
    go zero zero e k = rw (not_in v a.window e, not_in v a.probation k, is_in_some v 0 a.protected (omega (arith, h, e, k))) refl
