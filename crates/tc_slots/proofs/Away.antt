-- Lists none of whose places has a slot stand for the same, whatever that slot holds.
use Rattle.std.specs.Prelude.{◌==◌, map, sum_by, ◌||◌}
use Rattle.std.proofs.Common.{◌≡◌, ℕ, ◌+◌, Bool, true, false, cond, List, [], ◌∷◌, Option, refl, sym, ◌∙◌, ap, arith}
use Rattle.std.proofs.lemmas.List.Sums.{sum_by-cons}
use Rattle.tc_model.specs.Areas.{Areas, is_in, total}
use Rattle.tc_plain.specs.declared.shared.entry.Entry.{Entry}
use Rattle.tc_slru.specs.Slots.{Placed, is_slot, holds}
use Rattle.tc_slots.specs.Agreement.{set_at, at_slot}
use Rattle.tc_plain.specs.BySlot.{stray, stray_by, entry_at, entry_or, areas_by}

abbrev pub three : {A : Type 0} → List A → List A → List A → Areas A
three w p q = record { window = w; probation = p; protected = q }

pub three_same : {A : Type 0} (u v w x y z : List A) → u ≡ v → w ≡ x → y ≡ z → three u w y ≡ three v x z
three_same u v w x y z e f g = cc

-- no place of these has the slot
pub none_here : (v : ℕ) (p : Placed) (ps : List Placed) → sum_by (at_slot v) (p ∷ ps) ≡ 0
    → ((p.slot == v) ≡ false) × (sum_by (at_slot v) ps ≡ 0)
none_here v p ps h = go (p.slot == v) (sym (sum_by-cons (at_slot v) p ps) ∙ h)
  where
    go : (b : Bool) → cond b 1 0 + sum_by (at_slot v) ps ≡ 0 → (b ≡ false) × (sum_by (at_slot v) ps ≡ 0)
    go true k = absurd (omega (arith, k))
    go false k = (refl, omega (arith, k))

pub seen_away : (S : ℕ → Option Entry) (v : ℕ) (o : Option Entry) (ps : List Placed) → sum_by (at_slot v) ps ≡ 0
    → map (entry_at (set_at v o S)) ps ≡ map (entry_at S) ps
seen_away S v o [] h = refl
seen_away S v o (p ∷ ps) h =
    let n = none_here v p ps h in
    ap (λ b. entry_or (cond b o (S p.slot)) ∷ map (entry_at (set_at v o S)) ps) n.0
    ∙ ap (λ t. entry_or (S p.slot) ∷ t) (seen_away S v o ps n.1)

pub stray_away : (S : ℕ → Option Entry) (v : ℕ) (o : Option Entry) (ps : List Placed) → sum_by (at_slot v) ps ≡ 0
    → sum_by (stray (set_at v o S)) ps ≡ sum_by (stray S) ps
stray_away S v o [] h = refl
stray_away S v o (p ∷ ps) h =
    let n = none_here v p ps h in
    sum_by-cons (stray (set_at v o S)) p ps
    ∙ ap (λ b. stray_by p.weight (cond b o (S p.slot)) + sum_by (stray (set_at v o S)) ps) n.0
    ∙ ap (λ t. stray S p + t) (stray_away S v o ps n.1)
    ∙ sym (sum_by-cons (stray S) p ps)

-- the same of three lists
pub record AreAway (v : ℕ) (a : Areas Placed) : Type 0 where
  pub window : sum_by (at_slot v) a.window ≡ 0
  pub probation : sum_by (at_slot v) a.probation ≡ 0
  pub protected : sum_by (at_slot v) a.protected ≡ 0

pub away : (v : ℕ) (a : Areas Placed) → total (at_slot v) a ≡ 0 → AreAway v a
away v a h = record { window = omega (arith, h); probation = omega (arith, h); protected = omega (arith, h) }

pub areas_away : (S : ℕ → Option Entry) (v : ℕ) (o : Option Entry) (a : Areas Placed) → total (at_slot v) a ≡ 0
    → areas_by (set_at v o S) a ≡ areas_by S a
areas_away S v o a h =
    let w = away v a h in
    three_same _ _ _ _ _ _ (seen_away S v o a.window w.window) (seen_away S v o a.probation w.probation)
    (seen_away S v o a.protected w.protected)

pub total-stray_away : (S : ℕ → Option Entry) (v : ℕ) (o : Option Entry) (a : Areas Placed) → total (at_slot v) a ≡ 0
    → total (stray (set_at v o S)) a ≡ total (stray S) a
total-stray_away S v o a h =
    let w = away v a h in
    ap (λ t. t + (sum_by (stray (set_at v o S)) a.probation + sum_by (stray (set_at v o S)) a.protected))
    (stray_away S v o a.window w.window)
    ∙ ap (λ t. sum_by (stray S) a.window + (t + sum_by (stray (set_at v o S)) a.protected))
    (stray_away S v o a.probation w.probation)
    ∙ ap (λ t. sum_by (stray S) a.window + (sum_by (stray S) a.probation + t)) (stray_away S v o a.protected w.protected)

-- whether a slot has a place, by how many it has
pub not_in : (v : ℕ) (ps : List Placed) → sum_by (at_slot v) ps ≡ 0 → is_in (is_slot v) ps ≡ false
not_in v [] h = refl
not_in v (p ∷ ps) h = let n = none_here v p ps h in ap (λ b. b || is_in (is_slot v) ps) n.0 ∙ not_in v ps n.1

pub is_in_some : (v n : ℕ) (ps : List Placed) → sum_by (at_slot v) ps ≡ n + 1 → is_in (is_slot v) ps ≡ true
is_in_some v n [] h = absurd (omega (arith, h))
is_in_some v n (p ∷ ps) h = go (p.slot == v) (sym (sum_by-cons (at_slot v) p ps) ∙ h) (λ k. is_in_some v n ps k)
  where
    go : (b : Bool) → cond b 1 0 + sum_by (at_slot v) ps ≡ n + 1 → (sum_by (at_slot v) ps ≡ n + 1 → is_in (is_slot v) ps ≡ true)
        → (b || is_in (is_slot v) ps) ≡ true
    go true k later = refl
    go false k later = later (omega (arith, k))

pub not_held : (v : ℕ) (a : Areas Placed) → total (at_slot v) a ≡ 0 → holds v a ≡ false
not_held v a h =
    let w = away v a h in rw (not_in v a.window w.window, not_in v a.probation w.probation, not_in v a.protected w.protected) refl
