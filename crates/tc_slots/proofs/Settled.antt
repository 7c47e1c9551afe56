-- What settle makes of the lists, said of the entries.
use Rattle.std.specs.Prelude.{map, sum_by}
use Rattle.std.proofs.Common.{◌≡◌, ℕ, cond, List, [], ◌∷◌, Option, Some, None, refl, sym, ◌∙◌, ap, arith, eq-eqb}
use Rattle.std.proofs.lemmas.List.Sums.{sum_by-cons}
use Rattle.tc_item.specs.declared.slot.Slot.{Slot}
use Rattle.tc_model.specs.Areas.{Areas, Limits, Settled, settle, total, and_then}
use Rattle.tc_plain.specs.declared.shared.entry.Entry.{Entry}
use Rattle.tc_plain.specs.Entries.{weight}
use Rattle.tc_plain.specs.AreaLists.{frequency_in}
use Rattle.tc_sketch.specs.Sketch.{Sketch}
use Rattle.tc_slru.specs.Slots.{Placed, placed, weigh}
use Rattle.tc_model.specs.Mapped.{map_areas, map_settled}
use Rattle.tc_slots.specs.Agreement.{set_at, count_of, at_slot, Agree}
use Rattle.tc_plain.specs.BySlot.{stray, entry_at, entry_or, areas_by}
use Rattle.tc_slots.specs.Held.{seen_by}
use Rattle.tc_slots.proofs.Away.{three, three_same, areas_away}
use Rattle.tc_slots.proofs.OneSlot.{IsLess}
use Rattle.tc_model.proofs.Maps.{map-settle}
use Rattle.tc_model.proofs.Conserved.{in_all, all-settle}
use Rattle.tc_slots.proofs.Moves.{fun_same, weighs_own}

map-map : {A B C : Type 0} (g : B → C) (f : A → B) (xs : List A) → map g (map f xs) ≡ map (λ x. g (f x)) xs
map-map g f [] = refl
map-map g f (x ∷ xs) = ap (λ t. g (f x) ∷ t) (map-map g f xs)

pub areas-map : {A B C : Type 0} (g : B → C) (f : A → B) (a : Areas A) → map_areas g (map_areas f a) ≡ map_areas (λ x. g (f x)) a
areas-map g f a = three_same _ _ _ _ _ _ (map-map g f a.window) (map-map g f a.probation) (map-map g f a.protected)

settled_same : {A : Type 0} (a b : Areas A) (d e : List A) → a ≡ b → d ≡ e
    → (let s : Settled A = record { areas = a; dropped = d } in s) ≡ record { areas = b; dropped = e }
settled_same a b d e f g = cc

settled-map : {A B C : Type 0} (g : B → C) (f : A → B) (s : Settled A)
    → map_settled g (map_settled f s) ≡ map_settled (λ x. g (f x)) s
settled-map g f s = settled_same _ _ _ _ (areas-map g f s.areas) (map-map g f s.dropped)

module _ (S : ℕ → Option Entry) where
  -- a place that has the weight of its entry
  abbrev pub Own : Type 0
  Own = (p : Placed) × (stray S p ≡ 0)

  own : (ps : List Placed) → sum_by (stray S) ps ≡ 0 → List Own
  own [] k = []
  own (p ∷ ps) k = let split = sum_by-cons (stray S) p ps in (p, omega (arith, k, split)) ∷ own ps (omega (arith, k, split))

  own_is : (ps : List Placed) (k : sum_by (stray S) ps ≡ 0) → map (λ (o : Own). o.0) (own ps k) ≡ ps
  unfolding own
  own_is [] k = refl
  own_is (p ∷ ps) k = let split = sum_by-cons (stray S) p ps in ap (λ t. p ∷ t) (own_is ps (omega (arith, k, split)))

  pub owns : (a : Areas Placed) → total (stray S) a ≡ 0 → Areas Own
  owns a k = three (own a.window (omega (arith, k))) (own a.probation (omega (arith, k))) (own a.protected (omega (arith, k)))

  pub owns_are : (a : Areas Placed) (k : total (stray S) a ≡ 0) → map_areas (λ (o : Own). o.0) (owns a k) ≡ a
  unfolding owns own
  owns_are a k =
      three_same _ _ _ _ _ _ (own_is a.window (omega (arith, k))) (own_is a.probation (omega (arith, k)))
      (own_is a.protected (omega (arith, k)))

  pub entries_own : (a : Areas Placed) (k : total (stray S) a ≡ 0)
      → map_areas (λ (o : Own). entry_at S o.0) (owns a k) ≡ areas_by S a
  entries_own a k = sym (areas-map (entry_at S) (λ (o : Own). o.0) (owns a k)) ∙ ap (λ z. map_areas (entry_at S) z) (owns_are a k)

  pub weigh_own : (let f : Own → ℕ = λ o. weigh o.0 in f) ≡ (λ o. weight (entry_at S o.0))
  weigh_own = fun_same _ _ (λ o. weighs_own S o.0 o.1)

  -- settle of the places is settle of their entries
  pub settle_seen : (sketch : Sketch) (limits : Limits) (a : Areas Placed) → total (stray S) a ≡ 0
      → map_settled (entry_at S) (settle weigh (λ p. seen_by sketch S p.slot) limits a)
      ≡ settle weight (frequency_in sketch) limits (areas_by S a)
  settle_seen sketch limits a k =
      ap (λ z. map_settled (entry_at S) (settle weigh (λ p. seen_by sketch S p.slot) limits z)) (sym (owns_are a k))
      ∙ ap (λ z. map_settled (entry_at S) z)
      (sym (map-settle (λ (o : Own). o.0) weigh (λ p. seen_by sketch S p.slot) limits (owns a k)))
      ∙ settled-map (entry_at S) (λ (o : Own). o.0)
      (settle (λ (o : Own). weigh o.0) (λ (o : Own). seen_by sketch S o.0.slot) limits (owns a k))
      ∙ ap (λ w. map_settled (λ (o : Own). entry_at S o.0) (settle w (λ (o : Own). seen_by sketch S o.0.slot) limits (owns a k)))
      weigh_own
      ∙ map-settle (λ (o : Own). entry_at S o.0) weight (frequency_in sketch) limits (owns a k)
      ∙ ap (λ z. settle weight (frequency_in sketch) limits z) (entries_own a k)

-- lists from which settle took a place
pub dropped_less : (freq : Placed → ℕ) (limits : Limits) (v w : ℕ) (a b : Areas Placed)
    → settle weigh freq limits a ≡ and_then (placed v w ∷ []) (settle weigh freq limits b) → IsLess v a b
dropped_less freq limits v w a b e = record {
  weight = w;
  less = λ f. omega (
    arith,
    all-settle f weigh freq limits a,
    all-settle f weigh freq limits b,
    ap (in_all f) e,
    sum_by-cons f (placed v w) (settle weigh freq limits b).dropped,
  );
}

-- lists that settle left as they are, or in another order
pub kept_same : (freq : Placed → ℕ) (limits : Limits) (a b : Areas Placed)
    → settle weigh freq limits a ≡ record { areas = b; dropped = [] } → (f : Placed → ℕ) → total f b ≡ total f a
kept_same freq limits a b e f = omega (arith, all-settle f weigh freq limits a, ap (in_all f) e)

module _ (I : List ℕ → Option Slot) (S : ℕ → Option Entry) (D : ℕ → Option ℕ) (a : Areas Placed) (h : Agree I S D a) where
  -- what was dropped was held
  pub dropped_held : (v : ℕ) (b : Areas Placed) → IsLess v a b → (e : Entry) × (S v ≡ Some e)
  dropped_held v b less = go (S v) refl
    where
      go : (o : Option Entry) → S v ≡ o → (e : Entry) × (S v ≡ Some e)
      go None e =
          let none : total (at_slot v) a ≡ 0 = h.listed v ∙ ap count_of e in
          let own : at_slot v (placed v less.weight) ≡ 1 = ap (λ c. cond c 1 0) (eq-eqb v v refl) in
          absurd (omega (arith, less.less (at_slot v), none, own))
      go (Some d) e = (d, e)

  -- the order alone changed
  pub reordered : (b : Areas Placed) → ((f : Placed → ℕ) → total f b ≡ total f a) → Agree I S D b
  reordered b same = record {
    indexed = h.indexed;
    found = h.found;
    listed = λ n. same (at_slot n) ∙ h.listed n;
    weighed = same (stray S) ∙ h.weighed;
    timed = h.timed;
  }

  module _ (sketch : Sketch) (limits : Limits) (v w : ℕ) (b : Areas Placed)
      (drops : settle weigh (λ p. seen_by sketch S p.slot) limits a
      ≡ and_then (placed v w ∷ []) (settle weigh (λ p. seen_by sketch S p.slot) limits b))
    where
      pub settle_drops : (e : Entry) → S v ≡ Some e → total (at_slot v) b ≡ 0
          → settle weight (frequency_in sketch) limits (areas_by S a)
          ≡ and_then (e ∷ []) (settle weight (frequency_in sketch) limits (areas_by (set_at v None S) b))
      settle_drops e at gone =
          let less = dropped_less (λ p. seen_by sketch S p.slot) limits v w a b drops in
          let right : total (stray S) b ≡ 0 = omega (arith, less.less (stray S), h.weighed) in
          sym (settle_seen S sketch limits a h.weighed)
          ∙ ap (λ z. map_settled (entry_at S) z) drops
          ∙ ap (λ o. and_then (entry_or o ∷ []) (map_settled (entry_at S) (settle weigh (λ p. seen_by sketch S p.slot) limits b)))
          at
          ∙ ap (λ z. and_then (e ∷ []) z) (settle_seen S sketch limits b right)
          ∙ ap (λ z. and_then (e ∷ []) (settle weight (frequency_in sketch) limits z)) (sym (areas_away S v None b gone))

  pub settle_ends : (sketch : Sketch) (limits : Limits) (b : Areas Placed)
      → settle weigh (λ p. seen_by sketch S p.slot) limits a ≡ record { areas = b; dropped = [] }
      → settle weight (frequency_in sketch) limits (areas_by S a) ≡ record { areas = areas_by S b; dropped = [] }
  settle_ends sketch limits b e = sym (settle_seen S sketch limits a h.weighed) ∙ ap (λ z. map_settled (entry_at S) z) e
