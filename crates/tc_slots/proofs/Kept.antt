-- What replacing and expiring make of index, entries, lists and wheel as they are kept, and where they begin.
use Rattle.std.specs.Prelude.{◌==◌, slice_index_or}
use Rattle.std.proofs.Common.{◌≡◌, ℕ, ◌+◌, ◌<◌, ◌≤◌, Bool, true, false, cond, List, [], Option, Some, None, refl, sym, ◌∙◌, ap}
use Rattle.std.proofs.Common.{arith}
use Rattle.std.proofs.lemmas.Bool.{eqb-true}
use Rattle.tc_index.specs.Tags.{Tagged}
use Rattle.slab.specs.Slab.{Slab, get as slab_get}
use Rattle.tc_item.specs.Bounds.{moment_limit}
use Rattle.tc_item.specs.declared.slot.Slot.{Slot}
use Rattle.tc_model.specs.Areas.{accessed, total}
use Rattle.tc_plain.specs.declared.shared.entry.Entry.{Entry}
use Rattle.tc_plain.specs.Entries.{weight, has_key, lives}
use Rattle.tc_plain.specs.EvictionState.{filtered}
use Rattle.tc_slru.specs.Slots.{weigh, without_slot, placed}
use Rattle.tc_slru.specs.SlotLists.{SlotLists, removed, accessed_at}
use Rattle.tc_wheel.specs.Dues.{Dues, due_at, is_due, removed as untimed_at, advanced}
use Rattle.tc_slots.specs.Agreement.{set_at, due_by, wheel_due, slot_of, Agree}
use Rattle.tc_slots.proofs.Tagged.{agree_slots}
use Rattle.tc_plain.specs.BySlot.{areas_by, stray, entry_or}
use Rattle.tc_slots.specs.Held.{Held, IsVacated}
use Rattle.tc_slots.proofs.OneSlot.{without_slot_less}
use Rattle.tc_slots.proofs.Filling.{some_same, once_at}
use Rattle.tc_slots.proofs.Replaced.{replaced, replaced_areas}
use Rattle.tc_slots.proofs.Expired.{given_one, kept_all, kept_others}
use Rattle.tc_slots.proofs.Moves.{fun_same, agree_same, due_cleared, slots_less, total_weighs, weighs_own}

-- a due noted in the place of another
pub due_again : (w x y : Dues) (v : ℕ) (o : Option ℕ) → x ≡ untimed_at v w
    → ((k : ℕ) → due_at y.dues k ≡ set_at v o (due_at x.dues) k) → (k : ℕ) → due_at y.dues k ≡ set_at v o (due_at w.dues) k
due_again w x y v o ex ey k =
    ey k ∙ ap (λ t. cond (k == v) o t) (ap (λ (z : Dues). due_at z.dues k) ex ∙ due_cleared w.dues v k) ∙ go (k == v)
  where
    go : (b : Bool) → cond b o (cond b None (due_at w.dues k)) ≡ cond b o (due_at w.dues k)
    go true = refl
    go false = refl

module _ (i : Tagged) (s : Slab Entry) (l : SlotLists) (w : Dues)
    (h : Agree (slot_of s.slots) (slab_get s) (due_at w.dues) l.areas) where
  -- what else weighs something
  pub others_weigh : (e : Entry) (v : Slot) → slab_get s v.0 ≡ Some e
      → total weigh (without_slot v.0 l.areas) ≤ total weight (areas_by (slab_get s) l.areas)
  others_weigh e v at =
      let less = without_slot_less v.0 l.areas (once_at (slot_of s.slots) (slab_get s) (due_at w.dues) l.areas h e v at) in
      omega (arith, less.less weigh, total_weighs (slab_get s) l.areas h.weighed)

  -- what the lists note of its weight is what it weighs
  pub weighs_entry : (e : Entry) (v : Slot) → slab_get s v.0 ≡ Some e → (n : ℕ)
      → n + total weigh (without_slot v.0 l.areas) ≡ total weigh l.areas → n ≡ weight e
  weighs_entry e v at n k =
      let less = without_slot_less v.0 l.areas (once_at (slot_of s.slots) (slab_get s) (due_at w.dues) l.areas h e v at) in
      let none : stray (slab_get s) (placed v.0 less.weight) ≡ 0 = omega (arith, less.less (stray (slab_get s)), h.weighed) in
      let own : less.weight ≡ weight e =
      weighs_own (slab_get s) (placed v.0 less.weight) none ∙ ap (λ o. weight (entry_or o)) at in
      omega (arith, less.less weigh, own, k)

  module _ (e x : Entry) (v : Slot) (at : slab_get s v.0 ≡ Some e) (own : e.key ≡ x.key) (n : ℕ) (weighs : n ≡ weight x)
      (t : Slab Entry) (put : (k : ℕ) → slab_get t k ≡ set_at v.0 (Some x) (slab_get s) k) (m : SlotLists)
      (em : m ≡ accessed_at v.0 n l) where
    pub slots_replaced : (y : Dues) → ((k : ℕ) → due_at y.dues k ≡ set_at v.0 (due_by x.item.due) (due_at w.dues) k)
        → Agree (slot_of t.slots) (slab_get t) (due_at y.dues) m.areas
    slots_replaced y ey =
        agree_slots t (agree_same refl (fun_same _ _ (λ k. sym (put k))) (fun_same _ _ (λ k. sym (ey k)))
        (ap (λ (z : SlotLists). z.areas) (sym em))
        (replaced (slot_of s.slots) (slab_get s) (due_at w.dues) l.areas h e x v at own n weighs l.limits))

    pub slots_replaced_areas : areas_by (slab_get t) m.areas
        ≡ accessed weight l.limits (has_key x.key) x (areas_by (slab_get s) l.areas)
    slots_replaced_areas =
        ap (λ S. areas_by S m.areas) (fun_same _ _ put)
        ∙ ap (λ (z : SlotLists). areas_by (set_at v.0 (Some x) (slab_get s)) z.areas) em
        ∙ replaced_areas (slot_of s.slots) (slab_get s) (due_at w.dues) l.areas h e x v at own n weighs l.limits

  -- one that is due leaves

  module _ (moment : ℕ) (early : moment < moment_limit) where
    pub due_one : (v : ℕ) → is_due moment (due_at w.dues v) ≡ true
        → (e : Entry) × (slab_get s v ≡ Some e) × (lives moment e ≡ false)
    due_one v g = given_one (slot_of s.slots) (slab_get s) (due_at w.dues) l.areas h moment early v g

    pub none_due : ((n : ℕ) → is_due moment (due_at w.dues n) ≡ false)
        → filtered (lives moment) (areas_by (slab_get s) l.areas) ≡ areas_by (slab_get s) l.areas
    none_due none = kept_all (slot_of s.slots) (slab_get s) (due_at w.dues) l.areas h moment early none

    module _ (e : Entry) (v : Slot) (at : slab_get s v.0 ≡ Some e) (dead : lives moment e ≡ false) (j : Tagged)
        (t : Slab Entry) (gone : IsVacated e v.0 i j s t) (m : SlotLists) (em : m ≡ removed v.0 l) where
      pub slots_expired : (x : Dues) → x ≡ untimed_at v.0 (advanced moment w)
          → Agree (slot_of t.slots) (slab_get t) (due_at x.dues) m.areas
      slots_expired x ex =
          let less = without_slot_less v.0 l.areas
          (once_at (slot_of s.slots) (slab_get s) (due_at w.dues) l.areas h e v at) in
          let y : Dues = untimed_at v.0 w in
          let same : y.dues ≡ x.dues = sym (ap (λ (z : Dues). z.dues) ex) in
          agree_same refl refl (ap due_at same) (ap (λ (z : SlotLists). z.areas) (sym em))
          (slots_less i s l w h e v j t at gone (without_slot v.0 l.areas) y less refl)

      pub slots_expired_areas : filtered (lives moment) (areas_by (slab_get t) m.areas)
          ≡ filtered (lives moment) (areas_by (slab_get s) l.areas)
      slots_expired_areas =
          ap (λ S. filtered (lives moment) (areas_by S m.areas)) (fun_same _ _ gone.entries)
          ∙ ap (λ (z : SlotLists). filtered (lives moment) (areas_by (set_at v.0 None (slab_get s)) z.areas)) em
          ∙ kept_others (slot_of s.slots) (slab_get s) (due_at w.dues) l.areas h moment early v.0 e at dead

-- nothing yet
pub fresh_filled : {I : List ℕ → Option Slot} {S : ℕ → Option Entry} {D : ℕ → Option ℕ} → ((key : List ℕ) → I key ≡ None)
    → ((n : ℕ) → S n ≡ None) → ((n : ℕ) → D n ≡ None) → Agree I S D (record { window = []; probation = []; protected = [] })
fresh_filled {I} {S} {D} i s d =
    agree_same {I = λ _. None} {S = λ _. None} {D = λ _. None} (fun_same _ _ (λ k. sym (i k))) (fun_same _ _ (λ k. sym (s k)))
    (fun_same _ _ (λ k. sym (d k))) refl
    (record {
      indexed = λ key slot g. absurd (cc (g));
      found = λ key slot g. absurd (cc (g));
      listed = λ n. refl;
      weighed = refl;
      timed = λ n. refl;
    })

-- what is alive is what was, while others leave
pub record IsExpiring (moment : ℕ) (first now : Held) : Type 0 where
  pub limits : now.limits ≡ first.limits
  pub alive : filtered (lives moment) now.areas ≡ filtered (lives moment) first.areas
  pub slots : (n : ℕ) (e : Entry) → slice_index_or first.slots n None ≡ Some e → lives moment e ≡ true
      → slice_index_or now.slots n None ≡ Some e
  pub room : first.has_room ≡ true → now.has_room ≡ true

-- a write of what is there already
pub put_same : (S : ℕ → Option Entry) (v : ℕ) (e : Entry) → S v ≡ Some e → (k : ℕ) → S k ≡ set_at v (Some e) S k
put_same S v e at k = go (k == v) refl
  where
    go : (b : Bool) → (k == v) ≡ b → S k ≡ cond b (Some e) (S k)
    go true t = ap S (eqb-true k v t) ∙ at
    go false t = refl

pub time_same : (S : ℕ → Option Entry) (D : ℕ → Option ℕ) (v : ℕ) (e : Entry) → S v ≡ Some e → ((k : ℕ) → D k ≡ wheel_due (S k))
    → (k : ℕ) → D k ≡ set_at v (due_by e.item.due) D k
time_same S D v e at timed k = go (k == v) refl
  where
    go : (b : Bool) → (k == v) ≡ b → D k ≡ cond b (due_by e.item.due) (D k)
    go true t = timed k ∙ ap wheel_due (ap S (eqb-true k v t) ∙ at)
    go false t = refl

-- what is alive keeps its slot where one that is not leaves
pub alive_stays : (m v : ℕ) (d : Entry) (xs ys : List (Option Entry)) → slice_index_or xs v None ≡ Some d → lives m d ≡ false
    → ((k : ℕ) → slice_index_or ys k None ≡ set_at v None (λ k. slice_index_or xs k None) k)
    → (n : ℕ) (e : Entry) → slice_index_or xs n None ≡ Some e → lives m e ≡ true → slice_index_or ys n None ≡ Some e
alive_stays m v d xs ys at dead f n e here alive = f n ∙ go (n == v) refl
  where
    go : (b : Bool) → (n == v) ≡ b → cond b None (slice_index_or xs n None) ≡ Some e
    go true t =
        let same : d ≡ e = some_same d e (sym at ∙ ap (λ k. slice_index_or xs k None) (sym (eqb-true n v t)) ∙ here) in
        absurd (cc (dead, alive, ap (lives m) same))
    go false t = here
