-- What filling and emptying make of index, entries, lists and wheel as they are kept.
use Rattle.std.specs.Prelude.{◌==◌, map, sum_by, is_some, IsSome, slice_index_or, slice_set}
use Rattle.std.proofs.Common.{◌≡◌, ℕ, zero, suc, ◌+◌, ◌<◌, Bool, true, false, cond, List, [], ◌∷◌, length, Option, Some}
use Rattle.std.proofs.Common.{None, refl, sym, ◌∙◌, ap, subst, arith, eq-eqb}
use Rattle.std.proofs.lemmas.Bool.{eqb-true, eqb-false}
use Rattle.std.proofs.lemmas.Bool.Decides.{nat_tests}
use Rattle.std.proofs.lemmas.List.{get_or-set_same, get_or-set_other}
use Rattle.std.proofs.Math.ListN.{length-set}
use Rattle.std.proofs.lemmas.List.Sums.{sum_by-cons}
use Rattle.slab.specs.Slab.{Slab, get as slab_get}
use Rattle.tc_item.specs.declared.slot.Slot.{Slot}
use Rattle.tc_model.specs.Areas.{Areas, total}
use Rattle.tc_plain.specs.declared.shared.entry.Entry.{Entry}
use Rattle.tc_plain.specs.Entries.{weight}
use Rattle.tc_plain.specs.EvictionState.{held}
use Rattle.tc_plain.specs.Placing.{without_key}
use Rattle.tc_slru.specs.Slots.{Placed, weigh, holds, without_slot}
use Rattle.tc_slru.specs.SlotLists.{SlotLists, pushed, removed}
use Rattle.tc_slru.specs.InAreas.{fronted_in}
use Rattle.tc_slru.specs.declared.area.Area.{Area}
use Rattle.tc_wheel.specs.Dues.{Dues, due_at, removed as untimed_at}
use Rattle.tc_slots.specs.Agreement.{set_at, key_of, is_of, due_by, slot_of, tag_of, Agree}
use Rattle.tc_index.specs.Tags.{Tagged, is_first, stands, FindsRight}
use Rattle.std.specs.Prelude.{option_map}
use Rattle.std.specs.declared.hash.RandomState.{RandomState}
use Rattle.tc_slots.proofs.Tagged.{agree_slots, of_key, key_is_of}
use Rattle.tc_plain.specs.BySlot.{stray, stray_by, entry_at, entry_or, areas_by}
use Rattle.tc_slots.specs.Held.{Held, room_in, HasRoom, IsVacated, IsTaken}
use Rattle.tc_slots.specs.Held.{IsFound, FindsSlot, AreWithin, AreTagged}
use Rattle.tc_slots.proofs.Away.{not_held}
use Rattle.tc_slots.proofs.OneSlot.{IsLess, without_slot_less, is_held}
use Rattle.tc_slots.proofs.Filling.{some_same, agree_filled, filled_areas, none_at, agree_emptied, emptied_areas}
use Rattle.tc_slots.proofs.Filling.{once_at}
use Rattle.tc_slots.proofs.Looked.{held_filled, held_emptied, without_unheld}

pub fun_same : {A B : Type 0} (f g : A → B) → ((x : A) → f x ≡ g x) → f ≡ g
fun_same f g h = λ i x. h x i

pub agree_same : {I J : List ℕ → Option Slot} {S T : ℕ → Option Entry} {D E : ℕ → Option ℕ} {a b : Areas Placed} → I ≡ J → S ≡ T
    → D ≡ E → a ≡ b → Agree I S D a → Agree J T E b
agree_same {I} {J} {S} {T} {D} {E} {a} {b} p q r s h =
    subst (λ z. Agree J T E z) s (subst (λ z. Agree J T z a) r (subst (λ z. Agree J z D a) q (subst (λ z. Agree z S D a) p h)))

-- a write to the wheel

pub due_written : (dues : List (Option ℕ)) (v : ℕ) (o : Option ℕ) → v < length dues → (n : ℕ)
    → due_at (slice_set dues v o) n ≡ set_at v o (due_at dues) n
due_written dues v o l n = go (n == v) refl
  where
    go : (b : Bool) → (n == v) ≡ b → due_at (slice_set dues v o) n ≡ cond b o (due_at dues n)
    go true e = ap (due_at (slice_set dues v o)) (eqb-true n v e) ∙ get_or-set_same dues v o None l
    go false e = get_or-set_other dues v n o None (eqb-false n v e)

pub slot_cleared : {A : Type 0} (xs : List (Option A)) (v n : ℕ)
    → slice_index_or (slice_set xs v None) n None ≡ cond (n == v) None (slice_index_or xs n None)
slot_cleared {A} xs v n = go (n == v) refl
  where
    clear : (xs : List (Option A)) (i : ℕ) → slice_index_or (slice_set xs i None) i None ≡ None
    clear [] i = refl
    clear (x ∷ xs) zero = refl
    clear (x ∷ xs) (suc i) = clear xs i

    go : (b : Bool) → (n == v) ≡ b → slice_index_or (slice_set xs v None) n None ≡ cond b None (slice_index_or xs n None)
    go true e = ap (λ k. slice_index_or (slice_set xs v None) k None) (eqb-true n v e) ∙ clear xs v
    go false e = get_or-set_other xs v n None None (eqb-false n v e)

pub due_cleared : (dues : List (Option ℕ)) (v n : ℕ) → due_at (slice_set dues v None) n ≡ set_at v None (due_at dues) n
due_cleared dues v n = slot_cleared dues v n

-- weights by place are weights by entry

pub weighs_own : (S : ℕ → Option Entry) (p : Placed) → stray S p ≡ 0 → weigh p ≡ weight (entry_at S p)
weighs_own S p k = go (S p.slot) k
  where
    go : (o : Option Entry) → stray_by p.weight o ≡ 0 → p.weight ≡ weight (entry_or o)
    go None k = absurd (omega (arith, k))
    go (Some d) k = at (weight d == p.weight) refl k
      where
        at : (b : Bool) → (weight d == p.weight) ≡ b → cond {A = ℕ} b 0 1 ≡ 0 → p.weight ≡ weight d
        at true e j = sym (eqb-true (weight d) p.weight e)
        at false e j = absurd (omega (arith, j))

sum_weighs : (S : ℕ → Option Entry) (ps : List Placed) → sum_by (stray S) ps ≡ 0
    → sum_by weigh ps ≡ sum_by weight (map (entry_at S) ps)
sum_weighs S [] k = refl
sum_weighs S (p ∷ ps) k =
    let split = sum_by-cons (stray S) p ps in
    sum_by-cons weigh p ps
    ∙ ap (λ t. t + sum_by weigh ps) (weighs_own S p (omega (arith, k, split)))
    ∙ ap (λ t. weight (entry_at S p) + t) (sum_weighs S ps (omega (arith, k, split)))
    ∙ sym (sum_by-cons weight (entry_at S p) (map (entry_at S) ps))

pub total_weighs : (S : ℕ → Option Entry) (a : Areas Placed) → total (stray S) a ≡ 0 → total weigh a ≡ total weight (areas_by S a)
total_weighs S a k =
    omega (
      arith,
      sum_weighs S a.window (omega (arith, k)),
      sum_weighs S a.probation (omega (arith, k)),
      sum_weighs S a.protected (omega (arith, k)),
    )

-- what room is

pub room_parts : (i : Tagged) (s : Slab Entry) (l : SlotLists) (w : Dues)
    → room_in i s l w ≡ true → HasRoom i s l w
room_parts i s l w h = record {
  index = grind (arith, nat_tests);
  numbers = grind (arith, nat_tests);
  entries = grind (arith, nat_tests);
  lists = grind (arith, nat_tests);
  wheel = grind (arith, nat_tests);
}

pub room_whole : (i : Tagged) (s : Slab Entry) (l : SlotLists) (w : Dues) → HasRoom i s l w
    → room_in i s l w ≡ true
room_whole i s l w h = grind (arith, nat_tests, h.index, h.numbers, h.entries, h.lists, h.wheel)

module _ (i : Tagged) (s : Slab Entry) (l : SlotLists) (w : Dues)
    (h : Agree (slot_of s.slots) (slab_get s) (due_at w.dues) l.areas) where
  -- a key that holds nothing is not in the index
  pub index_free : (key : List ℕ) → held key (areas_by (slab_get s) l.areas) ≡ None → slot_of s.slots key ≡ None
  index_free key none = go (slot_of s.slots key) refl
    where
      at : (v : Slot) (o : Option Entry) → slab_get s v.0 ≡ o → key_of o ≡ Some key → slot_of s.slots key ≡ None
      at v None e k = absurd (cc)
      at v (Some d) e k =
          let own : d.key ≡ key = cc in
          let here : held key (areas_by (slab_get s) l.areas) ≡ Some d =
          ap (λ q. held q (areas_by (slab_get s) l.areas)) (sym own)
          ∙ held_filled (slot_of s.slots) (slab_get s) (due_at w.dues) l.areas h d v e in
          absurd (cc (none, here))

      go : (o : Option Slot) → slot_of s.slots key ≡ o → slot_of s.slots key ≡ None
      go None e = e
      go (Some v) e = at v (slab_get s v.0) refl (h.indexed key v e)

  module _ (e : Entry) (v : Slot) (j : Tagged) (t : Slab Entry) where
    module _ {hasher : RandomState} (taken : IsTaken hasher e v.0 i j s t)
        (free : held e.key (areas_by (slab_get s) l.areas) ≡ None) where
      pub fill_free : holds v.0 l.areas ≡ false
      fill_free =
          not_held v.0 l.areas
          (none_at (slot_of s.slots) (slab_get s) (due_at w.dues) l.areas h e v taken.vacant (index_free e.key free))

      pub slots_filled : (area : Area) (m : SlotLists) (x : Dues) (n : ℕ) → n ≡ weight e → m ≡ pushed area v.0 n l
          → ((k : ℕ) → due_at x.dues k ≡ set_at v.0 (due_by e.item.due) (due_at w.dues) k)
          → Agree (slot_of t.slots) (slab_get t) (due_at x.dues) m.areas
      slots_filled area m x n en em ex =
          agree_slots t (agree_same refl (fun_same _ _ (λ k. sym (taken.entries k)))
          (fun_same _ _ (λ k. sym (ex k))) (ap (λ (z : SlotLists). z.areas) (sym em))
          (agree_filled (slot_of s.slots) (slab_get s) (due_at w.dues) l.areas h e v taken.vacant
          (index_free e.key free) area n en))

      pub slots_filled_areas : (area : Area) (m : SlotLists) (n : ℕ) → m ≡ pushed area v.0 n l
          → areas_by (slab_get t) m.areas ≡ fronted_in area e (areas_by (slab_get s) l.areas)
      slots_filled_areas area m n em =
          ap (λ S. areas_by S m.areas) (fun_same _ _ taken.entries)
          ∙ ap (λ (z : SlotLists). areas_by (set_at v.0 (Some e) (slab_get s)) z.areas) em
          ∙ filled_areas (slot_of s.slots) (slab_get s) (due_at w.dues) l.areas h e v taken.vacant (index_free e.key free) area n

    pub holds_entry : slab_get s v.0 ≡ Some e → holds v.0 l.areas ≡ true
    holds_entry at = is_held v.0 l.areas (once_at (slot_of s.slots) (slab_get s) (due_at w.dues) l.areas h e v at)

    module _ (at : slab_get s v.0 ≡ Some e) (gone : IsVacated e v.0 i j s t) where
      pub slots_less : (b : Areas Placed) (x : Dues) → IsLess v.0 l.areas b → x ≡ untimed_at v.0 w
          → Agree (slot_of t.slots) (slab_get t) (due_at x.dues) b
      slots_less b x less ex =
          agree_slots t (agree_same refl (fun_same _ _ (λ k. sym (gone.entries k)))
          (fun_same _ _ (λ k. sym (ap (λ (z : Dues). due_at z.dues k) ex ∙ due_cleared w.dues v.0 k))) refl
          (agree_emptied (slot_of s.slots) (slab_get s) (due_at w.dues) l.areas h e v at b less))

      pub slots_emptied : (m : SlotLists) (x : Dues) → m ≡ removed v.0 l → x ≡ untimed_at v.0 w
          → Agree (slot_of t.slots) (slab_get t) (due_at x.dues) m.areas
      slots_emptied m x em ex =
          let once = once_at (slot_of s.slots) (slab_get s) (due_at w.dues) l.areas h e v at in
          subst (λ (z : SlotLists). Agree (slot_of t.slots) (slab_get t) (due_at x.dues) z.areas) (sym em)
          (slots_less (without_slot v.0 l.areas) x (without_slot_less v.0 l.areas once) ex)

      pub slots_emptied_areas : (m : SlotLists) → m ≡ removed v.0 l
          → areas_by (slab_get t) m.areas ≡ without_key e.key (areas_by (slab_get s) l.areas)
      slots_emptied_areas m em =
          ap (λ S. areas_by S m.areas) (fun_same _ _ gone.entries)
          ∙ ap (λ (z : SlotLists). areas_by (set_at v.0 None (slab_get s)) z.areas) em
          ∙ emptied_areas (slot_of s.slots) (slab_get s) (due_at w.dues) l.areas h e v at

-- what a slot holds that holds something
pub entry_of : (o : Option Entry) → IsSome o → (e : Entry) × (o ≡ Some e)
entry_of None h = absurd (cc (h))
entry_of (Some e) h = (e, refl)

-- room stays where an entry leaves
pub room_vacated : (e : Entry) (v : ℕ) (i j : Tagged) (s t : Slab Entry) (l m : SlotLists)
    (w x : Dues)
    → IsVacated e v i j s t → m.slots ≡ l.slots → x ≡ untimed_at v w
    → room_in i s l w ≡ true → room_in j t m x ≡ true
room_vacated e v i j s t l m w x gone em ex h =
    let r = room_parts i s l w h in
    let long : length x.dues ≡ length w.dues = ap (λ (z : Dues). length z.dues) ex ∙ length-set w.dues v None in
    room_whole j t m x (record {
      index = gone.room r.index;
      numbers = omega (arith, r.numbers, gone.numbers, gone.capacity);
      entries = omega (arith, r.entries, gone.fewer, gone.capacity);
      lists = omega (arith, r.lists, em, gone.capacity);
      wheel = omega (arith, r.wheel, long, gone.capacity);
    })

module _ (i : Tagged) (s : Slab Entry) (l : SlotLists) (w : Dues)
    (h : Agree (slot_of s.slots) (slab_get s) (due_at w.dues) l.areas) where
  abbrev shown : Held
  shown = record {
    limits = l.limits;
    areas = areas_by (slab_get s) l.areas;
    slots = s.slots;
    has_room = room_in i s l w;
  }

  -- where the index leads
  pub slots_found : (key : List ℕ) (v : Slot) → slot_of s.slots key ≡ Some v → IsFound key v.0 shown
  slots_found key v at = go (slab_get s v.0) refl (h.indexed key v at)
    where
      go : (o : Option Entry) → slab_get s v.0 ≡ o → key_of o ≡ Some key → IsFound key v.0 shown
      go None e k = absurd (cc)
      go (Some d) e k =
          let own : d.key ≡ key = some_same d.key key k in
          let there : held key (areas_by (slab_get s) l.areas) ≡ Some d =
          ap (λ q. held q (areas_by (slab_get s) l.areas)) (sym own)
          ∙ held_filled (slot_of s.slots) (slab_get s) (due_at w.dues) l.areas h d v e in
          record { entry = d; at = e; own = own; held = there }

  pub slots_missed : (key : List ℕ) → slot_of s.slots key ≡ None → FindsSlot None key shown
  slots_missed key none = (
    held_emptied (slot_of s.slots) (slab_get s) (due_at w.dues) l.areas h key none,
    without_unheld (slot_of s.slots) (slab_get s) (due_at w.dues) l.areas h key none,
  )

  -- what is found under the tag of a key
  pub slots_sought : (hasher : RandomState) (key : List ℕ) → AreTagged hasher i (slab_get s) → (o : Option Slot) (tag : ℕ)
      → tag ≡ tag_of hasher key → FindsRight o tag (λ n. is_of key (slab_get s n)) i → FindsSlot o key shown
  slots_sought hasher key tagged (Some v) tag own f = slots_found key v (h.found key v (of_key (slab_get s v.0) key f.1))
  slots_sought hasher key tagged None tag own f = slots_missed key (go (slot_of s.slots key) refl)
    where
      go : (o : Option Slot) → slot_of s.slots key ≡ o → slot_of s.slots key ≡ None
      go None e = e
      go (Some v) e =
          let here : key_of (slab_get s v.0) ≡ Some key = h.indexed key v e in
          let once : 0 < stands i tag v.0 =
          omega (
            arith,
            tagged tag v.0,
            ap (λ o. cond {A = ℕ} (is_first (option_map (tag_of hasher) o) tag) 1 0) here,
            ap (λ b. cond {A = ℕ} b 1 0) (eq-eqb (tag_of hasher key) tag (sym own)),
          ) in
          absurd (cc (f v.0 once, key_is_of (slab_get s v.0) key here))

-- the slots that hold entries stay below a number

pub within_taken : (n v : ℕ) (e : Entry) (S T : ℕ → Option Entry) → v < n → ((k : ℕ) → T k ≡ set_at v (Some e) S k)
    → AreWithin n S → AreWithin n T
within_taken n v e S T l f h = λ k g. go k (k == v) refl (sym (ap is_some (f k)) ∙ g)
  where
    go : (k : ℕ) (b : Bool) → (k == v) ≡ b → is_some (cond b (Some e) (S k)) ≡ true → k < n
    go k true t g = omega (arith, eqb-true k v t, l)
    go k false t g = h k g

pub within_vacated : (n v : ℕ) (S T : ℕ → Option Entry) → ((k : ℕ) → T k ≡ set_at v None S k) → AreWithin n S → AreWithin n T
within_vacated n v S T f h = λ k g. go k (k == v) (sym (ap is_some (f k)) ∙ g)
  where
    go : (k : ℕ) (b : Bool) → is_some (cond b None (S k)) ≡ true → k < n
    go k true g = absurd (cc)
    go k false g = h k g

pub long_cleared : (w x : Dues) (v : ℕ) → x ≡ untimed_at v w → length x.dues ≡ length w.dues
long_cleared w x v ex = ap (λ (z : Dues). length z.dues) ex ∙ length-set w.dues v None
