-- What clearing makes of index, entries, lists and wheel as they are kept.
use Rattle.std.specs.Prelude.{is_some, count_by, slice_index_or, replicate}
use Rattle.std.proofs.Common.{◌≡◌, ℕ, zero, suc, true, false}
use Rattle.std.proofs.Common.{[], length, None, refl, sym, ◌∙◌, ap, subst, arith}
use Rattle.std.proofs.lemmas.List.{length-replicate}
use Rattle.slab.specs.Slab.{Slab, get as slab_get, slab_len}
use Rattle.tc_plain.specs.declared.shared.entry.Entry.{Entry}
use Rattle.tc_plain.specs.EvictionState.{no_entries}
use Rattle.tc_slru.specs.SlotLists.{SlotLists, cleared}
use Rattle.tc_wheel.specs.Dues.{Dues, due_at, cleared as untimed}
use Rattle.tc_slots.specs.Agreement.{slot_of, Agree}
use Rattle.tc_plain.specs.BySlot.{areas_by}
use Rattle.tc_slots.specs.Held.{room_in, often_by, AreWithin, AreTagged}
use Rattle.tc_index.specs.Tags.{Tagged, stands}
use Rattle.std.specs.declared.hash.RandomState.{RandomState}
use Rattle.tc_slots.proofs.Kept.{fresh_filled}
use Rattle.tc_slots.proofs.Moves.{room_parts, room_whole}

due_at-none : (n i : ℕ) → due_at (replicate n None) i ≡ None
due_at-none zero i = refl
due_at-none (suc n) zero = refl
due_at-none (suc n) (suc i) = due_at-none n i

-- no slot stands where none holds anything
pub tags_cleared : (hasher : RandomState) (j : Tagged) (t : Slab Entry) → ((tag n : ℕ) → stands j tag n ≡ 0) → t.slots ≡ []
    → AreTagged hasher j (slab_get t)
tags_cleared hasher j t none slots =
    λ tag n. none tag n ∙ sym (ap (λ ss. often_by hasher tag (slice_index_or ss n None)) slots)

module _ (j : Tagged) (t : Slab Entry) (l m : SlotLists) (w x : Dues) (slots : t.slots ≡ [])
    (em : m ≡ cleared l) (ex : x ≡ untimed w) where
  pub slots_cleared : Agree (slot_of t.slots) (slab_get t) (due_at x.dues) m.areas
  slots_cleared =
      subst (λ (z : SlotLists). Agree (slot_of t.slots) (slab_get t) (due_at x.dues) z.areas) (sym em)
      (fresh_filled (λ key. ap (λ ss. slot_of ss key) slots) (λ n. ap (λ ss. slice_index_or ss n None) slots)
      (λ n. ap (λ (z : Dues). due_at z.dues n) ex ∙ due_at-none (length w.dues) n))

  pub slots_cleared_areas : areas_by (slab_get t) m.areas ≡ no_entries
  slots_cleared_areas = ap (λ (z : SlotLists). areas_by (slab_get t) z.areas) em

  pub within_cleared : (n : ℕ) → AreWithin n (slab_get t)
  within_cleared n =
      λ k held. absurd (let none : is_some (slab_get t k) ≡ false = ap (λ ss. is_some (slice_index_or ss k None)) slots in
      cc (none, held))

  -- the room stays
  pub room_cleared : (i : Tagged) (s : Slab Entry) → (i.has_room ≡ true → j.has_room ≡ true) → j.slots ≡ i.slots
      → t.capacity ≡ s.capacity → room_in i s l w ≡ true → room_in j t m x ≡ true
  room_cleared i s room numbers capacity h =
      let r = room_parts i s l w h in
      let long : length x.dues ≡ length w.dues = ap (λ (z : Dues). length z.dues) ex ∙ length-replicate (length w.dues) None in
      let none : slab_len t ≡ 0 = ap (λ ss. count_by is_some ss) slots in
      let places : m.slots ≡ l.slots = ap (λ (z : SlotLists). z.slots) em in
      room_whole j t m x (record {
        index = room r.index;
        numbers = omega (arith, r.numbers, numbers, capacity);
        entries = omega (arith, r.entries, none, capacity);
        lists = omega (arith, r.lists, places, capacity);
        wheel = omega (arith, r.wheel, long, capacity);
      })
