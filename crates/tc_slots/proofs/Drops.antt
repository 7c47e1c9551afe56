-- What a step of settle makes of index, entries, lists and wheel as they are kept.
use Rattle.std.specs.Prelude.{is_some, IsSome}
use Rattle.std.proofs.Common.{◌≡◌, ℕ, length, ◌^◌, ◌<◌, true, false, [], ◌∷◌, Some, None, sym, ◌∙◌, ap, arith}
use Rattle.tc_index.specs.Tags.{Tagged}
use Rattle.slab.specs.Slab.{Slab, get as slab_get}
use Rattle.tc_item.specs.declared.slot.Slot.{Slot}
use Rattle.tc_model.specs.Areas.{Settled, settle, and_then}
use Rattle.tc_plain.specs.declared.shared.entry.Entry.{Entry}
use Rattle.tc_plain.specs.Entries.{weight}
use Rattle.tc_plain.specs.AreaLists.{frequency_in}
use Rattle.tc_stats.specs.UserCounters.{more}
use Rattle.tc_sketch.specs.Sketch.{Sketch}
use Rattle.tc_slru.specs.Slots.{Placed, placed, weigh}
use Rattle.tc_slru.specs.SlotLists.{SlotLists, DropsNext}
use Rattle.tc_wheel.specs.Dues.{Dues, due_at, removed as untimed_at}
use Rattle.tc_slots.specs.Agreement.{slot_of, Agree}
use Rattle.tc_plain.specs.BySlot.{areas_by}
use Rattle.tc_slots.specs.Held.{Held, seen_by, IsVacated, DropsEntry}
use Rattle.tc_slots.proofs.OneSlot.{IsLess}
use Rattle.tc_slots.proofs.Filling.{gone_from}
use Rattle.tc_slots.proofs.Settled.{dropped_less, dropped_held, kept_same, reordered, settle_drops, settle_ends}
use Rattle.tc_slots.proofs.Moves.{fun_same, slots_less}

module _ (i : Tagged) (s : Slab Entry) (l : SlotLists) (w : Dues)
    (h : Agree (slot_of s.slots) (slab_get s) (due_at w.dues) l.areas) (sketch : Sketch) (m : SlotLists)
    (kept : m ≡ record l { areas = m.areas }) where
  limits_kept : m.limits ≡ l.limits
  limits_kept = ap (λ (z : SlotLists). z.limits) kept

  abbrev seen : Placed → ℕ
  seen p = seen_by sketch (slab_get s) p.slot

  module _ (v : Slot) (next : DropsNext (Some v) (seen_by sketch (slab_get s)) l m) where
    drops : settle weigh seen l.limits l.areas ≡ and_then (placed v.0 next.0 ∷ []) (settle weigh seen l.limits m.areas)
    drops = next.1 ∙ ap (λ k. and_then (placed v.0 next.0 ∷ []) (settle weigh seen k m.areas)) limits_kept

    pub drop_less : IsLess v.0 l.areas m.areas
    drop_less = dropped_less seen l.limits v.0 next.0 l.areas m.areas drops

    pub drop_one : (e : Entry) × (slab_get s v.0 ≡ Some e)
    drop_one = dropped_held (slot_of s.slots) (slab_get s) (due_at w.dues) l.areas h v.0 m.areas drop_less

    pub drop_held : IsSome (slab_get s v.0)
    drop_held = ap is_some drop_one.1

    module _ (j : Tagged) (t : Slab Entry) (x : Dues) (gone : IsVacated drop_one.0 v.0 i j s t)
        (ex : x ≡ untimed_at v.0 w) where
      pub drop_filled : Agree (slot_of t.slots) (slab_get t) (due_at x.dues) m.areas
      drop_filled = slots_less i s l w h drop_one.0 v j t drop_one.1 gone m.areas x drop_less ex

      pub drop_entry : (e : Entry)
          × (settle weight (frequency_in sketch) l.limits (areas_by (slab_get s) l.areas)
          ≡ and_then (e ∷ []) (settle weight (frequency_in sketch) m.limits (areas_by (slab_get t) m.areas)))
      drop_entry = (
        drop_one.0,
        settle_drops (slot_of s.slots) (slab_get s) (due_at w.dues) l.areas h sketch l.limits v.0 next.0 m.areas drops
            drop_one.0 drop_one.1
            (gone_from (slot_of s.slots) (slab_get s) (due_at w.dues) l.areas h drop_one.0 v drop_one.1 m.areas drop_less)
            ∙ ap (λ S. and_then (drop_one.0 ∷ []) (settle weight (frequency_in sketch) l.limits (areas_by S m.areas)))
            (sym (fun_same _ _ gone.entries))
            ∙ ap (λ k. and_then (drop_one.0 ∷ []) (settle weight (frequency_in sketch) k (areas_by (slab_get t) m.areas)))
            (sym limits_kept),
      )

  module _ (ends : DropsNext None (seen_by sketch (slab_get s)) l m) where
    pub end_filled : Agree (slot_of s.slots) (slab_get s) (due_at w.dues) m.areas
    end_filled =
        reordered (slot_of s.slots) (slab_get s) (due_at w.dues) l.areas h m.areas
        (kept_same seen l.limits l.areas m.areas ends)

    pub end_entries : settle weight (frequency_in sketch) l.limits (areas_by (slab_get s) l.areas)
        ≡ record { areas = areas_by (slab_get s) m.areas; dropped = [] }
    end_entries = settle_ends (slot_of s.slots) (slab_get s) (due_at w.dues) l.areas h sketch l.limits m.areas ends

-- settle goes on from here, and so many were counted
pub record IsSettling (s : Sketch) (first now : Held) (m n : ℕ) : Type 0 where
  pub limits : now.limits ≡ first.limits
  pub areas : (settle weight (frequency_in s) now.limits now.areas).areas
      ≡ (settle weight (frequency_in s) first.limits first.areas).areas
  pub counted : more n (length (settle weight (frequency_in s) now.limits now.areas).dropped)
      ≡ more m (length (settle weight (frequency_in s) first.limits first.areas).dropped)
  pub room : first.has_room ≡ true → now.has_room ≡ true
  pub small : n < 2 ^ 64

pub settling_ends : (s : Sketch) (first now next : Held) (m n : ℕ) → IsSettling s first now m n → DropsEntry false s now next
    → (next.areas ≡ (settle weight (frequency_in s) first.limits first.areas).areas)
    × (n ≡ more m (length (settle weight (frequency_in s) first.limits first.areas).dropped))
settling_ends s first now next m n h d =
    let none : length (settle weight (frequency_in s) now.limits now.areas).dropped ≡ 0 =
    ap (λ (z : Settled Entry). length z.dropped) d in
    (sym (ap (λ (z : Settled Entry). z.areas) d) ∙ h.areas, omega (arith, h.counted, none, h.small))
