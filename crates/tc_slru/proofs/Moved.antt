-- A slot moves to the front of a list, maybe its own.
use Rattle.std.specs.Prelude.{Some, None}
use Rattle.std.proofs.Common.{◌≡◌, ℕ, ◌+◌, ◌<◌, ◌≤◌, true, refl, sym, ◌∙◌, ap, subst, arith}
use Rattle.std.proofs.lemmas.List.{set-set}
use Rattle.tc_model.specs.Areas.{Areas, total}
use Rattle.tc_ring.specs.Links as ring
use Rattle.tc_slru.specs.Links.{Links, links_of}
use Rattle.tc_slru.specs.Sizes.{size_in, sizes_with, sizes_without}
use Rattle.tc_slru.specs.Slots.{Shown, placed, weigh, holds, taken_out}
use Rattle.tc_slru.specs.InAreas.{put_in, fronted_in, mark_of}
use Rattle.tc_slru.specs.Kept.{placed_areas, nodes_by, shown_by, AreNodes}
use Rattle.tc_slru.specs.declared.area.Area.{Area}
use Rattle.tc_slru.specs.declared.area.Area.TheVariants.{Window, Probation, Protected}
use Rattle.tc_slru.specs.declared.area.Sizes.{Sizes}
use Rattle.tc_slru.specs.declared.nodes.SlotNote.{SlotNote}
use Rattle.tc_slru.proofs.Gone.{holds-without_slot}
use Rattle.tc_slru.proofs.Notes.{IsNoted}
use Rattle.tc_slru.proofs.Put.{put_by}
use Rattle.tc_slru.proofs.Taken.{IsTaken, taken_by}

-- what is noted of a slot that came to a list
abbrev pub note_in : Area → ℕ → SlotNote
note_in area w = record { weight = w; area = Some area }

-- what is noted of a slot that left its list
abbrev pub note_out : SlotNote → SlotNote
note_out n = record { weight = n.weight; area = None }

-- a node is noted as in no list on the way
pub taken_on : (from : Area) (r : ring.Links SlotNote) (s : Sizes) (slot at : ℕ) (note : SlotNote) → at ≡ slot + 3
    → IsNoted note at r → Some from ≡ note.area → holds slot (shown_by (links_of r) s).areas ≡ true
    → AreNodes (links_of r) s (nodes_by r.next s)
    → IsTaken slot (links_of r) s (links_of (ring.noted at (note_out note) (ring.unlinked at r))) (sizes_without from note.weight s)
taken_on from r s slot at note e_at e_note e_from held k =
    taken_by r s slot at note from (ring.unlinked at r) _ _ e_at e_note e_from refl refl refl held k

-- the kept lists and the shown ones
pub record IsMoved (area : Area) (slot w : ℕ) (r : ring.Links SlotNote) (s : Sizes) (m : ring.Links SlotNote) (t : Sizes)
    : Type 0 where
  pub nodes : AreNodes (links_of m) t (nodes_by m.next t)
  pub shows : shown_by (links_of m) t ≡ put_in area (placed slot w) (taken_out slot (shown_by (links_of r) s))

pub moved_by : (from area : Area) (r : ring.Links SlotNote) (s : Sizes) (slot at mark w : ℕ) (note : SlotNote)
    (m : ring.Links SlotNote) (t : Sizes) → at ≡ slot + 3 → mark ≡ mark_of area → IsNoted note at r → Some from ≡ note.area
    → m ≡ ring.noted at (note_in area w) (ring.linked_behind mark at (ring.unlinked at r))
    → t ≡ sizes_with area w (sizes_without from note.weight s) → slot < (shown_by (links_of r) s).slots
    → holds slot (shown_by (links_of r) s).areas ≡ true → AreNodes (links_of r) s (nodes_by r.next s)
    → IsMoved area slot w r s m t
moved_by from area r s slot at mark w note m t e_at e_mark e_note e_from e_m e_t within held k =
    let cut : ring.Links SlotNote = ring.unlinked at r in
    let out : ring.Links SlotNote = ring.noted at (note_out note) cut in
    let less : Sizes = sizes_without from note.weight s in
    let taken : IsTaken slot (links_of r) s (links_of out) less = taken_on from r s slot at note e_at e_note e_from held k in
    let same : m ≡ ring.linked_behind mark at (ring.noted at (note_in area w) out) =
    e_m
    ∙ ap (λ ns. (let l : ring.Links SlotNote = record (ring.linked_behind mark at cut) { notes = ns } in l))
    (sym (set-set r.notes at (note_out note) (note_in area w))) in
    let p = put_by area out less slot w at mark (ring.noted at (note_in area w) out) m t e_at e_mark refl same e_t
    (subst (λ (v : Shown). slot < v.slots) (sym taken.shows) within)
    (ap (λ (v : Shown). holds slot v.areas) taken.shows ∙ holds-without_slot slot (shown_by (links_of r) s).areas)
    taken.nodes in
    record {
      nodes = p.nodes;
      shows =
          p.shows
          ∙ ap (λ (v : Shown). (let u : Shown = record v { areas = fronted_in area (placed slot w) v.areas } in u)) taken.shows;
    }

-- one list weighs no more than all
pub size_least : (area : Area) (l : Links) (s : Sizes) (a : Areas ℕ) → AreNodes l s a
    → (size_in area s).weight ≤ total weigh (placed_areas l.weights a)
size_least Window l s a k = omega (arith, k.window.weight)
size_least Probation l s a k = omega (arith, k.probation.weight)
size_least Protected l s a k = omega (arith, k.protected.weight)
