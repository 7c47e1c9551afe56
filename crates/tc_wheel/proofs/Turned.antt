-- The wheel as callers see it, by the steps of the code.
use Rattle.std.specs.Prelude.{Option, None, Some, is_some, nat_le, max, cond, Result, Ok, Err, OnErr, ◌-◌, ◌%◌, slice_set}
use Rattle.std.specs.Prelude.{replicate, map, if◌then◌else◌}
use Rattle.std.proofs.Common.{◌≡◌, ℕ, zero, suc, ◌+◌, ◌<◌, ◌≤◌, Bool, true, false, List, [], ◌∷◌, ◌++◌, length, refl, sym, ◌∙◌}
use Rattle.std.proofs.Common.{ap, subst, arith}
use Rattle.tc_item.specs.declared.no_memory.NoMemory.{NoMemory}
use Rattle.tc_model.specs.Ring.{HasPlace}
use Rattle.std.proofs.Math.ListN.{get_or-eq_default}
use Rattle.std.proofs.lemmas.Bool.{leb-true, leb-false}
use Rattle.tc_model.specs.Chains.{fronted, without_node}
use Rattle.tc_model.proofs.Chained.{mark_place}
use Rattle.tc_wheel.specs.Dues.{Dues, due_at, is_due, holds, no_dues, reserved, cleared, added, removed, advanced, Gives}
use Rattle.tc_ring.specs.Links.{AreMarks, linked_behind, unlinked}
use Rattle.tc_wheel.specs.Links.{Links, grown, noted, freed}
use Rattle.tc_wheel.specs.Kept.{list_of, IsSwept, IsNext}
use Rattle.tc_wheel.specs.Turning.{slot_dues}
use Rattle.tc_wheel.proofs.BehindMarks.{due_at-slot_dues, slot_dues-set, slot_dues-append, length-slot_dues}
use Rattle.tc_wheel.proofs.Listed.{chain_length}
use Rattle.tc_wheel.proofs.Held.{length-cut, held_place, behind_marks, kept_removed, kept_come, kept_later}
use Rattle.tc_wheel.proofs.Marked.{swept_grown, swept_alone}

-- what callers see of these nodes at a moment
abbrev pub shown : Links → ℕ → Dues
shown l moment = record { moment = moment; dues = slot_dues l.notes }

-- all marks have places
pub dues_long : (moment left : ℕ) (l : Links) → IsSwept 4096 moment left l → 4097 ≤ length l.notes
dues_long moment left l s = omega (arith, chain_length l.next l.prev s.lists s.kept.ring, s.kept.count, s.kept.dues_long)

pub room_of : {left : ℕ} (l : Links) (moment : ℕ) (w : Dues) (slots : ℕ) → shown l moment ≡ w → IsSwept 4096 moment left l
    → slots + 4097 ≡ length l.next → slots ≡ length w.dues
room_of l moment w slots e s long =
    let here : slots ≡ length (slot_dues l.notes) = omega (arith, length-slot_dues l.notes, s.kept.dues_long) in
    here ∙ ap (λ (v : Dues). length v.dues) e

-- nothing is held beyond the room
due_at-beyond : (dues : List (Option ℕ)) (n : ℕ) → length dues ≤ n → due_at dues n ≡ None
due_at-beyond dues n h = get_or-eq_default dues None h

pub beyond_held : {left : ℕ} (l : Links) (moment : ℕ) (w : Dues) (slot : ℕ) → shown l moment ≡ w → IsSwept 4096 moment left l
    → length l.next ≤ slot + 4097 → false ≡ holds slot w
beyond_held l moment w slot e s big =
    sym (ap is_some (due_at-slot_dues l.notes slot ∙ due_at-beyond l.notes (slot + 4097) (omega (arith, s.kept.dues_long))))
    ∙ ap (λ (v : Dues). holds slot v) e

pub some_held : (l : Links) (moment : ℕ) (w : Dues) (slot at : ℕ) (due : Option ℕ) (b : Bool) → shown l moment ≡ w
    → at ≡ slot + 4097 → due ≡ due_at l.notes at → b ≡ is_some due → b ≡ holds slot w
some_held l moment w slot at due b e ea ed eb =
    eb ∙ ap is_some (ed ∙ ap (λ n. due_at l.notes n) ea ∙ sym (due_at-slot_dues l.notes slot)) ∙ ap (λ (v : Dues). holds slot v) e

-- more room

pub refused_if : {left : ℕ} (r : Result Unit NoMemory) (slots : ℕ) (l : Links) (moment : ℕ) (w : Dues)
    → OnErr r (length l.next < slots + 4097) → shown l moment ≡ w → IsSwept 4096 moment left l → OnErr r (length w.dues < slots)
refused_if (Ok u) slots l moment w h v s = tt
refused_if (Err e) slots l moment w h v s =
    omega (arith, h, length-slot_dues l.notes, s.kept.dues_long, dues_long moment _ l s, ap (λ (x : Dues). length x.dues) v)

pub reserved_if : {left : ℕ} (b : Bool) (slots : ℕ) (l m : Links) (moment : ℕ) (w : Dues)
    → m ≡ (if b then grown (slots + 4097) l else l) → shown l moment ≡ w → IsSwept 4096 moment left l
    → IsSwept 4096 moment left m × (shown m moment ≡ (if b then reserved slots w else w))
reserved_if {left} false slots l m moment w e v s =
    (subst (λ (x : Links). IsSwept 4096 moment left x) (sym e) s, ap (λ (x : Links). shown x moment) e ∙ v)
reserved_if {left} true slots l m moment w e v s =
    let n : ℕ = slots + 4097 - length l.next in
    let more : n ≡ slots - length (slot_dues l.notes) =
    omega (arith, length-slot_dues l.notes, s.kept.dues_long, dues_long moment _ l s) in
    let dues : slot_dues (l.notes ++ replicate n None) ≡ slot_dues l.notes ++ replicate (slots - length (slot_dues l.notes)) None
    = slot_dues-append l.notes (replicate n None) (dues_long moment _ l s)
    ∙ ap (λ i. slot_dues l.notes ++ replicate i None) more in (
      subst (λ (x : Links). IsSwept 4096 moment left x) (sym e) (swept_grown 4096 moment _ (slots + 4097) l s),
      ap (λ (x : Links). shown x moment) e ∙ ap (λ ds. (let d : Dues = record { moment = moment; dues = ds } in d)) dues
          ∙ ap (λ (x : Dues). reserved slots x) v,
    )

-- a slot comes

held_free : (l : Links) (moment slot : ℕ) (w : Dues) → shown l moment ≡ w → holds slot w ≡ false
    → due_at l.notes (slot + 4097) ≡ None
held_free l moment slot w v h =
    none_of (due_at l.notes (slot + 4097))
    (ap is_some (sym (due_at-slot_dues l.notes slot)) ∙ ap (λ (x : Dues). holds slot x) v ∙ h)
  where
    none_of : (o : Option ℕ) → is_some o ≡ false → o ≡ None
    none_of None e = refl
    none_of (Some d) e = absurd (cc)

pub slot_within : {left : ℕ} (l : Links) (moment slot : ℕ) (w : Dues) → shown l moment ≡ w → slot < length w.dues
    → IsSwept 4096 moment left l → slot + 4097 < length l.next
slot_within l moment slot w v h s =
    omega (arith, h, length-slot_dues l.notes, s.kept.dues_long, ap (λ (x : Dues). length x.dues) v)

pub list_place : {left : ℕ} (moment due list : ℕ) (l : Links) → list ≡ list_of 4096 moment due → IsSwept 4096 moment left l
    → HasPlace l.next l.prev list
list_place moment due list l e s =
    mark_place l.next l.prev list s.lists (omega (arith, s.kept.count, small (nat_le due moment), e)) s.kept.ring
  where
    small : (b : Bool) → cond b 4096 (due % 4096) ≤ 4096
    small true = omega arith
    small false = omega arith

swept_added : (left moment due at : ℕ) (l : Links) → 4096 < at → at < length l.next → due_at l.notes at ≡ None
    → IsSwept 4096 moment left l → IsSwept 4096 moment left (linked_behind (list_of 4096 moment due) at (noted at due l))
swept_added left moment due at l big within none s = go (nat_le due moment) refl
  where
    go : (b : Bool) → nat_le due moment ≡ b
        → IsSwept 4096 moment left (linked_behind (cond b 4096 (due % 4096)) at (noted at due l))
    go true e = record {
      lists = fronted 4096 at s.lists;
      kept = kept_come 4096 moment _ l s.lists at due big within none (leb-true due moment e) s.kept;
    }
    go false e = record {
      lists = fronted (due % 4096) at s.lists;
      kept = kept_later 4096 moment _ l s.lists at due (omega arith) big within none (leb-false due moment e) s.kept;
    }

pub added_by : {left : ℕ} (l m n : Links) (moment slot due list at : ℕ) (w : Dues) → at ≡ slot + 4097
    → list ≡ list_of 4096 moment due → m ≡ noted at due l → n ≡ linked_behind list at m → shown l moment ≡ w
    → slot < length w.dues → holds slot w ≡ false → IsSwept 4096 moment left l
    → IsSwept 4096 moment left n × (shown n moment ≡ added slot due w)
added_by {left} l m n moment slot due list at w ea g em en v room free s =
    let is : n ≡ linked_behind (list_of 4096 moment due) (slot + 4097) (noted (slot + 4097) due l) =
    en ∙ ap (λ (x : Links). linked_behind list at x) em ∙ ap (λ i. linked_behind list i (noted i due l)) ea
    ∙ ap (λ j. linked_behind j (slot + 4097) (noted (slot + 4097) due l)) g in (
      subst (λ (x : Links). IsSwept 4096 moment left x) (sym is)
          (swept_added _ moment due (slot + 4097) l (omega arith) (slot_within l moment slot w v room s)
          (held_free l moment slot w v free) s),
      ap (λ (x : Links). shown x moment) is
          ∙ ap (λ ds. (let d : Dues = record { moment = moment; dues = ds } in d)) (slot_dues-set l.notes slot (Some due))
          ∙ ap (λ (x : Dues). added slot due x) v,
    )

-- a slot goes

pub record Holds (slot due : ℕ) (l : Links) : Type 0 where
  pub place : HasPlace l.next l.prev (slot + 4097)
  pub own_due : due_at l.notes (slot + 4097) ≡ Some due

pub held_due : {left : ℕ} (l : Links) (moment slot : ℕ) (w : Dues) → shown l moment ≡ w → holds slot w ≡ true
    → IsSwept 4096 moment left l → (due : ℕ) × Holds slot due l
held_due l moment slot w v h s =
    go (due_at l.notes (slot + 4097)) refl
    (ap is_some (sym (due_at-slot_dues l.notes slot)) ∙ ap (λ (x : Dues). holds slot x) v ∙ h)
  where
    go : (o : Option ℕ) → due_at l.notes (slot + 4097) ≡ o → is_some (due_at l.notes (slot + 4097)) ≡ true
        → (due : ℕ) × Holds slot due l
    go None e b = absurd (let f : false ≡ true = sym (ap is_some e) ∙ b in cc)
    go (Some due) e b =
        (due, record { place = held_place 4096 moment _ l s.lists (slot + 4097) due (omega arith) s.kept e; own_due = e })

pub cut_within : (l m : Links) (at : ℕ) → m ≡ unlinked at l → at < length l.next → at < length m.next
cut_within l m at e h = omega (arith, ap (λ (x : Links). length x.next) e, length-cut l.next l.prev at)

pub removed_by : {left : ℕ} (l m n : Links) (moment slot due at : ℕ) → at ≡ slot + 4097 → m ≡ unlinked at l → n ≡ freed at m
    → due_at l.notes (slot + 4097) ≡ Some due → IsSwept 4096 moment left l
    → IsSwept 4096 moment left n × (shown n moment ≡ removed slot (shown l moment))
removed_by {left} l m n moment slot due at ea em en e s =
    let is : n ≡ freed (slot + 4097) (unlinked (slot + 4097) l) =
    en ∙ ap (λ (x : Links). freed at x) em ∙ ap (λ i. freed i (unlinked i l)) ea in (
      subst (λ (x : Links). IsSwept 4096 moment left x) (sym is)
          (record {
            lists = map (without_node (slot + 4097)) s.lists;
            kept = kept_removed 4096 moment _ l s.lists (slot + 4097) due (omega arith) e s.kept;
          }),
      ap (λ (x : Links). shown x moment) is
          ∙ ap (λ ds. (let d : Dues = record { moment = moment; dues = ds } in d)) (slot_dues-set l.notes slot None),
    )

-- what is not held stays so
free_again : (dues : List (Option ℕ)) (slot : ℕ) → is_some (due_at dues slot) ≡ false → slice_set dues slot None ≡ dues
free_again [] slot h = refl
free_again (None ∷ dues) zero h = refl
free_again (Some d ∷ dues) zero h = absurd (cc)
free_again (d ∷ dues) (suc slot) h = ap (λ t. d ∷ t) (free_again dues slot h)

pub removed_free : (slot : ℕ) (w : Dues) → holds slot w ≡ false → w ≡ removed slot w
removed_free slot w h = ap (λ ds. (let d : Dues = record { moment = w.moment; dues = ds } in d)) (sym (free_again w.dues slot h))

pub fresh : (l : Links) → AreMarks 4097 4097 None l → IsSwept 4096 0 0 l × (shown l 0 ≡ no_dues)
fresh l h = (
  swept_alone 4096 0 0 4097 l h,
  ap (λ ds. (let d : Dues = record { moment = 0; dues = ds } in d))
      (nothing (slot_dues l.notes) (omega (arith, length-slot_dues l.notes, h.notes_long))),
)
  where
    nothing : (ds : List (Option ℕ)) → length ds ≡ 0 → ds ≡ []
    nothing [] e = refl
    nothing (d ∷ ds) e = absurd (omega arith)

none_all : (ds : List (Option ℕ)) → ((i : ℕ) → due_at ds i ≡ None) → ds ≡ replicate (length ds) None
none_all [] h = refl
none_all (d ∷ ds) h = ap (λ o. o ∷ ds) (h 0) ∙ ap (λ xs. None ∷ xs) (none_all ds (λ i. h (suc i)))

-- nothing is held any longer
pub cleared_by : {left : ℕ} (l m : Links) (moment : ℕ) (w : Dues) → AreMarks 4097 (length l.next) None m → shown l moment ≡ w
    → IsSwept 4096 moment left l
    → IsSwept 4096 moment left m × (shown m moment ≡ cleared w)
cleared_by {left} l m moment w h v s =
    let same : length (slot_dues m.notes) ≡ length (slot_dues l.notes) =
    omega (arith, length-slot_dues m.notes, length-slot_dues l.notes, h.notes_long, s.kept.dues_long) in
    let none : slot_dues m.notes ≡ replicate (length (slot_dues m.notes)) None =
    none_all (slot_dues m.notes) (λ i. due_at-slot_dues m.notes i ∙ h.notes (i + 4097)) in (
      swept_alone 4096 moment left (length l.next) m h,
      ap (λ ds. (let d : Dues = record { moment = moment; dues = ds } in d)) (none ∙ ap (λ n. replicate n None) same)
          ∙ ap cleared v,
    )

-- the moment goes on

same_dues : (m n : ℕ) (a b : List (Option ℕ)) → m ≡ n → a ≡ b
    → (let d : Dues = record { moment = m; dues = a } in d) ≡ record { moment = n; dues = b }
same_dues m n a b e f = cc

advanced_by : (l m : Links) (since now moment : ℕ) (w : Dues) → now ≡ max since moment → m.notes ≡ l.notes → shown l since ≡ w
    → shown m now ≡ advanced moment w
advanced_by l m since now moment w en em v =
    same_dues now (max since moment) (slot_dues m.notes) (slot_dues l.notes) en (ap slot_dues em)
    ∙ ap (λ (x : Dues). advanced moment x) v

seen : (l m : Links) (since slot : ℕ) (w : Dues) → m.notes ≡ l.notes → shown l since ≡ w
    → due_at w.dues slot ≡ due_at m.notes (slot + 4097)
seen l m since slot w em v =
    sym (ap (λ (x : Dues). due_at x.dues slot) v) ∙ due_at-slot_dues l.notes slot ∙ sym (ap (λ ds. due_at ds (slot + 4097)) em)

pub gives_none : (l m : Links) (since now moment : ℕ) (w : Dues) → now ≡ max since moment → m.notes ≡ l.notes
    → IsNext None moment m → shown l since ≡ w → Gives None moment w (shown m now)
gives_none l m since now moment w en em none v = (
  λ slot. ap (λ o. is_due moment o) (seen l m since slot w em v) ∙ none (slot + 4097),
  advanced_by l m since now moment w en em v,
)

some_due : (moment : ℕ) (o : Option ℕ) → is_due moment o ≡ true → (due : ℕ) × (o ≡ Some due)
some_due moment None e = absurd (cc)
some_due moment (Some due) e = (due, refl)

-- the node that is given
pub record Found (now at : ℕ) (m : Links) : Type 0 where
  pub due : ℕ
  pub own_due : due_at m.notes at ≡ Some due
  pub slot : 4096 < at
  pub place : HasPlace m.next m.prev at

pub found : {left : ℕ} (now moment at : ℕ) (m : Links) → IsNext (Some at) moment m → IsSwept 4096 now left m → Found now at m
found now moment at m e s =
    let d = some_due moment (due_at m.notes at) e in
    record {
      due = d.0;
      own_due = d.1;
      slot = behind_marks 4096 now _ m s.lists at d.0 s.kept d.1;
      place = held_place 4096 now _ m s.lists at d.0 (omega arith) s.kept d.1;
    }

pub gives_some : {left : ℕ} (l m n o : Links) (since now moment at : ℕ) (w : Dues) → now ≡ max since moment → m.notes ≡ l.notes
    → IsNext (Some at) moment m → n ≡ unlinked at m → o ≡ freed at n → shown l since ≡ w → IsSwept 4096 now left m
    → IsSwept 4096 now left o × Gives (Some (record { 0 = at - 4097 })) moment w (shown o now)
gives_some l m n o since now moment at w en em e un fr v s =
    let f : Found now at m = found now moment at m e s in
    let slot : ℕ = at - 4097 in
    let own : at ≡ slot + 4097 = omega (arith, f.slot) in
    let gone = removed_by m n o now slot f.due at own un fr (ap (λ i. due_at m.notes i) (sym own) ∙ f.own_due) s in (
      gone.0,
      (
        ap (λ x. is_due moment x) (seen l m since slot w em v ∙ ap (λ i. due_at m.notes i) (sym own)) ∙ e,
        gone.1 ∙ ap (λ (x : Dues). removed slot x) (advanced_by l m since now moment w en em v),
      ),
    )
