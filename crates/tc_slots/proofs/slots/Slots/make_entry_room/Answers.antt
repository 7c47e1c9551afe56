use Rattle.tc_slots.specs.Agreement.{slot_of}
use Rattle.tc_slots.proofs.Moves.{fun_same, agree_same}
use Rattle.std.specs.Prelude.{slice_index_or}
use Rattle.std.proofs.Common.{ℕ, List, Option, None, sym, ap, ◌∙◌, rules}
use Rattle.tc_plain.specs.declared.shared.entry.Entry.{Entry}
use Rattle.tc_slots.specs.Held.{often_by}
use Rattle.tc_slots.proofs.slots.Slots.make_entry_room.Goals as goal

-- what each slot holds
abbrev at_slots : List (Option Entry) → ℕ → Option Entry
at_slots slots n = slice_index_or slots n None

pub invariant_of-self : goal.invariant_of-self
invariant_of-self c =
    let i = c.self.inside in
    record {
      agree =
          agree_same (ap slot_of (sym c.grow.ensures.slots)) (ap at_slots (sym c.grow.ensures.slots))
          (fun_same _ _ (λ n. sym (c.grow.ensures.dues n))) (sym c.grow.ensures.areas) c.self.invariant.agree;
      tagged = λ tag n. c.grow.ensures.index tag n ∙ c.self.invariant.tagged tag n
          ∙ ap (λ (xs : List (Option Entry)). often_by i.hasher tag (at_slots xs n)) (sym c.grow.ensures.slots);
      within = search rules;
    }
