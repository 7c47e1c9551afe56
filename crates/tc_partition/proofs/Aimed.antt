-- Work that was sought is aimed at the same place once the cache has come to that moment.
use Rattle.std.specs.Prelude.{max, slice_index_or}
use Rattle.std.proofs.Common.{◌≡◌, ℕ, List, Option, false, true, None, Some, sym, ◌∙◌, ap, subst, arith}
use Rattle.tc_plain.specs.declared.shared.entry.Entry.{Entry}
use Rattle.tc_plain.specs.Entries.{lives}
use Rattle.tc_plain.specs.EvictionState.{EvictionState, held, advanced, is_flush_due}
use Rattle.tc_plain.specs.Soundness.{AreSound}
use Rattle.tc_plain.proofs.Used.{without_key-missed}
use Rattle.tc_partition.specs.LiveSlots.{live_of}
use Rattle.tc_partition.specs.Deferred.{peeked}
use Rattle.tc_partition.specs.declared.live_slots.LiveSlots.{LiveSlots}
use Rattle.tc_partition.specs.declared.work.Work.{Work}
use Rattle.tc_partition.specs.declared.work.Work.TheVariants.{Ends as EndsWork, Changes as ChangesWork}
use Rattle.tc_item.specs.declared.slot.Slot.{Slot}
use Rattle.tc_slots.specs.Held.{FindsSlot}
use Rattle.tc_partition.specs.WaitingSlots.{SeeksSlot}
use Rattle.tc_partition.specs.Working.{IsSought, IsAimed}
use Rattle.tc_partition.proofs.Draining.{stays_one}

module _ (s r : LiveSlots) (now : ℕ) (sound : AreSound s.held.limits s.held.areas)
    (come : live_of r ≡ advanced (live_of s) now)
    (owns : (n : ℕ) (e : Entry) → slice_index_or s.held.slots n None ≡ Some e → held e.key s.held.areas ≡ Some e)
    (owns_then : (n : ℕ) (e : Entry) → slice_index_or r.held.slots n None ≡ Some e → held e.key r.held.areas ≡ Some e)
    (alive : (n : ℕ) (e : Entry) → slice_index_or s.held.slots n None ≡ Some e
    → is_flush_due s.flush (max s.moment now) ≡ false → lives (max s.moment now) e ≡ true
    → slice_index_or r.held.slots n None ≡ Some e)
  where
    placed : (place : Option Slot) (key : List ℕ) → SeeksSlot place (max s.moment now) key s → FindsSlot place key r.held
    placed (Some slot) key at =
        let t = max s.moment now in
        let e : Entry = at.0 in
        let still = stays_one (live_of s) e t t sound (owns slot.0 e at.1)
        (e, subst (λ k. peeked t k (live_of s) ≡ Some e) (sym at.2) at.3) (omega arith) in
        let there = alive slot.0 e at.1 still.0 still.1 in
        record {
          entry = e;
          at = there;
          own = at.2;
          held = subst (λ k. held k r.held.areas ≡ Some e) at.2 (owns_then slot.0 e there);
        }
    placed None key at =
        let none : held key r.held.areas ≡ None = ap (λ (l : EvictionState). held key l.areas) come ∙ at in
        (none, without_key-missed key r.held.areas none)

    pub aimed : (work : Work) → IsSought (max s.moment now) work s → IsAimed work r.held
    aimed (EndsWork end) at = tt
    aimed (ChangesWork end place h key draft) at = (at.0, placed place key at.1)
