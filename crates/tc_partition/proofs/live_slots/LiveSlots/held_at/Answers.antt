use Rattle.std.specs.Prelude.{MatchOption}
use Rattle.std.specs.Borrow.{Bor}
use Rattle.std.specs.Option.{option_copied}
use Rattle.std.proofs.Common.{◌≡◌, Option, Some, None, sym, ◌∙◌, subst}
use Rattle.tc_plain.specs.declared.shared.entry.Entry.{Entry}
use Rattle.tc_partition.specs.LiveSlots.{live_of}
use Rattle.tc_partition.specs.Deferred.{peeked}
use Rattle.tc_partition.specs.WaitingSlots.{SeeksSlot}
use Rattle.tc_partition.proofs.live_slots.LiveSlots.held_at.Goals as goal

-- a reference to what is held shows it
shows : (r : Option (Bor Entry)) (o : Option Entry) (e : Entry) → option_copied r ≡ Some e → o ≡ Some e
    → MatchOption r (o ≡ None) (λ x. o ≡ Some x.now)
shows None o e f g = absurd (cc (f))
shows (Some x) o e f g = g ∙ sym f

pub returns-in-Some : goal.returns-in-Some
returns-in-Some c = λ t key sought.
    let s = subst (λ place. SeeksSlot place t key c.args.self.now) c.in-Some.is sought in
    shows c.entry.result (peeked t key (live_of c.args.self.now)) s.0 (c.entry.ensures ∙ s.1) s.3
