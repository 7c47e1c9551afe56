use Rattle.std.proofs.Common.{sym, ◌∙◌, ap, subst}
use Rattle.tc_plain.specs.BySlot.{entry_or}
use Rattle.tc_partition.specs.LiveSlots.{live_of}
use Rattle.tc_partition.specs.Deferred.{hit, do_note}
use Rattle.tc_partition.specs.WaitingSlots.{note_at, IsPlaced}
use Rattle.tc_partition.proofs.deferred_work.do_noted.Goals as goal

pub returns-in-Hit-clause-live : goal.returns-in-Hit-clause-live
returns-in-Hit-clause-live c =
    let s = c.args.live.now in
    let one = subst (IsPlaced s.held.slots) c.in-Hit.is c.requires.placed in
    c.hit_at.ensures.live one.0 one.1 ∙ ap (λ o. hit (entry_or o).key (live_of s)) (sym one.1)
    ∙ ap (λ n. do_note (note_at s.held.slots n) (live_of s)) (sym c.in-Hit.is)
