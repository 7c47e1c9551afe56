use Rattle.std.specs.Prelude.{length}
use Rattle.std.proofs.Common.{◌∙◌, ap}
use Rattle.tc_model.specs.Areas.{Areas, Limits, settle}
use Rattle.tc_stats.specs.UserCounters.{more}
use Rattle.tc_plain.specs.declared.shared.entry.Entry.{Entry}
use Rattle.tc_plain.specs.Entries.{weight}
use Rattle.tc_plain.specs.EvictionState.{EvictionState}
use Rattle.tc_plain.specs.Placing.{frequency}
use Rattle.tc_partition.specs.LiveSlots.{live_of}
use Rattle.tc_partition.proofs.live_slots.LiveSlots.change.Goals as goal

pub returns-clause-live : goal.returns-clause-live
returns-clause-live c =
    let u = live_of c.use_new.new.self in
    ap (λ (m : Limits). (let n : EvictionState = record u { limits = m; areas = c.settle.new.self.areas } in n))
    c.settle.ensures.limits
    ∙ ap (λ (a : Areas Entry). (let n : EvictionState = record u { areas = a } in n)) c.settle.ensures.areas
    ∙ ap (λ (l : EvictionState). (let n : EvictionState = record l {
      areas = (settle weight (frequency l) l.limits l.areas).areas;
    } in n)) c.use_new.ensures.live

pub returns-clause-counted : goal.returns-clause-counted
returns-clause-counted c =
    c.settle.ensures.counted
    ∙ ap (λ (l : EvictionState). more c.args.evictions (length (settle weight (frequency l) l.limits l.areas).dropped))
    c.use_new.ensures.live
