use Rattle.std.specs.Prelude.{cond}
use Rattle.std.proofs.Common.{sym, ◌∙◌, ap}
use Rattle.tc_model.specs.Areas.{demoted}
use Rattle.tc_plain.specs.Entries.{weight}
use Rattle.tc_plain.specs.EvictionState.{EvictionState}
use Rattle.tc_plain.specs.AreaLists.{live_of, is_from_window, put_back}
use Rattle.tc_plain.proofs.reference.eviction_state.EvictionState.access.Goals as goal

pub returns-then-alive-clause-live : goal.returns-then-alive-clause-live
returns-then-alive-clause-live c =
    let l = live_of c.args.self.now in
    let put = demoted weight l.limits (put_back (is_from_window c.args.origin) c.args.entry l.areas) in
    ap (λ a. (let n : EvictionState = record l { areas = a } in n))
    (c.hold_protected.ensures.areas l.limits (sym c.protected_limit.ensures)
    ∙ ap (demoted weight l.limits) c.put_back.ensures.areas ∙ ap (λ b. cond b put l.areas) c.if-alive.ensures)
