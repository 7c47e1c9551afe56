use Rattle.std.specs.Prelude.{◌-◌}
use Rattle.std.proofs.Common.{◌≡◌, ◌+◌, length, arith, sym, ◌∙◌, ap}
use Rattle.tc_model.specs.Areas.{Limits, total, main_weight, shortest, from_tail, demoted, admitted}
use Rattle.tc_model.proofs.Steps.{areas_by}
use Rattle.tc_model.proofs.Totals.{total-demoted}
use Rattle.tc_stats.specs.UserCounters.{more}
use Rattle.tc_plain.specs.Entries.{weight}
use Rattle.tc_plain.specs.AreaLists.{areas_of, frequency_in}
use Rattle.tc_plain.proofs.Dropping.{admitting_starts, admitting_moves, admitting_ends}
use Rattle.tc_plain.proofs.reference.areas.Areas.settle.Goals as goal

pub weigh_main-requires : goal.weigh_main-requires
weigh_main-requires c =
    let held = c.hold_protected.ensures.areas c.args.limits (sym (ap (λ (l : Limits). l.protected) c.limits.view_is)) in
    let same : total weight (areas_of c.hold_protected.new.self)
    ≡ total weight (demoted weight c.args.limits (areas_of c.args.self.now)) = ap (total weight) held in
    omega (arith, same, total-demoted weight weight c.args.limits (areas_of c.args.self.now), c.requires.weight)

pub loop-candidate-init : goal.loop-candidate-init
loop-candidate-init c =
    let d = areas_of c.hold_protected.new.self in
    let main = ap (λ (l : Limits). l.main) c.limits.view_is in
    admitting_starts (frequency_in c.args.sketch.now) c.args.limits c.args.evictions c.drop_main-evictions.result
    c.saturating_sub-over.result (areas_of c.args.self.now) d c.drop_main-evictions.new.self
    (c.hold_protected.ensures.areas c.args.limits (sym (ap (λ (l : Limits). l.protected) c.limits.view_is)))
    (c.saturating_sub-over.ensures ∙ ap (λ n. n - c.limits.inside.main) c.weigh_main.ensures
    ∙ ap (λ n. main_weight weight d - n) main)
    c.drop_main-evictions.ensures.areas c.drop_main-evictions.ensures.counted
    (c.drop_main-evictions.ensures.room 0 (c.hold_protected.ensures.room 0 c.requires.room))

pub loop-candidate-preserved : goal.loop-candidate-preserved
loop-candidate-preserved c =
    let b = c.loop-candidate.self in
    let x = c.in-Some.candidate in
    let freq = frequency_in c.args.sketch.now in
    let main = ap (λ (l : Limits). l.main) c.limits.view_is in
    let a = areas_by c.pop_over.new.items.items b.probation.items b.protected.items in
    admitting_moves freq c.args.limits c.args.evictions c.loop-candidate.evictions c.admit-evictions.result
    (areas_of c.args.self.now) b c.admit-evictions.new.self c.pop_over.new.items.items x
    c.loop-candidate.invariant c.in-Some.ensures.popped.0
    (omega (arith, c.in-Some.ensures.popped.1, ap (λ (l : Limits). l.window) c.limits.view_is)) (
      c.admit-evictions.ensures.areas
          ∙ ap (λ n. (admitted freq x a (shortest weight (main_weight weight a + weight x - n) (from_tail a))).areas) main,
      c.admit-evictions.ensures.counted
          ∙ ap (λ n. more c.loop-candidate.evictions
          (length (admitted freq x a (shortest weight (main_weight weight a + weight x - n) (from_tail a))).dropped)) main,
    ) c.admit-evictions.ensures.room

pub returns-clause-areas : goal.returns-clause-areas
returns-clause-areas c =
    let b = c.loop-candidate.self in
    (admitting_ends (frequency_in c.args.sketch.now) c.args.limits c.args.evictions c.loop-candidate.evictions
    (areas_of c.args.self.now) _ b c.loop-candidate.invariant
    (ap (λ t. areas_by t b.probation.items b.protected.items) c.in_default.ensures.popped.0)
    (omega (arith, c.in_default.ensures.popped.1, ap (λ (l : Limits). l.window) c.limits.view_is))).0

pub returns-clause-counted : goal.returns-clause-counted
returns-clause-counted c =
    let b = c.loop-candidate.self in
    (admitting_ends (frequency_in c.args.sketch.now) c.args.limits c.args.evictions c.loop-candidate.evictions
    (areas_of c.args.self.now) _ b c.loop-candidate.invariant
    (ap (λ t. areas_by t b.probation.items b.protected.items) c.in_default.ensures.popped.0)
    (omega (arith, c.in_default.ensures.popped.1, ap (λ (l : Limits). l.window) c.limits.view_is))).1
