use Rattle.std.proofs.Common.{sym, ◌∙◌, ◌≢◌, true≢false, refl, subst}
use Rattle.tc_stats.specs.declared.outcome.Outcome.{Outcome}
use Rattle.tc_plain.specs.Doing.{act}
use Rattle.tc_locked.specs.Audits.{IsFirstOdd}
use Rattle.tc_locked.proofs.Audited.{left_next, left_odd}
use Rattle.tc_locked.proofs.audit.audit_page.Goals as goal

pub loop-place-preserved : goal.loop-place-preserved
loop-place-preserved c =
    left_next c.args.opening c.args.entries.now c.loop-place.cache c.do_again.new.cache c.loop-place.place
    c.index-entries-place.result c.loop-place-test.true c.index-entries-place.is
    (sym c.in_ok-again.ensures.outcome ∙ c.is.ensures.same.0 c.if-not-is.false) c.in_ok-again.ensures.state c.loop-place.invariant

pub returns-then-not-is : goal.returns-then-not-is
returns-then-not-is c =
    let k = c.loop-place.cache in
    let e = c.index-entries-place.result in
    let differs : (act k e.moment e.command).0 ≢ e.outcome =
    λ same. true≢false (sym (c.is.ensures.same.1 (c.in_ok-again.ensures.outcome ∙ same)) ∙ c.if-not-is.true) in (
      subst (λ (again : Outcome). IsFirstOdd c.args.opening c.args.entries.now 0
          (record { place = c.loop-place.place; number = e.number; again = again }))
          (sym c.in_ok-again.ensures.outcome)
          (left_odd c.args.opening c.args.entries.now k c.loop-place.place e c.loop-place-test.true c.index-entries-place.is differs
          c.loop-place.invariant),
      refl,
    )
