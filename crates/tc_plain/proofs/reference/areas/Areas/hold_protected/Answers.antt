use Rattle.std.proofs.Common.{ap, arith, refl, ◌∙◌}
use Rattle.tc_model.proofs.Steps.{areas_by}
use Rattle.tc_plain.proofs.Weighed.{holding_moves, holding_ends}
use Rattle.tc_plain.proofs.reference.areas.Areas.hold_protected.Goals as goal

pub loop-last-preserved : goal.loop-last-preserved
loop-last-preserved c =
    holding_moves c.args.most c.args.self.now c.loop-last.self _ c.in-Some.last c.loop-last.invariant refl
    c.put_first.ensures.items c.in-Some.ensures.popped.0 c.in-Some.ensures.popped.1
    (record {
      count = omega (arith, c.put_first.ensures.len, c.in-Some.ensures.len);
      window = refl;
      probation = c.put_first.ensures.capacity;
      protected = c.pop_over.ensures.capacity;
    })

pub returns-clause-areas : goal.returns-clause-areas
returns-clause-areas c = λ limits same.
    let b = c.loop-last.self in
    ap (λ t. areas_by b.window.items b.probation.items t) c.in_default.ensures.popped.0
    ∙ holding_ends c.args.most c.args.self.now b limits c.loop-last.invariant c.in_default.ensures.popped.1 same
