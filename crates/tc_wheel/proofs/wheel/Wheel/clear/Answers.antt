use Rattle.tc_wheel.proofs.Turned.{cleared_by}
use Rattle.tc_wheel.proofs.wheel.Wheel.clear.Goals as goal

pub invariant_of-self : goal.invariant_of-self
invariant_of-self c = record {
  passed = c.self.invariant.passed;
  swept =
      (cleared_by c.self.inside.nodes c.clear.new.self c.self.inside.moment c.args.self.now c.clear.ensures c.self.view_is
      c.self.invariant.swept).0;
}

pub returns : goal.returns
returns c =
    (cleared_by c.self.inside.nodes c.clear.new.self c.self.inside.moment c.args.self.now c.clear.ensures c.self.view_is
    c.self.invariant.swept).1
