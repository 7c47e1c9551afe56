use Rattle.std.specs.Prelude.{is_ok}
use Rattle.tc_wheel.proofs.Turned.{reserved_if, refused_if}
use Rattle.tc_wheel.proofs.wheel.Wheel.reserve.Goals as goal

pub invariant_of-self : goal.invariant_of-self
invariant_of-self c = record {
  passed = c.self.invariant.passed;
  swept =
      (reserved_if (is_ok c.reserve.result) c.args.slots c.self.inside.nodes c.reserve.new.self c.self.inside.moment
      c.args.self.now c.reserve.ensures.nodes c.self.view_is c.self.invariant.swept).0;
}

pub returns-clause-reserved : goal.returns-clause-reserved
returns-clause-reserved c =
    (reserved_if (is_ok c.reserve.result) c.args.slots c.self.inside.nodes c.reserve.new.self c.self.inside.moment c.args.self.now
    c.reserve.ensures.nodes c.self.view_is c.self.invariant.swept).1

pub returns-clause-refused : goal.returns-clause-refused
returns-clause-refused c =
    refused_if c.reserve.result c.args.slots c.self.inside.nodes c.self.inside.moment c.args.self.now c.reserve.ensures.refused
    c.self.view_is c.self.invariant.swept
