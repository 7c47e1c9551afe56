use Rattle.std.proofs.Common.{arith}
use Rattle.tc_wheel.proofs.Turned.{fresh}
use Rattle.tc_wheel.proofs.wheel.Wheel.new.Goals as goal

pub invariant_of-result-2 : goal.invariant_of-result-2
invariant_of-result-2 c = record { passed = omega arith; swept = (fresh c.in_ok-nodes.nodes c.in_ok-nodes.ensures).0 }

pub returns : goal.returns
returns c = (fresh c.in_ok-nodes.nodes c.in_ok-nodes.ensures).1
