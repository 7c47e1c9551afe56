use Rattle.std.proofs.Common.{arith, length-drop}
use Rattle.tc_session.specs.Unsent.{joined}
use Rattle.tc_session.proofs.Waiting.{begun_le, length-joined}
use Rattle.tc_session.proofs.parts.Parts.new.Goals as goal

pub overflow_sub-result : goal.overflow_sub-result
overflow_sub-result c =
    omega (arith, begun_le c.args.sent c.args.chain.now c.requires.begun, c.requires.reach, c.weight.ensures.value)

pub invariant_of-result : goal.invariant_of-result
invariant_of-result c =
    let all = joined c.args.own.now c.args.chain.now in (
      c.requires.reach,
      c.requires.begun,
      omega (
        arith,
        c.weight.ensures.value,
        length-drop c.args.sent all,
        length-joined c.args.own.now c.args.chain.now c.requires.reach,
      ),
    )
