use Rattle.std.proofs.Common.{arith}
use Rattle.tc_session.proofs.Waiting.{reach-append, weight-append, data-append}
use Rattle.tc_session.proofs.chain.Chain.append.Goals as goal

pub invariant_of-self-2 : goal.invariant_of-self-2
invariant_of-self-2 c =
    let ps = c.self.inside.pieces.items in
    let qs = c.behind.inside.pieces.items in
    rw c.in_ok-append.ensures.items (
      omega (arith, reach-append ps qs, c.in_ok-reach.ensures),
      omega (arith, weight-append ps qs, c.in_ok-weight.ensures),
      omega (arith, c.in_ok-weight.ensures),
      data-append ps qs c.self.invariant.3 c.behind.invariant.3,
    )
