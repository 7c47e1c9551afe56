use Rattle.std.proofs.Common.{◌+◌, ◌≤◌, ◌^◌, arith}
use Rattle.tc_session.specs.Unsent.{weight}
use Rattle.tc_session.proofs.Waiting.{some_at, few_at, begun_drop}
use Rattle.tc_session.proofs.chain.Chain.get.Goals as goal

pub returns-clause-some : goal.returns-clause-some
returns-clause-some c = some_at c.self.inside.pieces.items c.args.at c.get.result c.self.invariant.3 c.get.ensures.item

pub returns-clause-light : goal.returns-clause-light
returns-clause-light c =
    let few : weight c.self.inside.pieces.items ≤ 2 ^ 62 = omega (arith, c.self.invariant.1, c.self.invariant.2) in
    few_at c.self.inside.pieces.items c.args.at (2 ^ 62) c.get.result few c.get.ensures.item

pub returns-clause-behind : goal.returns-clause-behind
returns-clause-behind c = rw (← c.self.view_is) (begun_drop (c.args.at + 1) c.self.inside.pieces.items c.self.invariant.3)
