use Rattle.std.proofs.Common.{ap, arith, length}
use Rattle.tc_plain.proofs.Gone.{length-le-weight}
use Rattle.tc_plain.proofs.reference.lists.count.Goals as goal

pub returns-clause-light : goal.returns-clause-light
returns-clause-light c = omega (arith, ap length c.as_slice.ensures.value, length-le-weight c.args.items.now.items)
