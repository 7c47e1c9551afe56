use Rattle.std.specs.Prelude.{nat_lt}
use Rattle.std.proofs.Common.{arith, inr, ◌∙◌}
use Rattle.tc_plain.specs.AreaLists.{frequency_in}
use Rattle.tc_plain.proofs.Dropping.{outranked_ends}
use Rattle.tc_plain.proofs.reference.settling.outranked.Goals as goal

pub returns-else-need-gt0 : goal.returns-else-need-gt0
returns-else-need-gt0 c =
    outranked_ends (λ e. nat_lt (frequency_in c.args.sketch.now e) c.args.level) c.loop-left.need c.loop-left.left
    c.args.items.now (inr (omega (arith, c.if-need-gt0.false)))
    ∙ c.loop-left.invariant.1
