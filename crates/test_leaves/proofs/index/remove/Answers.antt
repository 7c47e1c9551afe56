use Rattle.std.proofs.Common.{nat_eq, rules}
use Rattle.test_leaves.proofs.index.remove.Goals as goal

pub remove-requires : goal.remove-requires
remove-requires c = (c.in-Some.ensures (λ s. nat_eq s c.args.slot.0) (λ slot answer lt p. search rules)).0
