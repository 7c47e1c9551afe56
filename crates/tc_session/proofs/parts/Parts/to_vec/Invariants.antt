use Rattle.std.proofs.Common.{◌≡◌, ◌++◌, length}
use Rattle.tc_session.proofs.parts.Parts.to_vec.Given as goal

abbrev pub invariant-loop-behind : goal.invariant-loop-behind
invariant-loop-behind l = l.bytes.items ++ l.behind ≡ l.self

abbrev pub decreases-loop-behind : goal.decreases-loop-behind
decreases-loop-behind l = length l.behind
