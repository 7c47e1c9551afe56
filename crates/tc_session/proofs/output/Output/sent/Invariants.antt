use Rattle.std.proofs.Common.{◌≡◌, ◌<◌, drop, length}
use Rattle.tc_session.proofs.output.Output.sent.Given as goal

abbrev pub invariant-loop-left : goal.invariant-loop-left
invariant-loop-left l = record {
  bytes : drop l.left l.self.bytes ≡ drop l.n l.fn.self.bytes;
  within : l.left < length l.self.bytes;
}

abbrev pub decreases-loop-left : goal.decreases-loop-left
decreases-loop-left l = l.left
