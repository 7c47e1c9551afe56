use Rattle.std.specs.Prelude.{map}
use Rattle.std.specs.Map.Iter.{deref_pair}
use Rattle.std.proofs.Common.{◌≡◌}
use Rattle.tc_core.specs.Steps.{numbered_of}
use Rattle.tc_core.specs.Sending.{output_of}
use Rattle.tc_core.proofs.outputs.outputs_of.Given as goal

abbrev pub invariant-loop-number : goal.invariant-loop-number
invariant-loop-number l = l.outputs.items ≡ map output_of (map numbered_of (map deref_pair l.yielded))
