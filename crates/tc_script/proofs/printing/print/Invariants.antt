use Rattle.std.specs.List.{flat_map}
use Rattle.std.proofs.Common.{◌≡◌, take}
use Rattle.tc_script.specs.Printing.{output_line}
use Rattle.tc_script.proofs.printing.print.Given as goal

abbrev pub invariant-loop-output : goal.invariant-loop-output
invariant-loop-output l = l.text.items ≡ flat_map output_line (take l.output-index l.output-items)
