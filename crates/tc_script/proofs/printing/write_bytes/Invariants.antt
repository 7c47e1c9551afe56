use Rattle.std.proofs.Common.{◌≡◌, ◌++◌, take}
use Rattle.tc_script.specs.Printing.{escaped}
use Rattle.tc_script.proofs.printing.write_bytes.Given as goal

abbrev pub invariant-loop-byte : goal.invariant-loop-byte
invariant-loop-byte l = l.text.items ≡ l.fn.text.items ++ escaped (take l.byte-index l.bytes)
