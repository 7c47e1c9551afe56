use Rattle.std.proofs.Common.{◌≡◌, length}
use Rattle.tc_script.specs.Texts.{unescaped}
use Rattle.tc_script.proofs.Unescaping.{behind}
use Rattle.tc_script.proofs.unescape.unescape.Given as goal

abbrev pub invariant-loop-rest : goal.invariant-loop-rest
invariant-loop-rest l = behind l.bytes.items (unescaped l.rest) ≡ unescaped l.text

abbrev pub decreases-loop-rest : goal.decreases-loop-rest
decreases-loop-rest l = length l.rest
