use Rattle.std.proofs.Common.{◌≡◌, ◌+◌, ◌≤◌, length}
use Rattle.tc_script.specs.Texts.{lines_of}
use Rattle.tc_script.specs.Plans.{reading_from, reading_of}
use Rattle.tc_script.proofs.script.Script.read.Given as goal

-- what is left is read from here as the whole is from the beginning
abbrev pub invariant-loop-line : goal.invariant-loop-line
invariant-loop-line l = record {
  reading : reading_from l.script l.number (lines_of l.rest) ≡ reading_of l.text;
  numbers : l.number + length l.rest ≤ length l.text + 1;
}

abbrev pub decreases-loop-line : goal.decreases-loop-line
decreases-loop-line l = length l.rest
