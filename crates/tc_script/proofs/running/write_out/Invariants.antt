use Rattle.tc_script.specs.Answering.{IsWrittenTo}
use Rattle.tc_script.proofs.running.write_out.Given as goal

-- what is left is to be written behind the front that is
abbrev pub invariant-loop : goal.invariant-loop
invariant-loop g l = IsWrittenTo l.text l.rest (g.W.Write.contents l.fn.out) (g.W.Write.contents l.out)
