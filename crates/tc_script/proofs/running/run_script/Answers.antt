use Rattle.std.proofs.Common.{ℕ, List, subst}
use Rattle.tc_script.specs.Answering.{IsPrintOf, IsBegun}
use Rattle.tc_script.proofs.RunEnds.{ended-stream}
use Rattle.tc_script.proofs.running.run_script.Goals as goal

pub returns-clause-ended : goal.returns-clause-ended
returns-clause-ended g c =
    let print = c.in-Ok-run_text.printed.items in
    let old = g.W.Write.contents c.args.out.now in
    let new = g.W.Write.contents c.write_out.new.out in
    ended-stream (g.R.Read.remaining c.args.input.now) c.in-Ok.text.items print old new c.in-Ok.ensures.text
    (subst (λ (t : List ℕ). IsPrintOf t print) c.deref.ensures.value c.in-Ok-run_text.ensures.printed)
    (subst (λ (t : List ℕ). IsBegun t old new) c.deref-in-Ok-run_text.ensures.value c.in-Err-write_out.ensures.begun)
