use Rattle.std.proofs.Common.{List, ℕ, sym, subst}
use Rattle.std.proofs.lemmas.List.{take_rest}
use Rattle.tc_script.specs.Answering.{IsWrittenTo}
use Rattle.tc_script.proofs.RunEnds.{written_to-more, written_to-kept}
use Rattle.tc_script.proofs.running.write_out.Goals as goal
use Rattle.tc_script.proofs.running.write_out.Goals.{in-Ok, in-Err}

pub loop-preserved : goal.loop-preserved
loop-preserved g c =
    let text = c.args.text.now in
    let rest = c.loop.rest.now in
    let old = g.W.Write.contents c.args.out.now in
    let mid = g.W.Write.contents c.loop.out in
    let new = g.W.Write.contents c.write.new.self in
    elim c.match-write.branch [
      | in-Ok w ↦ rw w.rest-is
          (subst (λ (xs : List ℕ). IsWrittenTo text xs old new) (sym (take_rest rest w.in-Ok.n))
          (written_to-more text rest w.in-Ok.n old mid new c.loop.invariant w.in-Ok.ensures.bytes))
      | in-Err w ↦ rw w.rest-is (written_to-kept text rest old mid new c.loop.invariant w.in-Err.ensures.bytes)
    ]
