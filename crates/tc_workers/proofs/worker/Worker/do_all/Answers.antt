use Rattle.std.proofs.Common.{◌+◌, ◌*◌, ◌≤◌, ◌∙◌, arith}
use Rattle.tc_workers.proofs.Visiting.{serves-append, serves-more}
use Rattle.tc_workers.proofs.worker.Worker.do_all.Goals as goal

pub loop-at-preserved : goal.loop-at-preserved
loop-at-preserved g c =
    let fits : 16 * c.loop-at.at + 16 ≤ 16 * (c.loop-at.at + 1) = omega arith in
    let served = serves-append c.loop-at.invariant.1 c.visit.ensures.serves in
    (c.visit.ensures.listed ∙ c.loop-at.invariant.0, serves-more fits served)
