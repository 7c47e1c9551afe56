use Rattle.std.proofs.Common.{◌+◌, ◌≤◌, refl, arith}
use Rattle.tc_links.proofs.Talking.{carries-talks, talks-append, talks-more}
use Rattle.tc_links.proofs.SingleMoves.{carries-same}
use Rattle.tc_links.proofs.link.Link.serve.Goals as goal

pub loop-init : goal.loop-init
loop-init g c = carries-talks (carries-same refl)

pub returns-then-not-ask : goal.returns-then-not-ask
returns-then-not-ask g c =
    let fits : c.loop.counter + 1 ≤ 16 = omega arith in
    record { moved = talks-more fits (talks-append c.loop.invariant c.ask.ensures.moved) }

pub loop-preserved : goal.loop-preserved
loop-preserved g c = talks-append c.loop.invariant c.ask.ensures.moved
