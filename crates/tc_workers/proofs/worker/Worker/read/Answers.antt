use Rattle.std.proofs.Common.{refl, sym}
use Rattle.tc_links.proofs.Talking.{carries-talks}
use Rattle.tc_workers.proofs.Visiting.{visited}
use Rattle.tc_workers.proofs.worker.Worker.read.Goals as goal

pub returns-in-Some-clause-serves : goal.returns-in-Some-clause-serves
returns-in-Some-clause-serves g c =
    rw (← c.self.view_is)
    (λ rows.
    visited _ _ _ c.args.key c.take_in-goes_on.result (sym c.in-Some.ensures.value)
    (carries-talks c.take_in-goes_on.ensures.moved.1) c.take_in-goes_on.ensures.moved.2
    (λ on. c.take_in-goes_on.ensures.stays on rows) refl)
