use Rattle.tc_workers.proofs.Visiting.{removed}
use Rattle.tc_workers.proofs.worker.Worker.take_out.Goals as goal

pub returns-clause-gone : goal.returns-clause-gone
returns-clause-gone g c =
    rw (← c.self.view_is)
    (removed c.self.inside.links c.try_remove.new.self c.args.key c.try_remove.result c.try_remove.ensures.value
    c.try_remove.ensures.slots c.try_remove.ensures.absent)
