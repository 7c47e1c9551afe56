use Rattle.std.proofs.Common.{subst}
use Rattle.tc_links.specs.Turns.{WorkerState, Serves}
use Rattle.tc_workers.proofs.Visiting.{serves-same}
use Rattle.tc_workers.proofs.worker.Worker.do_admitted.Goals as goal

pub returns-in_default-clause-serves : goal.returns-in_default-clause-serves
returns-in_default-clause-serves g c = serves-same c.admit_again.ensures

pub returns-clause-serves : goal.returns-clause-serves
returns-clause-serves g c =
    subst (λ (w : WorkerState). Serves 16 c.args.service.now.users.now w c.do_requests.new.self) c.admit_again.ensures
    c.do_requests.ensures.serves
