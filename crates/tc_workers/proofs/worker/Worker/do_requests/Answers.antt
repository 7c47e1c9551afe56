use Rattle.std.proofs.Common.{Bool, subst}
use Rattle.tc_links.specs.Turns.{GoesOnOrEnds}
use Rattle.tc_workers.proofs.Visiting.{ends-dropped}
use Rattle.tc_workers.proofs.worker.Worker.do_requests.Goals as goal

pub returns-then-not-serve-clause-serves : goal.returns-then-not-serve-clause-serves
returns-then-not-serve-clause-serves g c =
    let Went = λ (on : Bool).
    GoesOnOrEnds 16 c.args.service.now.users.now c.args.key on c.args.self.now c.serve.new.self in
    ends-dropped (subst Went c.if-not-serve.true c.serve.ensures.serves) c.let_go.ensures.desk c.let_go.ensures.gone

pub returns-else-not-serve-clause-serves : goal.returns-else-not-serve-clause-serves
returns-else-not-serve-clause-serves g c =
    let Went = λ (on : Bool).
    GoesOnOrEnds 16 c.args.service.now.users.now c.args.key on c.args.self.now c.serve.new.self in
    subst Went c.if-not-serve.false c.serve.ensures.serves
