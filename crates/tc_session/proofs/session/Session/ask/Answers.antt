use Rattle.tc_session.proofs.Declining.{asked-as}
use Rattle.tc_session.proofs.session.Session.ask.Goals as goal

pub returns-in-Err-clause-asked : goal.returns-in-Err-clause-asked
returns-in-Err-clause-asked c =
    asked-as c.args.users.now c.args.self.now c.next.new.self c.decline_listed.new.self c.args.declined.now
    c.decline_listed.new.declined c.decline_listed.result c.in-Err.ensures.endpoint_on_err c.in-Err.ensures.out_on_err
    (c.decline_listed.ensures.asked c.args.users.now)
