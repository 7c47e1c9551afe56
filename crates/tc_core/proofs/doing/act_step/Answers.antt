use Rattle.std.specs.Prelude.{map}
use Rattle.std.proofs.Common.{sym, ◌∙◌, ap}
use Rattle.tc_model.specs.Connection.{turn}
use Rattle.tc_session.specs.TextProtocol.{text_protocol}
use Rattle.tc_session.specs.SessionView.{want_of}
use Rattle.tc_session.proofs.Served.{turn-call}
use Rattle.tc_core.proofs.Calls.{act-refused}
use Rattle.tc_core.proofs.doing.act_step.Goals as goal

pub call_step-requires-clause-runs : goal.call_step-requires-clause-runs
call_step-requires-clause-runs g c =
    turn-call c.args.users.now c.args.session.now.endpoint c.in-Call.user c.in-Call.command
    (sym c.in_ok-next.ensures.want ∙ ap want_of c.in-Call.is)

pub returns-in-Call-clause-refused : goal.returns-in-Call-clause-refused
returns-in-Call-clause-refused g c =
    act-refused c.args.clock (map g.C.Cache.settled c.args.caches.now.items) (map g.C.Cache.settled c.call_step.new.caches.items)
    c.args.session.now c.next.new.self c.call_step.new.session (turn text_protocol c.args.users.now c.args.session.now.endpoint)
    c.in_ok-next.field-0 c.in-Call.user c.in-Call.command c.in_ok-next.ensures.want c.in-Call.is c.in_ok-next.ensures.endpoint
    c.in_ok-next.ensures.said
    c.call_step.ensures.endpoint c.call_step.result c.call_step.ensures.told c.call_step.ensures.refused
