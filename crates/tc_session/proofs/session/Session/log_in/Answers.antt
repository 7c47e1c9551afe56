use Rattle.std.proofs.Common.{◌≡◌, None, Some, sym, ◌∙◌, rules}
use Rattle.tc_model.specs.Connection.{login}
use Rattle.tc_session.specs.TextProtocol.{text_protocol}
use Rattle.tc_session.proofs.Logins.{login_by_place}
use Rattle.tc_session.proofs.session.Session.log_in.Goals as goal

pub returns-in-None-clause-endpoint : goal.returns-in-None-clause-endpoint
returns-in-None-clause-endpoint c =
    let none : login text_protocol c.args.users.now c.args.text.now ≡ None =
    sym (login_by_place c.args.users.now c.args.text.now) ∙ sym c.in-None.ensures.user in rw none (search rules)

pub returns-in-None-clause-said : goal.returns-in-None-clause-said
returns-in-None-clause-said c =
    let none : login text_protocol c.args.users.now c.args.text.now ≡ None =
    sym (login_by_place c.args.users.now c.args.text.now) ∙ sym c.in-None.ensures.user in rw none (search rules)

pub returns-in-Some-clause-endpoint : goal.returns-in-Some-clause-endpoint
returns-in-Some-clause-endpoint c =
    let some : login text_protocol c.args.users.now c.args.text.now ≡ Some c.in-Some.user =
    sym (login_by_place c.args.users.now c.args.text.now) ∙ sym c.in-Some.ensures.user in rw some (search rules)

pub returns-in-Some-clause-said : goal.returns-in-Some-clause-said
returns-in-Some-clause-said c =
    let some : login text_protocol c.args.users.now c.args.text.now ≡ Some c.in-Some.user =
    sym (login_by_place c.args.users.now c.args.text.now) ∙ sym c.in-Some.ensures.user in rw some (search rules)
