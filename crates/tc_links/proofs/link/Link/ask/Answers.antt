use Rattle.std.proofs.Common.{Some, refl, sym, ◌∙◌, ap, inl, inr}
use Rattle.tc_model.specs.Connection.{Nothing, Said, Close}
use Rattle.tc_session.specs.declared.want.Want.TheVariants.{Nothing as IsNothing, Said as IsSaid, Call as IsCall, Close as IsClose}
use Rattle.tc_session.proofs.Served.{turn-call}
use Rattle.tc_links.proofs.Talking.{talks-as}
use Rattle.tc_links.proofs.SingleMoves.{asked-some, same-desk, talks-asked, talks-called, talks-from, talks-none}
use Rattle.tc_links.proofs.SingleMoves.{talks-unasked}
use Rattle.tc_links.proofs.link.Link.ask.Goals as goal

pub call-requires-clause-runs : goal.call-requires-clause-runs
call-requires-clause-runs g c =
    let h =
    asked-some c.args.service.now.users.now c.self.inside.session c.ask.new.self c.desk.inside.declined c.ask.new.declined
    c.in-Ok.asked (IsCall c.in-Call.user c.in-Call.command) (c.in-Some.is ∙ ap Some c.in-Call.is) c.in-Ok.ensures.asked in
    turn-call c.args.service.now.users.now c.self.inside.session.endpoint c.in-Call.user c.in-Call.command (sym h.0)

pub returns-in_default : goal.returns-in_default
returns-in_default g c =
    let d = c.in_default.ensures in
    rw (← c.self.view_is, ← c.desk.view_is)
    (record {
      moved =
          talks-as c.note_refusal.ensures
          (talks-unasked d.endpoint_on_err d.out_on_err refl refl refl refl (same-desk refl refl d.declined_on_err));
    })

pub returns-in_default-asked : goal.returns-in_default-asked
returns-in_default-asked g c =
    rw (← c.self.view_is, ← c.desk.view_is)
    (record {
      moved =
          talks-as c.note_answer.ensures
          (talks-none c.in-Ok.asked c.in_default-asked.is c.in-Ok.ensures.asked refl refl c.in-Ok.ensures.endpoint refl refl refl refl);
    })

pub returns-in-Nothing : goal.returns-in-Nothing
returns-in-Nothing g c =
    let h =
    asked-some c.args.service.now.users.now c.self.inside.session c.ask.new.self c.desk.inside.declined c.ask.new.declined
    c.in-Ok.asked IsNothing (c.in-Some.is ∙ ap Some c.in-Nothing.is) c.in-Ok.ensures.asked in
    rw (← c.self.view_is, ← c.desk.view_is)
    (record {
      moved = talks-asked Nothing h.0 tt c.in-Ok.ensures.endpoint h.1 refl refl refl refl (same-desk refl refl h.2);
    })

pub returns-in-Said : goal.returns-in-Said
returns-in-Said g c =
    rw (← c.self.view_is, ← c.desk.view_is)
    (record {
      moved =
          talks-as c.note_answer-in-Said.ensures
          (elim c.in-Said.is [
            | inl is ↦
                let h =
                asked-some c.args.service.now.users.now c.self.inside.session c.ask.new.self c.desk.inside.declined
                c.ask.new.declined c.in-Ok.asked IsSaid (c.in-Some.is ∙ ap Some is) c.in-Ok.ensures.asked in
                talks-asked Said h.0 tt c.in-Ok.ensures.endpoint h.1 refl refl refl refl (same-desk refl refl h.2)
            | inr is ↦
                let h =
                asked-some c.args.service.now.users.now c.self.inside.session c.ask.new.self c.desk.inside.declined
                c.ask.new.declined c.in-Ok.asked IsClose (c.in-Some.is ∙ ap Some is) c.in-Ok.ensures.asked in
                talks-asked Close h.0 tt c.in-Ok.ensures.endpoint h.1 refl refl refl refl (same-desk refl refl h.2)
          ]);
    })

pub returns-in-Call : goal.returns-in-Call
returns-in-Call g c =
    let h =
    asked-some c.args.service.now.users.now c.self.inside.session c.ask.new.self c.desk.inside.declined c.ask.new.declined
    c.in-Ok.asked (IsCall c.in-Call.user c.in-Call.command) (c.in-Some.is ∙ ap Some c.in-Call.is) c.in-Ok.ensures.asked in
    rw (← c.self.view_is, ← c.desk.view_is)
    (record {
      moved =
          talks-from (same-desk refl refl h.2)
          (talks-called c.in-Call.user c.in-Call.command (sym h.0) c.in-Ok.ensures.endpoint h.1 refl refl refl refl
          c.call.ensures.answers);
    })
