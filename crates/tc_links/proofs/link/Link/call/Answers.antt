use Rattle.std.proofs.Common.{refl}
use Rattle.tc_fresh.proofs.Ends.{act-ends}
use Rattle.tc_links.proofs.SingleMoves.{answers-entered, answers-refused}
use Rattle.tc_links.proofs.link.Link.call.Goals as goal

pub answer_later-requires-clause-can_end : goal.answer_later-requires-clause-can_end
answer_later-requires-clause-can_end g c =
    let from = c.in-Ok.ensures.answered.2 in
    act-ends from.cache from.moment c.args.command.now c.in-Ok.receipt.slip.outcome c.requires.runs from.given

pub returns : goal.returns
returns g c =
    let d = c.answer_later in
    rw (← c.meet.ensures, ← c.self.view_is, ← c.desk.view_is)
    (record {
      answers =
          answers-entered _ c.in-Ok.ensures.answered.1 c.in-Ok.ensures.none_refused refl refl d.result d.ensures.reply d.ensures.refused
          d.ensures.short d.ensures.endpoint refl c.number_after-self-inside.ensures refl refl;
    })

pub returns-in_default : goal.returns-in_default
returns-in_default g c =
    let d = c.in_default.ensures in
    rw (← c.meet.ensures, ← c.self.view_is, ← c.desk.view_is)
    (record {
      answers =
          answers-refused _ _ d.unchanged_on_err d.refused refl refl c.refuse.ensures.refused c.refuse.ensures.endpoint refl refl refl
          refl;
    })
