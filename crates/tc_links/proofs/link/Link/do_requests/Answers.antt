use Rattle.std.proofs.Common.{[], refl, sym, subst, ◌∙◌}
use Rattle.tc_links.specs.Talks.{LinkState, Talks}
use Rattle.tc_links.proofs.Talking.{carries-talks, talks-sent}
use Rattle.tc_links.proofs.SingleMoves.{carries-same}
use Rattle.tc_links.proofs.Latest.{rose-same}
use Rattle.tc_links.proofs.Living.{carries-last}
use Rattle.tc_links.proofs.link.Link.do_requests.Goals as goal

pub returns-then-waits : goal.returns-then-waits
returns-then-waits g c =
    rw (← c.self.view_is)
    (record { moved = ([], carries-talks (carries-same refl)); ordered = λ on rose. rose })

pub returns-then-not-is_ordered : goal.returns-then-not-is_ordered
returns-then-not-is_ordered g c =
    let Began = λ (l : LinkState).
    Talks 16 c.args.service.now.users.now [] [] l c.serve-served.new.self c.args.desk.now c.serve-served.new.desk in
    let Reached = λ (l : LinkState).
    Talks 16 c.args.service.now.users.now [] [] c.args.self.now l c.args.desk.now c.serve-served.new.desk in
    let served = subst Began c.self.view_is c.serve-served.ensures.moved in
    record {
      moved = ([], subst Reached (sym (c.self-2.view_is ∙ c.tell.ensures)) served);
      ordered = λ goes_on rose. cc;
    }

pub returns-then-keeps_out : goal.returns-then-keeps_out
returns-then-keeps_out g c =
    let Began = λ (l : LinkState).
    Talks 16 c.args.service.now.users.now [] [] l c.serve-served.new.self c.args.desk.now c.serve-served.new.desk in
    let Reached = λ (l : LinkState).
    Talks 16 c.args.service.now.users.now [] [] c.args.self.now l c.args.desk.now c.serve-served.new.desk in
    let served = subst Began c.self.view_is c.serve-served.ensures.moved in
    record {
      moved = ([], subst Reached (sym (c.self-2.view_is ∙ c.tell.ensures)) served);
      ordered = λ goes_on rose. c.is_ordered.ensures c.if-not-is_ordered.false;
    }

pub returns : goal.returns
returns g c =
    let Began = λ (l : LinkState).
    Talks 16 c.args.service.now.users.now [] [] l c.serve-served.new.self c.args.desk.now c.serve-served.new.desk in
    let served = subst Began c.self.view_is c.serve-served.ensures.moved in
    let went = talks-sent served (c.self-2.view_is ∙ c.tell.ensures) c.send.ensures.sends in
    record {
      moved = (went.0, went.1);
      ordered =
          λ goes_on rose.
          rose-same (carries-last c.send.ensures.sends.1) (c.is_ordered.ensures c.if-not-is_ordered.false);
    }
