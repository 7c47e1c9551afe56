use Rattle.std.proofs.Common.{List, refl, sym, subst}
use Rattle.tc_users.specs.declared.users.UserSpec.{UserSpec}
use Rattle.tc_links.specs.Lives.{AreAll, tables_in}
use Rattle.tc_links.proofs.Living.{goes-rose, tables-by, tables-more, has_talk-served}
use Rattle.tc_links.proofs.talk.Talk.do_requests.Goals as goal

pub invariant_of-self : goal.invariant_of-self
invariant_of-self g c =
    has_talk-served c.self.invariant c.if-do_requests.ensures.moved.1 refl
    (λ rows still.
    let By = λ (ts : List (List UserSpec × Unit {0})). AreAll rows (tables_in ts) in
    let more = tables-more rows c.args.service.now.users.now tt c.self.inside.tables.items
    (subst By c.and-self-inside.ensures still.by) in (
      record { by = more.0; on = still.on; rose = goes-rose c.if-do_requests.ensures.moved.1.goes still.rose },
      more.1,
    ))

pub returns-then-do_requests-clause-stays : goal.returns-then-do_requests-clause-stays
returns-then-do_requests-clause-stays g c =
    rw (← c.self.view_is)
    (λ on was. record {
      by =
          subst (λ (ts : List (List UserSpec × Unit {0})). AreAll c.args.service.now.users.now (tables_in ts))
          (sym c.and-self-inside.ensures) (tables-by _ _ _ was.by);
      on = was.on;
      rose = c.if-do_requests.ensures.ordered on was.rose;
    })
