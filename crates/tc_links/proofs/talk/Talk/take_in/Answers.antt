use Rattle.std.proofs.Common.{refl, sym}
use Rattle.tc_links.proofs.Latest.{rose-same}
use Rattle.tc_links.proofs.Living.{carries-last, has_talk-carried}
use Rattle.tc_links.proofs.talk.Talk.take_in.Goals as goal

pub invariant_of-self : goal.invariant_of-self
invariant_of-self g c =
    has_talk-carried c.self.invariant c.if-take_in.ensures.moved.1 (c.if-take_in.ensures.moved.2 refl)
    (λ rows still. record {
      by = still.by;
      on = still.on;
      rose = rose-same (sym (carries-last c.if-take_in.ensures.moved.1)) still.rose;
    })

pub returns-then-take_in-clause-stays : goal.returns-then-take_in-clause-stays
returns-then-take_in-clause-stays g c =
    rw (← c.self.view_is)
    (λ on rows was. record {
      by = was.by;
      on = was.on;
      rose = rose-same (carries-last c.if-take_in.ensures.moved.1) was.rose;
    })
