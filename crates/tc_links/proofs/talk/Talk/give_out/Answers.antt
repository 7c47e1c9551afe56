use Rattle.std.proofs.Common.{sym}
use Rattle.tc_links.proofs.Latest.{rose-same}
use Rattle.tc_links.proofs.Living.{carries-last, has_talk-carried}
use Rattle.tc_links.proofs.talk.Talk.give_out.Goals as goal

pub invariant_of-self : goal.invariant_of-self
invariant_of-self g c =
    has_talk-carried c.self.invariant c.in-GoesOn.ensures.moved.2 (c.in-GoesOn.ensures.moved.3 (λ done. cc))
    (λ rows still. record {
      by = still.by;
      on = still.on;
      rose = rose-same (sym (carries-last c.in-GoesOn.ensures.moved.2)) still.rose;
    })

pub returns-in-GoesOn-clause-stays : goal.returns-in-GoesOn-clause-stays
returns-in-GoesOn-clause-stays g c =
    rw (← c.self.view_is)
    (λ on rows was. record {
      by = was.by;
      on = was.on;
      rose = rose-same (carries-last c.in-GoesOn.ensures.moved.2) was.rose;
    })
