use Rattle.std.proofs.Common.{◌≡◌, ◌⊎◌, subst, sym}
use Rattle.tc_links.specs.Lives.{TalkState}
use Rattle.tc_workers.specs.Between.{TakesIn}
use Rattle.tc_workers.proofs.Changing.{changes-left, changes-back}
use Rattle.tc_workers.proofs.worker.Worker.pass_next.Goals as goal

pub returns-in_default-remove : goal.returns-in_default-remove
returns-in_default-remove g c =
    rw (← c.self.view_is) (changes-left _ c.remove.ensures.desk c.remove.ensures.gone)

pub returns-in-Err : goal.returns-in-Err
returns-in-Err g c =
    rw (← c.self.view_is)
    (changes-back _ (sym c.in-Some-remove.ensures.held) c.remove.ensures.desk c.remove.ensures.gone
    (subst (λ (l : TalkState). TakesIn l c.remove.new.self c.adopt.new.self ⊎ (c.adopt.new.self ≡ c.remove.new.self))
    c.in-Err.ensures.back c.adopt.ensures.takes))

pub returns-in_default-pass_on : goal.returns-in_default-pass_on
returns-in_default-pass_on g c =
    rw (← c.self.view_is) (changes-left _ c.remove.ensures.desk c.remove.ensures.gone)
