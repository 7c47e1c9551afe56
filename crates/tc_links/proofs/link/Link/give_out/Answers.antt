use Rattle.std.proofs.Common.{[], refl}
use Rattle.tc_links.proofs.SingleMoves.{carries-same}
use Rattle.tc_links.proofs.link.Link.give_out.Goals as goal

pub returns-then-still_waits : goal.returns-then-still_waits
returns-then-still_waits g c =
    rw (← c.self.view_is) (record { moved = ([], [], carries-same refl, λ goes_on. refl) })

pub returns : goal.returns
returns g c = rw (← c.self.view_is) (record { moved = c.give_replies.ensures.moved })
