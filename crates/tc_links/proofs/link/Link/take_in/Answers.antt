use Rattle.std.proofs.Common.{[], refl}
use Rattle.tc_links.proofs.SingleMoves.{carries-same}
use Rattle.tc_links.proofs.link.Link.take_in.Goals as goal

pub returns-then-waits : goal.returns-then-waits
returns-then-waits g c =
    rw (← c.self.view_is)
    (record { moved = ([], carries-same refl, λ goes_on. refl) })

pub returns-in-None : goal.returns-in-None
returns-in-None g c =
    let lost = c.read.ensures.moved.0 in
    rw (← c.self.view_is, c.tell_binary.ensures)
    (record { moved = (lost, c.read.ensures.moved.1, λ goes_on. cc) })
