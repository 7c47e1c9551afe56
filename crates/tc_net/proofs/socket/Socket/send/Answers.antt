use Rattle.tc_net.proofs.Slices.{taken-of_four}
use Rattle.tc_net.proofs.socket.Socket.send.Goals as goal

pub returns-clause-takes : goal.returns-clause-takes
returns-clause-takes g c =
    taken-of_four _ _ c.send_slices.result c.new.result c.new-2.result c.new-3.result c.new-4.result _ _ _ _ _ _ _ _ _
    c.new.ensures c.new-2.ensures c.new-3.ensures c.new-4.ensures c.split_first-behind.ensures.split
    c.split_first-behind-2.ensures.split c.split_first-behind-3.ensures.split c.split_first.ensures.split
    c.send_slices.ensures.within c.send_slices.ensures.takes
