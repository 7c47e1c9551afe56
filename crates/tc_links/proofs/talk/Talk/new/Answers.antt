use Rattle.tc_links.proofs.Living.{has_talk-opened}
use Rattle.tc_links.proofs.talk.Talk.new.Goals as goal

pub invariant_of-result : goal.invariant_of-result
invariant_of-result g c = has_talk-opened c.new.ensures.endpoint c.new.ensures.out c.new.ensures.last
