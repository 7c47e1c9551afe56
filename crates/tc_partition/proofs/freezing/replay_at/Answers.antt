use Rattle.tc_plain.specs.AreaLists.{live_of}
use Rattle.tc_partition.proofs.Frozen.{light_come}
use Rattle.tc_partition.proofs.freezing.replay_at.Goals as goal

pub do_noted-requires-clause-weight : goal.do_noted-requires-clause-weight
do_noted-requires-clause-weight c =
    light_come (live_of c.args.live.now) (live_of c.advance.new.self) c.in-Some.record.1 c.advance.ensures.live c.requires.sound
    c.requires.light
