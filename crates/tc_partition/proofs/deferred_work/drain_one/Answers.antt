use Rattle.std.proofs.Common.{◌∙◌, ap}
use Rattle.tc_partition.proofs.Draining.{placed_first, sound_first, weight_first, alive_first, first_drained, first_names, first_rests}
use Rattle.tc_partition.proofs.deferred_work.drain_one.Goals as goal

pub do_noted-requires-clause-placed : goal.do_noted-requires-clause-placed
do_noted-requires-clause-placed c =
    placed_first c.args.live.now c.args.waiting.now c.in-Some.first.0 c.in-Some.first.1 c.take.new.self c.in-Some.ensures
    c.requires.first c.owning.ensures c.come_to.new.live c.come_to.ensures.live c.come_to.ensures.alive

pub do_noted-requires-clause-sound : goal.do_noted-requires-clause-sound
do_noted-requires-clause-sound c =
    sound_first c.args.live.now c.args.waiting.now c.in-Some.first.0 c.in-Some.first.1 c.take.new.self c.in-Some.ensures
    c.requires.first c.owning.ensures c.come_to.new.live c.come_to.ensures.live c.come_to.ensures.alive

pub do_noted-requires-clause-weight : goal.do_noted-requires-clause-weight
do_noted-requires-clause-weight c =
    weight_first c.args.live.now c.args.waiting.now c.in-Some.first.0 c.in-Some.first.1 c.take.new.self c.in-Some.ensures
    c.requires.first c.owning.ensures c.come_to.new.live c.come_to.ensures.live c.come_to.ensures.alive c.requires.light

pub do_noted-requires-clause-alive : goal.do_noted-requires-clause-alive
do_noted-requires-clause-alive c =
    alive_first c.args.live.now c.args.waiting.now c.in-Some.first.0 c.in-Some.first.1 c.take.new.self c.in-Some.ensures
    c.requires.first c.owning.ensures c.come_to.new.live c.come_to.ensures.live c.come_to.ensures.alive

pub returns-clause-drained : goal.returns-clause-drained
returns-clause-drained c =
    first_drained c.args.live.now c.args.waiting.now c.in-Some.first.0 c.in-Some.first.1 c.take.new.self c.in-Some.ensures
    c.requires.first c.owning.ensures c.come_to.new.live c.come_to.ensures.live c.come_to.ensures.alive c.do_noted.new.live
    c.do_noted.ensures.live c.do_noted.ensures.slots

pub returns-clause-rest : goal.returns-clause-rest
returns-clause-rest c =
    first_names c.args.live.now c.args.waiting.now c.in-Some.first.0 c.in-Some.first.1 c.take.new.self c.in-Some.ensures
    c.requires.first c.owning.ensures c.come_to.new.live c.come_to.ensures.live c.come_to.ensures.alive c.do_noted.new.live
    c.do_noted.ensures.live c.do_noted.ensures.slots

pub returns-clause-rests : goal.returns-clause-rests
returns-clause-rests c =
    first_rests c.args.live.now c.args.waiting.now c.in-Some.first.0 c.in-Some.first.1 c.take.new.self c.in-Some.ensures
    c.requires.first c.owning.ensures c.come_to.new.live c.come_to.ensures.live c.come_to.ensures.alive c.do_noted.new.live
    c.do_noted.ensures.live c.do_noted.ensures.slots
