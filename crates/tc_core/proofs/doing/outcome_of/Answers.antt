use Rattle.tc_fresh.proofs.Ends.{act-ends}
use Rattle.tc_core.proofs.doing.outcome_of.Goals as goal

pub returns-clause-can_end : goal.returns-clause-can_end
returns-clause-can_end g c =
    act-ends (g.C.Cache.settled c.args.cache.now) c.args.clock c.args.command.now c.in_ok-acted.acted.answer c.requires.runs
    c.in_ok-acted.ensures.acted.0
