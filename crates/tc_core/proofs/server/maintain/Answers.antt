use Rattle.std.proofs.Common.{arith}
use Rattle.tc_core.proofs.Calls.{maintained-caches}
use Rattle.tc_core.proofs.server.maintain.Goals as goal

pub returns : goal.returns
returns g c =
    maintained-caches g.C.Cache.settled c.args.caches.now.items c.args.user c.index_mut-cache.result.now c.maintain.new.self
    c.args.clock c.index_mut-cache.ensures.value (omega arith) (omega (arith, c.args.caches.now.ok.0))
    c.maintain.ensures.advanced
