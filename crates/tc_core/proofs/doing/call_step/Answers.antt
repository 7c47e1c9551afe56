use Rattle.std.proofs.Common.{arith}
use Rattle.std.proofs.lemmas.Result.{on_ok_weaker, on_err_weaker}
use Rattle.tc_core.proofs.Calls.{call_effect-caches, call_effect-connection, call-refused}
use Rattle.tc_core.proofs.doing.call_step.Goals as goal

pub returns-clause-caches : goal.returns-clause-caches
returns-clause-caches g c =
    rw (← c.number-number.ensures)
    (on_ok_weaker c.cache_step.result
    (call_effect-caches g.C.Cache.settled c.args.caches.now.items c.number-number.result c.index_mut-cache.result.now c.args.clock
    c.args.command.now c.args.session.now.endpoint c.args.session.now.out c.index_mut-cache.ensures.value (omega arith)
    (omega (arith, c.args.caches.now.ok.0)) c.cache_step.new.cache)
    c.cache_step.ensures.cache)

pub returns-clause-connection : goal.returns-clause-connection
returns-clause-connection g c =
    rw (← c.number-number.ensures)
    (on_ok_weaker c.cache_step.result
    (call_effect-connection g.C.Cache.settled c.args.caches.now.items c.number-number.result c.index_mut-cache.result.now
    c.args.clock c.args.command.now c.args.session.now.endpoint c.args.session.now.out c.index_mut-cache.ensures.value
    (omega arith) (omega (arith, c.args.caches.now.ok.0))
    (record { endpoint = c.cache_step.new.session.endpoint; out = c.cache_step.new.session.out })
    c.cache_step.ensures.endpoint)
    c.cache_step.ensures.said)

pub returns-clause-refused : goal.returns-clause-refused
returns-clause-refused g c =
    rw (← c.number-number.ensures)
    (on_err_weaker c.cache_step.result
    (call-refused g.C.Cache.settled c.args.caches.now.items c.number-number.result c.index_mut-cache.result.now c.args.clock
    c.args.command.now c.args.session.now.endpoint c.args.session.now.out c.index_mut-cache.ensures.value (omega arith)
    (omega (arith, c.args.caches.now.ok.0)) c.cache_step.new.cache)
    c.cache_step.ensures.left)
