use Rattle.std.specs.Prelude.{IfOk}
use Rattle.std.proofs.Common.{sym, subst, arith}
use Rattle.tc_plain.specs.UserCache.{UserCache}
use Rattle.tc_plain.specs.Doing.{act}
use Rattle.tc_plain.specs.Keeping.{IsActed}
use Rattle.tc_partition.specs.FastState.{settled_in}
use Rattle.tc_partition.proofs.fast.Fast.act_at_once.Goals as goal

pub returns-clause-acted : goal.returns-clause-acted
returns-clause-acted c =
    let ran = subst
    (λ (k : UserCache). IfOk c.act_idle-acted.result (λ r. IsActed c.args.keep
    (act (settled_in c.drain.new.self) c.args.now c.args.command.now) r k))
    (sym c.renew.ensures.state) c.act_idle-acted.ensures.acted in
    subst
    (λ (k : UserCache). IfOk c.act_idle-acted.result (λ r. IsActed c.args.keep
    (act k c.args.now c.args.command.now) r (settled_in c.renew.new.self)))
    c.drain.ensures.settled ran

pub act_idle-acted-requires : goal.act_idle-acted-requires
act_idle-acted-requires c = c.drain.ensures.none (omega arith)
