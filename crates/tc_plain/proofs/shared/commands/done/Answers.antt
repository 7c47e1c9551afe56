use Rattle.std.specs.Prelude.{None, IfOk}
use Rattle.std.proofs.Common.{subst}
use Rattle.tc_plain.specs.UserCache.{advance}
use Rattle.tc_plain.specs.Doing.{all_looked_up, as_values}
use Rattle.tc_plain.specs.AreaLists.{change_of}
use Rattle.tc_plain.specs.Keeping.{IsActed}
use Rattle.tc_plain.proofs.shared.commands.done.Goals as goal

pub returns-in-Get-clause-acted : goal.returns-in-Get-clause-acted
returns-in-Get-clause-acted g c =
    let k = advance (g.C.Commands.cache c.args.cache.now) c.args.now in
    let looked = subst
    (λ keys. IfOk c.look.result (λ r. IsActed c.args.keep (as_values k (all_looked_up (change_of None) keys k.live)) r
    (g.C.Commands.cache c.look.new.self)))
    c.as_slice.ensures c.look.ensures.acted in
    rw c.in-Get.is looked
