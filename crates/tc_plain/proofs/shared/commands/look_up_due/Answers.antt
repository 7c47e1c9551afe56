use Rattle.std.specs.Prelude.{IfOk}
use Rattle.std.proofs.Common.{Some, subst, ◌∙◌, ap, w64}
use Rattle.std.proofs.Math.Facts.{to_z-of_z}
use Rattle.tc_item.specs.Expiry.{due_of}
use Rattle.tc_plain.specs.UserCache.{advance}
use Rattle.tc_plain.specs.Doing.{all_looked_up, as_values}
use Rattle.tc_plain.specs.AreaLists.{change_of}
use Rattle.tc_plain.specs.Keeping.{IsActed}
use Rattle.tc_plain.proofs.shared.commands.look_up_due.Goals as goal

pub returns-clause-acted : goal.returns-clause-acted
returns-clause-acted g c =
    let k = advance (g.C.Commands.cache c.args.cache.now) c.args.now in
    let looked = subst
    (λ keys. IfOk c.look.result (λ r. IsActed c.args.keep (as_values k (all_looked_up (change_of (Some c.due-due.result)) keys k.live)) r
    (g.C.Commands.cache c.look.new.self)))
    c.as_slice.ensures c.look.ensures.acted in
    subst
    (λ d. IfOk c.look.result (λ r. IsActed c.args.keep (as_values k (all_looked_up (change_of (Some d)) c.args.keys.now k.live)) r
    (g.C.Commands.cache c.look.new.self)))
    (c.due-due.ensures ∙ ap (λ z. due_of z k.live.moment) (to_z-of_z {w = w64} {z = c.args.exptime} c.ranges.exptime))
    looked
