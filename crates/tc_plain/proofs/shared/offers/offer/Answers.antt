use Rattle.std.proofs.Common.{ap}
use Rattle.std.proofs.lemmas.Bool.{eq-eqb}
use Rattle.tc_plain.specs.Storing.{Offered}
use Rattle.tc_plain.proofs.shared.offers.offer.Goals as goal

pub returns-in_ok-joined-in-Append-Some : goal.returns-in_ok-joined-in-Append-Some
returns-in_ok-joined-in-Append-Some c cas =
    rw (c.in-Append-Some.is-0, c.in-Append-Some.is-1) (ap Offered (c.in_ok-joined-in-Append-Some.ensures cas))

pub returns-in_ok-joined-in-Prepend-Some : goal.returns-in_ok-joined-in-Prepend-Some
returns-in_ok-joined-in-Prepend-Some c cas =
    rw (c.in-Prepend-Some.is-0, c.in-Prepend-Some.is-1) (ap Offered (c.in_ok-joined-in-Prepend-Some.ensures cas))

pub returns-in_ok-own_item-in-Cas-Some : goal.returns-in_ok-own_item-in-Cas-Some
returns-in_ok-own_item-in-Cas-Some c cas =
    rw (
      c.in-Cas-Some.is-0,
      c.in-Cas-Some.is-1,
      eq-eqb c.in-Cas-Some.old.now.item.cas c.args.head.now.cas_unique c.if-old-head.true,
    )
    (ap Offered (c.in_ok-own_item-in-Cas-Some.ensures cas))

pub returns-in_ok-own_item-in-Set-default : goal.returns-in_ok-own_item-in-Set-default
returns-in_ok-own_item-in-Set-default c cas = rw c.in-Set-default.is-0 (ap Offered (c.in_ok-own_item-in-Set-default.ensures cas))

pub returns-in_ok-own_item-in-Add-None : goal.returns-in_ok-own_item-in-Add-None
returns-in_ok-own_item-in-Add-None c cas =
    rw (c.in-Add-None.is-0, c.in-Add-None.is-1) (ap Offered (c.in_ok-own_item-in-Add-None.ensures cas))

pub returns-in_ok-own_item-in-Replace-Some : goal.returns-in_ok-own_item-in-Replace-Some
returns-in_ok-own_item-in-Replace-Some c cas =
    rw (c.in-Replace-Some.is-0, c.in-Replace-Some.is-1) (ap Offered (c.in_ok-own_item-in-Replace-Some.ensures cas))
