use Rattle.std.specs.Prelude.{map}
use Rattle.std.proofs.Common.{◌≡◌, take}
use Rattle.tc_fresh.specs.Beginning.{fresh_cache}
use Rattle.tc_fresh.proofs.fresh.fresh_caches.Given as goal

abbrev pub invariant-loop-row : goal.invariant-loop-row
invariant-loop-row l = l.caches.items ≡ map fresh_cache (take l.row-index l.row-items)
