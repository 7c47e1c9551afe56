use Rattle.std.specs.Prelude.{map}
use Rattle.std.proofs.Common.{◌≡◌, take}
use Rattle.tc_fresh.specs.Beginning.{fresh_cache}
use Rattle.tc_kinds.proofs.begin.begin_all.Given as goal

abbrev pub invariant-loop-row : goal.invariant-loop-row
invariant-loop-row g l = map g.C.Cache.settled l.caches.items ≡ map fresh_cache (take l.row-index l.row-items)
