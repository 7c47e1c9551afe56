use Rattle.std.proofs.Common.{◌≡◌, ap, arith}
use Rattle.tc_model.specs.Areas.{total}
use Rattle.tc_plain.specs.Entries.{weight}
use Rattle.tc_plain.specs.EvictionState.{EvictionState}
use Rattle.tc_plain.specs.Placing.{placed}
use Rattle.tc_plain.specs.AreaLists.{areas_of, live_of}
use Rattle.tc_plain.proofs.Used.{placed_le}
use Rattle.tc_plain.proofs.reference.eviction_state.EvictionState.change.Goals as goal

pub settle-requires-clause-weight : goal.settle-requires-clause-weight
settle-requires-clause-weight c =
    let l = live_of c.args.self.now in
    let same : total weight (areas_of c.use_new.new.self.areas) ≡ total weight (placed l c.args.entry) =
    ap (λ (j : EvictionState). total weight j.areas) c.use_new.ensures.live in
    omega (arith, same, placed_le l c.args.entry, c.requires.weight)
