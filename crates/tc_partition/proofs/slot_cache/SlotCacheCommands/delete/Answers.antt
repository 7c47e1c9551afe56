use Rattle.std.proofs.Common.{sym, ◌∙◌, ap}
use Rattle.tc_plain.specs.EvictionState.{EvictionState}
use Rattle.tc_plain.specs.Placing.{without_key}
use Rattle.tc_plain.specs.UserCache.{advance}
use Rattle.tc_plain.specs.Doing.{with_live}
use Rattle.tc_plain.proofs.Planning.{deleted_leaves}
use Rattle.tc_partition.specs.SlotCaches.{cache_of}
use Rattle.tc_partition.proofs.slot_cache.SlotCacheCommands.delete.Goals as goal

pub returns-then-remove-clause-state : goal.returns-then-remove-clause-state
returns-then-remove-clause-state c =
    let k = cache_of c.args.self.now in
    let key = c.args.key.now in
    ap (with_live k) c.remove.ensures.live
    ∙ ap (λ (j : EvictionState). with_live k (record j { areas = without_key key j.areas })) c.advance.ensures.live
    ∙ sym (deleted_leaves key (advance k c.args.now))

pub returns-else-remove-clause-state : goal.returns-else-remove-clause-state
returns-else-remove-clause-state c =
    let k = cache_of c.args.self.now in
    let key = c.args.key.now in
    ap (with_live k) c.remove.ensures.live
    ∙ ap (λ (j : EvictionState). with_live k (record j { areas = without_key key j.areas })) c.advance.ensures.live
    ∙ sym (deleted_leaves key (advance k c.args.now))
