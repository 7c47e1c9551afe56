use Rattle.tc_plain.specs.AreaLists.{live_of as lists_live}
use Rattle.tc_partition.specs.SlotCaches.{cache_of}
use Rattle.tc_partition.proofs.Frozen.{frozen_sound}
use Rattle.tc_partition.proofs.fast.FastCache.freeze.Goals as goal

pub invariant_of-result : goal.invariant_of-result
invariant_of-result c =
    let i = c.self.inside in
    frozen_sound (cache_of i.cache) _ (lists_live c.replay.new.live) i.cache.live.held.slots i.waiting i.moment
    c.self.invariant.sound c.self.invariant.lazy c.in_ok-live.ensures.live c.replay.ensures
