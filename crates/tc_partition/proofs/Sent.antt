-- Threads may share a cache, and one may go to another thread.
use denote.Param.Send.{IsSend, IsSync, sendable, view_send, view_sync}
use denote.Param.SendFields.{declared_send, declared_sync}
use Rattle.std.proofs.Crossing.{crosses}
use Rattle.tc_slots.proofs.Sent.{slots_send, slots_sync}
use Rattle.tc_readbuf.proofs.Sent.{buf_send, buf_sync}
use Rattle.tc_stats.specs.contracts.counters.Counters.{the_row as counters_row}
use Rattle.tc_sketch.specs.contracts.sparing_sketch.SparingSketch.{the_row as sketch_row}
use Rattle.tc_partition.specs.contracts.live_slots.LiveSlots.{the_row as live_row}
use Rattle.tc_partition.specs.contracts.slot_cache.SlotCache.{the_row as cache_row, the_type as cache_type}
use Rattle.tc_partition.specs.contracts.fast.Fast.{the_row as fast_row}
use Rattle.tc_partition.specs.contracts.fast.Fast.TheInside.{the_type as fast_inside}

counters_send : IsSend counters_row
counters_send = search (sendable, crosses) depth 400 fits 1000000

sketch_send : IsSend sketch_row
sketch_send = search (sendable, crosses) depth 400 fits 1000000

live_send : IsSend live_row
live_send = search (sendable, crosses, slots_send, sketch_send) depth 400 fits 1000000

cache_send : IsSend cache_row
cache_send =
    declared_send cache_type
    (search sendable depth 20, (search sendable depth 20, (live_send, (search sendable depth 20, (counters_send, tt)))))

pub fast_send : IsSend fast_row
fast_send =
    view_send _ _ _ _ _ (declared_send fast_inside (cache_send, (buf_send, (search (sendable, crosses) depth 20, (counters_send, (search (sendable, crosses) depth 20, tt))))))

counters_sync : IsSync counters_row
counters_sync = search (sendable, crosses) depth 400 fits 1000000

sketch_sync : IsSync sketch_row
sketch_sync = search (sendable, crosses) depth 400 fits 1000000

live_sync : IsSync live_row
live_sync = search (sendable, crosses, slots_sync, sketch_sync) depth 400 fits 1000000

cache_sync : IsSync cache_row
cache_sync =
    declared_sync cache_type
    (search sendable depth 20, (search sendable depth 20, (live_sync, (search sendable depth 20, (counters_sync, tt)))))

pub fast_sync : IsSync fast_row
fast_sync =
    view_sync _ _ _ _ _ (declared_sync fast_inside (cache_sync, (buf_sync, (search (sendable, crosses) depth 20, (counters_sync, (search (sendable, crosses) depth 20, tt))))))
