use denote.Param.Send.{sendable}
use Rattle.tc_partition.proofs.Sent.{fast_send, fast_sync}
use Rattle.partcached.proofs.main.Goals as goal

pub serve-ended-requires-send-C : goal.serve-ended-requires-send-C
serve-ended-requires-send-C g c κs = search (sendable, fast_send)

pub serve-ended-requires-sync-C : goal.serve-ended-requires-sync-C
serve-ended-requires-sync-C g c κs = search (sendable, fast_sync)
