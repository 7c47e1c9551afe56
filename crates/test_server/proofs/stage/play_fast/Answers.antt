use denote.Param.Send.{sendable}
use Rattle.tc_partition.proofs.Sent.{fast_send, fast_sync}
use Rattle.test_server.proofs.stage.play_fast.Goals as goal

pub play_over-requires-send-C : goal.play_over-requires-send-C
play_over-requires-send-C g c κs within = search (sendable, fast_send)

pub play_over-requires-sync-C : goal.play_over-requires-sync-C
play_over-requires-sync-C g c κs within = search (sendable, fast_sync)
