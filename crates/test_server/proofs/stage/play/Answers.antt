use denote.Param.Send.{sendable}
use Rattle.tc_partition.proofs.Sent.{fast_send, fast_sync}
use Rattle.test_server.proofs.stage.play.Goals as goal

pub play_over-requires-2-send-C : goal.play_over-requires-2-send-C
play_over-requires-2-send-C g c κs within = search (sendable, fast_send)

pub play_over-requires-2-sync-C : goal.play_over-requires-2-sync-C
play_over-requires-2-sync-C g c κs within = search (sendable, fast_sync)
