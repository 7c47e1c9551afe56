-- Threads may share a buffer, and one may go to another thread.
use denote.Param.Send.{IsSend, IsSync, sendable}
use Rattle.std.proofs.Crossing.{crosses}
use Rattle.circular_buffer.proofs.cells.Cells.TheSendSync as cells
use Rattle.circular_buffer.proofs.cells.Deed.TheSendSync as deed
use Rattle.tc_readbuf.specs.contracts.read_buf.ReadBuf.{the_row}

pub buf_send : IsSend the_row
buf_send = search (sendable, crosses, cells.the_send, deed.the_send) depth 400 fits 1000000

pub buf_sync : IsSync the_row
buf_sync = search (sendable, crosses, cells.the_sync, deed.the_sync) depth 400 fits 1000000
