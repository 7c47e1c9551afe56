-- Threads may share slots, and these may go to another thread.
use denote.Param.Send.{IsSend, IsSync, sendable}
use Rattle.std.proofs.Crossing.{crosses}
use Rattle.tc_plain.specs.contracts.shared.entry.Entry.{the_row as entry_row}
use Rattle.tc_slru.specs.contracts.lists.Lists.{the_row as lists_row}
use Rattle.tc_index.specs.contracts.index.Index.{the_row as index_row}
use Rattle.tc_wheel.specs.contracts.wheel.Wheel.{the_row as wheel_row}
use Rattle.tc_slots.specs.contracts.aside.Aside.{the_row as aside_row}
use Rattle.tc_slots.specs.contracts.slots.Slots.{the_row as slots_row}
use Rattle.tc_slots.specs.contracts.tables.Tables.{the_row as tables_row}

entry_send : IsSend entry_row
entry_send = search (sendable, crosses) depth 400 fits 1000000

lists_send : IsSend lists_row
lists_send = search (sendable, crosses) depth 400 fits 1000000

index_send : IsSend index_row
index_send = search (sendable, crosses) depth 400 fits 1000000

wheel_send : IsSend wheel_row
wheel_send = search (sendable, crosses) depth 400 fits 1000000

tables_send : IsSend tables_row
tables_send = search (sendable, crosses, entry_send, lists_send, index_send, wheel_send) depth 400 fits 1000000

aside_send : IsSend aside_row
aside_send = search (sendable, crosses, tables_send) depth 400 fits 1000000

pub slots_send : IsSend slots_row
slots_send = search (sendable, crosses, entry_send, lists_send, index_send, wheel_send, aside_send) depth 400 fits 1000000

entry_sync : IsSync entry_row
entry_sync = search (sendable, crosses) depth 400 fits 1000000

lists_sync : IsSync lists_row
lists_sync = search (sendable, crosses) depth 400 fits 1000000

index_sync : IsSync index_row
index_sync = search (sendable, crosses) depth 400 fits 1000000

wheel_sync : IsSync wheel_row
wheel_sync = search (sendable, crosses) depth 400 fits 1000000

tables_sync : IsSync tables_row
tables_sync = search (sendable, crosses, entry_sync, lists_sync, index_sync, wheel_sync) depth 400 fits 1000000

aside_sync : IsSync aside_row
aside_sync = search (sendable, crosses, tables_sync) depth 400 fits 1000000

pub slots_sync : IsSync slots_row
slots_sync = search (sendable, crosses, entry_sync, lists_sync, index_sync, wheel_sync, aside_sync) depth 400 fits 1000000
