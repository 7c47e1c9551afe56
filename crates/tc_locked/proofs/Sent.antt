-- Threads may share a hall: what lies under a book's lock may go from one to another.
use denote.RattleType.{RattleType}
use denote.Param.Send.{IsSend, IsSync, sendable, view_send, view_sync}
use denote.Param.SendFields.{declared_send, declared_sync}
use Rattle.std.proofs.Crossing.{crosses}
use Rattle.tc_item.specs.contracts.blob.Blob.{the_row as blob_row}
use Rattle.tc_item.specs.contracts.key.Key.{the_row as key_row}
use Rattle.tc_item.specs.contracts.few.Few.{the_row as few_row}
use Rattle.tc_grammar.specs.contracts.command.Command.{the_row as command_row}
use Rattle.tc_stats.specs.contracts.hits.Hit.{the_row as hit_row}
use Rattle.tc_stats.specs.contracts.counters.Counters.{the_row as counters_row}
use Rattle.tc_stats.specs.contracts.counters.Statistics.{the_row as statistics_row}
use Rattle.tc_stats.specs.contracts.outcome.Outcome.{the_row as outcome_row}
use Rattle.tc_plain.specs.contracts.shared.entry.Entry.{the_row as entry_row}
use Rattle.tc_plain.specs.contracts.reference.eviction_state.EvictionState.{the_row as live_row}
use Rattle.tc_plain.specs.contracts.reference.plain.Plain.{the_row as plain_row}
use Rattle.tc_plain.specs.contracts.reference.plain.Plain.TheInside.{the_type as plain_inside}
use Rattle.http_server.proofs.log.Log.TheSendSync.{the_send as log_send}
use Rattle.atomic_table.proofs.badge.Badge.TheSendSync.{the_send as badge_send}
use Rattle.atomic_table.proofs.shared.Shared.TheSendSync.{the_sync as shared_sync}
use Rattle.atomic_table.proofs.send_lease.SendLease.TheSendSync.{the_sync as lease_sync}
use Rattle.atomic_table.specs.declared.shared.TableRule.{Ghosts as RuleGhosts}
use Rattle.atomic_table.specs.contracts.owned.Table.{the_row as table_row, the_type as table_type}
use Rattle.std.below.std_heap.specs.contracts.Global.{the_row as heap_row}
use Rattle.std.specs.contracts.impls.GlobalAllocator.TheImpl.{ghosts as heap_ghosts}
use Rattle.tc_plain.specs.declared.shared.cache.Cache.{Ghosts as CacheGhosts}
use Rattle.tc_locked.specs.declared.naming.Naming.{Ghosts as NamingGhosts}
use Rattle.tc_locked.specs.contracts.kept_command.KeptCommand.{the_row as kept_command_row}
use Rattle.tc_locked.specs.contracts.kept_command.KeptCommand.TheInside.{the_type as kept_command_inside}
use Rattle.tc_locked.specs.contracts.call_entry.Numbers.{the_row as numbers_row}
use Rattle.tc_locked.specs.contracts.call_entry.CallEntry.{the_row as call_entry_row, the_type as call_entry_type}
use Rattle.tc_locked.specs.contracts.witness.Witness.{the_row as witness_row}
use Rattle.tc_locked.specs.contracts.witness.Witness.TheInside.{the_type as witness_inside}
use Rattle.tc_locked.specs.contracts.page.Page.{the_row as page_row, the_type as page_type}
use Rattle.tc_locked.specs.contracts.book.Register.{the_row as register_row, the_type as register_type}
use Rattle.tc_locked.specs.contracts.book.Book.{the_row as book_row}
use Rattle.tc_locked.specs.contracts.book.Book.TheInside.{the_type as book_inside}
use Rattle.tc_locked.specs.contracts.closing.Shut.{the_row as shut_row}
use Rattle.tc_locked.specs.contracts.closing.Shut.TheInside.{the_type as shut_inside}
use Rattle.tc_locked.specs.contracts.closing.Room.{the_row as room_row}
use Rattle.tc_locked.specs.contracts.closing.Room.TheInside.{the_type as room_inside}
use Rattle.tc_locked.specs.contracts.hall_book.HallBook.{the_row as hall_book_row}
use Rattle.tc_locked.specs.contracts.hall_book.HallBook.TheInside.{the_type as hall_book_inside}
use Rattle.tc_locked.specs.contracts.hall.Hall.{the_row as hall_row}
use Rattle.tc_locked.specs.contracts.hall.Hall.TheInside.{the_type as hall_inside}

pub blob_send : IsSend blob_row
blob_send = search (sendable, crosses) depth 400 fits 1000000

blob_sync : IsSync blob_row
blob_sync = search (sendable, crosses) depth 400 fits 1000000

pub key_send : IsSend key_row
key_send = search (sendable, crosses, blob_send) depth 400 fits 1000000

key_sync : IsSync key_row
key_sync = search (sendable, crosses, blob_sync) depth 400 fits 1000000

pub keys_send : IsSend (few_row key_row)
keys_send = search (sendable, crosses, key_send, key_sync) depth 400 fits 1000000

pub command_send : IsSend command_row
command_send = search (sendable, crosses, key_send, blob_send, keys_send) depth 400 fits 1000000

hit_send : IsSend hit_row
hit_send = search (sendable, crosses, key_send, blob_send) depth 400 fits 1000000

hit_sync : IsSync hit_row
hit_sync = search (sendable, crosses, key_sync, blob_sync) depth 400 fits 1000000

counters_send : IsSend counters_row
counters_send = search (sendable, crosses) depth 400 fits 1000000

statistics_send : IsSend statistics_row
statistics_send = search (sendable, crosses, counters_send) depth 400 fits 1000000

pub hits_send : IsSend (few_row hit_row)
hits_send = search (sendable, crosses, hit_send, hit_sync) depth 400 fits 1000000

pub outcome_send : IsSend outcome_row
outcome_send = search (sendable, crosses, hits_send, statistics_send) depth 400 fits 1000000

entry_send : IsSend entry_row
entry_send = search (sendable, crosses, key_send, blob_send) depth 400 fits 1000000

live_send : IsSend live_row
live_send = search (sendable, crosses, entry_send) depth 400 fits 1000000

pub plain_send : IsSend plain_row
plain_send =
    view_send _ _ _ _ _ (declared_send plain_inside
    (search sendable depth 20, (search sendable depth 20, (live_send, (search sendable depth 20, (counters_send, tt))))))

kept_command_send : IsSend kept_command_row
kept_command_send =
    view_send _ _ _ _ _ (declared_send kept_command_inside (search (sendable, crosses, command_send) depth 50, tt))

numbers_send : IsSend numbers_row
numbers_send = search (sendable, crosses) depth 100 fits 100000

call_entry_send : IsSend call_entry_row
call_entry_send =
    declared_send call_entry_type (
      search sendable depth 20,
      (
        search sendable depth 20,
        (
          search sendable depth 20,
          (
            search (sendable, crosses) depth 50,
            (search sendable depth 20, (kept_command_send, (outcome_send, tt))),
          ),
        ),
      ),
    )

pub witness_send : IsSend witness_row
witness_send =
    view_send _ _ _ _ _ (declared_send witness_inside (
      log_send numbers_row command_row numbers_send command_send,
      (log_send numbers_row outcome_row numbers_send outcome_send, tt),
    ))

page_send : IsSend page_row
page_send =
    declared_send page_type (
      log_send witness_row numbers_row witness_send numbers_send,
      (
        search sendable depth 20,
        (search (sendable, crosses, call_entry_send) depth 50, (search sendable depth 50, tt)),
      ),
    )

register_send : IsSend register_row
register_send =
    declared_send register_type
    (page_send, (search sendable depth 20, (search sendable depth 20, (search (sendable, crosses) depth 50, tt))))

book_send : (T : RattleType) (G : CacheGhosts T.Denot) → IsSend T → IsSend (book_row T G)
book_send T G sent =
    view_send _ _ _ _ _ (declared_send (book_inside T G) (
      search (sendable, sent) depth 20,
      (
        search (sendable, crosses, sent) depth 50,
        (search (sendable, crosses, plain_send) depth 50, (search sendable depth 50, (register_send, tt))),
      ),
    ))

shut_send : (T : RattleType) (G : CacheGhosts T.Denot) → IsSend T → IsSend (shut_row T G)
shut_send T G sent =
    view_send _ _ _ _ _ (declared_send (shut_inside T G) (search sendable depth 50, (book_send T G sent, tt)))

hall_book_send : (T N : RattleType) (G : CacheGhosts T.Denot) (H : NamingGhosts N.Denot) → IsSend T → IsSend (hall_book_row T N G H)
hall_book_send T N G H sent =
    view_send _ _ _ _ _ (declared_send (hall_book_inside T N G H)
    (search sendable depth 50, (book_send T G sent, (badge_send _, (search (sendable, crosses) depth 50, tt)))))

room_send : (T N : RattleType) (G : CacheGhosts T.Denot) (H : NamingGhosts N.Denot) → IsSend T → IsSend (room_row T N G H)
room_send T N G H sent =
    view_send _ _ _ _ _ (declared_send (room_inside T N G H)
    (search (sendable, crosses, shut_send T G sent) depth 50, (search (sendable, crosses) depth 50, tt)))

table_sync : (S V K P : RattleType) (g : RuleGhosts P.Denot S.Denot V.Denot K.Denot) → IsSend S
    → IsSync (table_row S V K P heap_row g heap_ghosts)
table_sync S V K P g s =
    declared_sync (table_type S V K P heap_row g heap_ghosts) (
      shared_sync S V K P g s,
      (
        search sendable depth 20,
        (
          search sendable depth 20,
          (
            search (sendable, crosses, lease_sync) depth 50,
            (
              search (sendable, crosses, lease_sync) depth 50,
              (search (sendable, crosses) depth 20, tt),
            ),
          ),
        ),
      ),
    )

pub hall_sync : (T N : RattleType) (G : CacheGhosts T.Denot) (H : NamingGhosts N.Denot) → IsSend T → IsSync (hall_row T N G H)
hall_sync T N G H sent =
    view_sync _ _ _ _ _ (declared_sync (hall_inside T N G H) (
      search (sendable, table_sync, witness_send) depth 20,
      (
        search (sendable, crosses, hall_book_send T N G H sent) depth 50,
        (
          search sendable depth 20,
          (
            search sendable depth 20,
            (
              search sendable depth 20,
              (search (sendable, crosses, room_send T N G H sent) depth 50, tt),
            ),
          ),
        ),
      ),
    ))
