-- Threads may share a crew's post, and a worker may go to its thread.
use mir.Syntax.{Sym}
use denote.RattleType.{RattleType}
use denote.Ref.{NamedLft}
use denote.Param.Send.{IsSend, IsSync, sendable, view_send}
use denote.Param.SendFields.{declared_send, declared_sync, variants_send, as_row_send}
use denote.Struct.Field.{row_field}
use denote.Struct.Tuple.{TupleAt, type_at}
use Rattle.std.proofs.Common.{[], ◌∷◌}
use Rattle.std.proofs.Crossing.{crosses}
use Rattle.http_server.proofs.log.Log.TheSendSync.{the_send as log_send}
use Rattle.atomic_table.proofs.shared.Seat.TheSendSync.{the_send as seat_send}
use Rattle.tc_plain.specs.declared.shared.cache.Cache.{Ghosts as CacheGhosts}
use Rattle.tc_locked.specs.declared.naming.Naming.{Ghosts as NamingGhosts}
use Rattle.tc_locked.proofs.Sent.{blob_send, key_send, keys_send, hits_send, outcome_send, witness_send, hall_sync}
use Rattle.tc_feed.specs.contracts.feed.Feed.{the_row as feed_row}
use Rattle.tc_session.specs.contracts.replies.Replies.{the_row as replies_row}
use Rattle.tc_session.specs.contracts.session.Session.{the_row as session_row}
use Rattle.tc_session.specs.contracts.session.Session.TheInside.{the_type as session_inside}
use Rattle.tc_links.specs.declared.wire.Wire.{Ghosts as WireGhosts}
use Rattle.tc_workers.specs.contracts.keeper.Keeper.{the_row as keeper_row}
use Rattle.tc_workers.specs.contracts.crew.Post.{the_row as post_row, the_type as post_type}
use Rattle.tc_workers.specs.contracts.worker.Worker.{the_row as worker_row}
use Rattle.tc_workers.specs.contracts.worker.Worker.TheInside.{the_type as worker_inside}
use Rattle.tc_locked.specs.contracts.seat.Seat.{the_row as seat_row}
use Rattle.tc_locked.specs.contracts.seat.Seat.TheInside.{the_type as seat_inside}
use Rattle.tc_links.specs.contracts.desk.Desk.{the_row as desk_row}
use Rattle.tc_links.specs.contracts.desk.Desk.TheInside.{the_type as desk_inside}
use Rattle.tc_links.specs.contracts.link.Link.{the_row as link_row}
use Rattle.tc_links.specs.contracts.link.Link.TheInside.{the_type as link_inside}
use Rattle.tc_links.specs.contracts.talk.Talk.{the_row as talk_row}
use Rattle.tc_links.specs.contracts.talk.Talk.TheInside.{the_type as talk_inside}
use Rattle.slab.specs.contracts.Slab.{the_row as slab_row}
use Rattle.slab.specs.contracts.Slab.TheInside.{the_type as slab_inside}
use Rattle.slab.specs.contracts.Entry.{the_row as entry_row}
use Rattle.std.below.std_heap.specs.contracts.Global.{the_row as heap_row}
use Rattle.std.specs.contracts.impls.GlobalAllocator.TheImpl.{ghosts as heap_ghosts}

pub post_sync : (a : NamedLft) (R C N G : RattleType) (H : CacheGhosts C.Denot) (M : NamingGhosts N.Denot)
    → IsSync R → IsSend C → IsSync G → IsSync (post_row a R C N G H M)
post_sync a R C N G H M r c gate =
    declared_sync (post_type a R C N G H M) (
      search (sendable, crosses, r) depth 20,
      (
        search (sendable, hall_sync C N H M c) depth 20,
        (
          search (sendable, crosses) depth 400 fits 1000000,
          (
            search (sendable, crosses) depth 400 fits 1000000,
            (search (sendable, gate) depth 20, (search (sendable, crosses) depth 100, (search (sendable, crosses) depth 20, tt))),
          ),
        ),
      ),
    )

seat_sent : (N : RattleType) (M : NamingGhosts N.Denot) → IsSend (seat_row N M)
seat_sent N M =
    view_send _ _ _ _ _ (declared_send (seat_inside N M)
    (search (sendable, seat_send, witness_send) depth 20, (search sendable depth 20, (search (sendable, crosses) depth 50, tt))))

desk_send : (N : RattleType) (M : NamingGhosts N.Denot) → IsSend (desk_row N M)
desk_send N M =
    view_send _ _ _ _ _ (declared_send (desk_inside N M) (
      seat_sent N M,
      (
        search (sendable, crosses, log_send) depth 400 fits 1000000,
        (search (sendable, crosses, log_send) depth 400 fits 1000000, tt),
      ),
    ))

feed_send : IsSend feed_row
feed_send = search (sendable, crosses, key_send, keys_send, blob_send) depth 400 fits 1000000

replies_send : IsSend replies_row
replies_send = search (sendable, crosses, key_send, blob_send, hits_send, outcome_send) depth 400 fits 1000000

session_send : IsSend session_row
session_send =
    view_send _ _ _ _ _ (declared_send session_inside
    (feed_send, (search (sendable, crosses) depth 50, (replies_send, (search (sendable, crosses) depth 50, tt)))))

link_send : (W : RattleType) (w : WireGhosts W.Denot) → IsSend W → IsSend (link_row W w)
link_send W w wire =
    view_send _ _ _ _ _ (declared_send (link_inside W w) (
      search sendable depth 20,
      (
        search (sendable, wire) depth 20,
        (
          session_send,
          (
            search sendable depth 20,
            (
              search (sendable, crosses) depth 50,
              (
                search sendable depth 20,
                (
                  search sendable depth 20,
                  (
                    search (sendable, crosses) depth 50,
                    (
                      search (sendable, crosses) depth 50,
                      (
                        search sendable depth 20,
                        (
                          search sendable depth 20,
                          (
                            search sendable depth 20,
                            (
                              search (sendable, crosses) depth 50,
                              (
                                search (sendable, crosses) depth 400 fits 1000000,
                                (search (sendable, crosses) depth 50, tt),
                              ),
                            ),
                          ),
                        ),
                      ),
                    ),
                  ),
                ),
              ),
            ),
          ),
        ),
      ),
    ))

talk_send : (W : RattleType) (w : WireGhosts W.Denot) → IsSend W → IsSend (talk_row W w)
talk_send W w wire =
    view_send _ _ _ _ _ (declared_send (talk_inside W w) (
      link_send W w wire,
      (
        search (sendable, crosses, log_send) depth 400 fits 1000000,
        (search (sendable, crosses, log_send) depth 50, tt),
      ),
    ))

entry_send : (T : RattleType) → IsSend T → IsSend (entry_row T)
entry_send T sent = search (variants_send, sent, sendable, crosses) depth 50

slab_send : (T : RattleType) → IsSend T → IsSend (slab_row T heap_row heap_ghosts)
slab_send T sent =
    view_send _ _ _ _ _ (declared_send (slab_inside T heap_row heap_ghosts)
    (search (sendable, crosses, entry_send T sent) depth 50, (search sendable depth 20, (search sendable depth 20, tt))))

pub worker_send : (W N : RattleType) (w : WireGhosts W.Denot) (M : NamingGhosts N.Denot)
    → IsSend W → IsSend (worker_row W N w M)
worker_send W N w M wire =
    view_send _ _ _ _ _ (declared_send (worker_inside W N w M) (
      search (sendable, crosses) depth 20,
      (
        desk_send N M,
        (
          search (sendable, crosses) depth 400 fits 1000000,
          (
            slab_send (talk_row W w) (talk_send W w wire),
            (
              search (sendable, crosses) depth 100,
              (
                search (sendable, crosses) depth 100,
                (
                  search (sendable, crosses) depth 400 fits 1000000,
                  (search (sendable, crosses) depth 100, (search (sendable, crosses) depth 100, tt)),
                ),
              ),
            ),
          ),
        ),
      ),
    ))

pub keeper_send : IsSend keeper_row
keeper_send = search (sendable, crosses) depth 50

-- what a closure of three captures holds goes with it
pub three_send : (ν : Sym) (A B C : RattleType) → IsSend A → IsSend B → IsSend C → IsSend (TupleAt ν (A ∷ B ∷ C ∷ []))
three_send ν A B C a b c =
    declared_send (type_at ν (A ∷ B ∷ C ∷ []))
    (as_row_send (row_field A) a, (as_row_send (row_field B) b, (as_row_send (row_field C) c, tt)))
