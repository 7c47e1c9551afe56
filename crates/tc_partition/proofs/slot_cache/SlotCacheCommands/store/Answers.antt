use Rattle.tc_partition.proofs.slot_cache.SlotCacheCommands.store.Goals as goal

pub change-requires-clause-sought : goal.change-requires-clause-sought
change-requires-clause-sought c =
    c.of-work.ensures.sought _ c.args.head.now.key c.args.self.now.live c.seek-hash.ensures.hashed c.seek-hash.ensures.place
    c.in_ok-plan.ensures.key
