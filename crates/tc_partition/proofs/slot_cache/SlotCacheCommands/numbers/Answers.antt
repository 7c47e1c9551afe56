use Rattle.std.proofs.Common.{arith}
use Rattle.tc_plain.proofs.Planning.{weighs_little}
use Rattle.tc_partition.specs.SlotCaches.{cache_of}
use Rattle.tc_partition.proofs.slot_cache.SlotCacheCommands.numbers.Goals as goal

pub weigh-requires : goal.weigh-requires
weigh-requires c = omega (arith, weighs_little (cache_of c.args.self.now) c.requires)
