use Rattle.tc_plain.proofs.Stays.{sound_advance}
use Rattle.tc_partition.specs.SlotCaches.{cache_of}
use Rattle.tc_partition.proofs.slot_cache.SlotCacheCommands.advance.Goals as goal

pub returns-clause-sound : goal.returns-clause-sound
returns-clause-sound c = λ sound. rw c.advance.ensures.live (sound_advance (cache_of c.args.self.now) c.args.now sound)
