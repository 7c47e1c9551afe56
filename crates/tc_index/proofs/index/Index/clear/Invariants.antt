use Rattle.std.proofs.Common.{◌≡◌, ℕ, ◌<◌, true}
use Rattle.tc_index.specs.Tags.{shard_at}
use Rattle.tc_index.proofs.Fresh.{IsEmpty}
use Rattle.tc_index.proofs.index.Index.clear.Given as goal

abbrev pub invariant-loop-shard : goal.invariant-loop-shard
invariant-loop-shard l = record {
  empty : (n : ℕ) → n < l.shard-index → IsEmpty (shard_at l.shard-items n);
  room : (n : ℕ) → (shard_at l.initial.shard-items n).has_room ≡ true → (shard_at l.shard-items n).has_room ≡ true;
}
