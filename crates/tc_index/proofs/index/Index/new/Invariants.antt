use Rattle.std.proofs.Common.{◌≡◌, ℕ, ◌<◌, ◌≤◌, length, vec_capacity}
use Rattle.tc_index.specs.Tags.{shard_at}
use Rattle.tc_index.proofs.Fresh.{IsFresh}
use Rattle.tc_index.proofs.index.Index.new.Given as goal

abbrev pub invariant-loop : goal.invariant-loop
invariant-loop l = record {
  long : length l.made.items ≡ l.counter;
  room : l.count ≤ vec_capacity l.made;
  fresh : (n : ℕ) → n < length l.made.items → IsFresh (shard_at l.made.items n);
}
