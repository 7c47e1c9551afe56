-- Shards as they are kept. Source: this project's own.
use Rattle.std.specs.Prelude.{◌≡◌, ◌≢◌, ℕ, ◌<◌, ◌≤◌, ◌^◌, ◌&&◌, nat_lt, true, length, vec_len, vec_capacity}
use Rattle.indexmap.specs.IndexMap.{spare}
use Rattle.tc_index.specs.Tags.{TaggedShard, Tagged, shard_at}
use Rattle.tc_index.specs.declared.shard.Shard.TheInside.{Inside as InShard}
use Rattle.tc_index.specs.declared.index.Index.TheInside.{Inside}

-- what the index sees of a shard
abbrev pub tagged_shard_of : InShard → TaggedShard
tagged_shard_of s = record {
  first = s.first.entries;
  more = s.more.items;
  has_room = nat_lt 1 (spare s.first) && nat_lt (vec_len s.more) (vec_capacity s.more);
}

-- what callers see
abbrev pub tagged_of : Inside → Tagged
tagged_of i = record {
  shards = i.shards.items;
  slots = i.slots;
  has_room = (shard_at i.shards.items i.last).has_room;
}

-- each shard but one has room, and 32 bits number all slots
pub record IsIndex (i : Inside) : Type 0 where
  pub last : i.last < length i.shards.items
  pub few : i.slots ≤ 2 ^ 32
  pub room : (n : ℕ) → n < length i.shards.items → n ≢ i.last → (shard_at i.shards.items n).has_room ≡ true
