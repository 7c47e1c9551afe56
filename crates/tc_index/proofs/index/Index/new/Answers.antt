use Rattle.std.proofs.Common.{List, sym, subst, arith}
use Rattle.tc_index.specs.Tags.{TaggedShard, shard_at}
use Rattle.tc_index.proofs.Fresh.{IsFresh, fresh_more}
use Rattle.tc_index.proofs.index.Index.new.Goals as goal

pub loop-preserved : goal.loop-preserved
loop-preserved c =
    let made = c.loop.made.items in
    record {
      long = omega (arith, c.push_reserved.ensures.len, c.loop.invariant.long, c.loop.made.ok.0, c.push_reserved.new.self.ok.0);
      room = omega (arith, c.push_reserved.ensures.capacity, c.loop.invariant.room);
      fresh = λ n lt.
          subst (λ (ps : List TaggedShard). IsFresh (shard_at ps n)) (sym c.push_reserved.ensures.items)
          (fresh_more made c.in_ok-new.field-0 c.loop.invariant.fresh
          (record {
            empty = record { first = c.in_ok-new.ensures.first; more = c.in_ok-new.ensures.more };
            room = c.in_ok-new.ensures.room;
          }) n (omega (arith, lt, c.push_reserved.ensures.len, c.loop.made.ok.0, c.push_reserved.new.self.ok.0)));
    }
