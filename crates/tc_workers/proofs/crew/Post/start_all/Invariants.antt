use Rattle.std.proofs.Common.{◌≡◌, ◌+◌, ◌≤◌, ◌++◌, reverse, vec_len}
use Rattle.std.specs.Prelude.{vec_capacity}
use Rattle.tc_workers.specs.Crews.{numbers_in, promised_by}
use Rattle.tc_workers.proofs.crew.Post.start_all.Given as goal

abbrev pub invariant-loop-worker : goal.invariant-loop-worker
invariant-loop-worker g l =
    record {
      len : vec_len l.handles + vec_len l.seats + vec_len l.crew ≡ vec_len l.fn.crew;
      empty : vec_len l.seats ≡ 0;
      room : (vec_len l.fn.crew ≤ vec_capacity l.handles) × (vec_len l.fn.crew ≤ vec_capacity l.seats);
      numbers :
          numbers_in l.crew.items ++ reverse (promised_by l.handles.items) ≡ numbers_in l.fn.crew.items;
    }

abbrev pub decreases-loop-worker : goal.decreases-loop-worker
decreases-loop-worker g l = vec_len l.crew
