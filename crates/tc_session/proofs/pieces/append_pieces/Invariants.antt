use Rattle.std.specs.List.{flat_map}
use Rattle.std.proofs.Common.{◌≡◌, ◌++◌, ◌≤◌, ◌+◌, take, drop, length, vec_len, vec_capacity}
use Rattle.tc_session.specs.Replies.{value_text}
use Rattle.tc_session.specs.Unsent.{joined, reach}
use Rattle.tc_session.proofs.pieces.append_pieces.Given as goal

abbrev pub invariant-loop-hit : goal.invariant-loop-hit
invariant-loop-hit l = record {
  bytes : joined (drop l.from l.to.items) l.chain
      ≡ drop l.from l.fn.to.items ++ flat_map (value_text l.form) (take l.hit-index l.hits);
  within : l.from + reach l.chain ≤ vec_len l.to;
  front : take (length l.fn.to.items) l.to.items ≡ l.fn.to.items;
  capacity : vec_capacity l.fn.to ≤ vec_capacity l.to;
}
