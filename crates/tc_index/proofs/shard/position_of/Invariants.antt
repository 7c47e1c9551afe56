use Rattle.std.proofs.Common.{◌≡◌, count_by, take}
use Rattle.tc_index.specs.Tags.{is_place}
use Rattle.tc_index.proofs.shard.position_of.Given as goal

abbrev pub invariant-loop-i : goal.invariant-loop-i
invariant-loop-i l = count_by (is_place l.tag.0 l.slot.0) (take l.i l.places) ≡ 0
