use Rattle.std.proofs.Common.{◌≡◌, ◌+◌, drop}
use Rattle.std.specs.List.{prefix_len}
use Rattle.tc_item.specs.KeyRule.{is_key_byte}
use Rattle.tc_item.proofs.key_bytes.run_of_few.Given as goal

abbrev pub invariant-loop-i : goal.invariant-loop-i
invariant-loop-i l = l.i + prefix_len is_key_byte (drop l.i l.bytes) ≡ prefix_len is_key_byte l.bytes
