use Rattle.std.specs.List.{list_all}
use Rattle.std.proofs.Common.{◌≡◌, length}
use Rattle.tc_item.specs.KeyRule.{is_key}
use Rattle.tc_grammar.proofs.outline.are_keys.Given as goal

abbrev pub invariant-loop-token : goal.invariant-loop-token
invariant-loop-token l = list_all is_key l.tokens ≡ list_all is_key l.initial.tokens

abbrev pub decreases-loop-token : goal.decreases-loop-token
decreases-loop-token l = length l.tokens
