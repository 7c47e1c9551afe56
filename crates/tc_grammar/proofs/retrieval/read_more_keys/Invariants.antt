use Rattle.std.specs.List.{list_all}
use Rattle.std.proofs.Common.{◌≡◌, ◌++◌, ◌∷◌, length}
use Rattle.tc_item.specs.KeyRule.{is_key}
use Rattle.tc_grammar.proofs.retrieval.read_more_keys.Given as goal

abbrev pub invariant-loop-word : goal.invariant-loop-word
invariant-loop-word l = record {
  all : l.keys.items ++ l.tokens ≡ l.fn.first ∷ l.initial.tokens;
  good : list_all is_key l.tokens ≡ list_all is_key l.initial.tokens;
}

abbrev pub decreases-loop-word : goal.decreases-loop-word
decreases-loop-word l = length l.tokens
