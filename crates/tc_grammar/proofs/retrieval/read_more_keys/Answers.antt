use Rattle.std.specs.List.{list_all}
use Rattle.std.proofs.Common.{◌≡◌, ◌∷◌, true, Some, refl, sym, ap, ◌∙◌}
use Rattle.tc_item.specs.KeyRule.{is_key}
use Rattle.tc_grammar.proofs.GoodKeys.{keys_of-none, keys_of-all, bad_key_front, bad_key_behind, all_read}
use Rattle.tc_grammar.proofs.retrieval.read_more_keys.Goals as goal

pub returns-then-not-word : goal.returns-then-not-word
returns-then-not-word c =
    let bad = bad_key_front c.in-Some.word.bytes.now c.next_word.new.self (sym c.in-Some.ensures.1 ∙ c.if-not-word.true) in
    sym (keys_of-none c.args.first c.args.tokens (c.args.first ∷ c.args.tokens) refl
    (bad_key_behind c.args.first c.args.tokens
    (sym c.loop-word.invariant.good ∙ ap (list_all is_key) c.in-Some.ensures.0 ∙ bad)))

pub returns : goal.returns
returns c =
    let whole = c.args.first ∷ c.args.tokens in
    let all = all_read c.loop-word.keys.items c.loop-word.tokens whole c.loop-word.invariant.all c.in_default.ensures.0 in
    let good : list_all is_key c.args.tokens ≡ true =
    sym c.loop-word.invariant.good ∙ ap (list_all is_key) c.in_default.ensures.0 in
    ap Some (c.in_ok-from_vec.ensures ∙ (c.fit.ensures ∙ all)) ∙ sym (keys_of-all c.args.first c.args.tokens whole refl c.requires good)
