use Rattle.std.specs.List.{list_all}
use Rattle.std.proofs.Common.{◌≡◌, ◌∷◌, false, sym, ap, ◌∙◌}
use Rattle.tc_item.specs.KeyRule.{is_key}
use Rattle.tc_grammar.specs.Retrieval.{keys_of}
use Rattle.tc_grammar.proofs.GoodKeys.{keys_of-empty, keys_of-none, keys_of-all, bad_key_front, bad_key_behind}
use Rattle.tc_grammar.proofs.outline.are_keys.Goals as goal

pub returns-in_default-clause-none : goal.returns-in_default-clause-none
returns-in_default-clause-none c = λ no. ap keys_of c.in_default.ensures.0 ∙ keys_of-empty

pub returns-then-not-is_key-clause-none : goal.returns-then-not-is_key-clause-none
returns-then-not-is_key-clause-none c = λ no.
    keys_of-none c.in-Some.first.now c.next.new.self c.args.tokens c.in-Some.ensures
    (bad_key_front c.in-Some.first.now c.next.new.self (sym c.is_key.ensures ∙ c.if-not-is_key.true))

pub returns-then-not-is_key-2-clause-none : goal.returns-then-not-is_key-2-clause-none
returns-then-not-is_key-2-clause-none c = λ no.
    let bad : list_all is_key (c.in-Some-next.token.now ∷ c.next-in-loop-token.new.self) ≡ false =
    bad_key_front c.in-Some-next.token.now c.next-in-loop-token.new.self
    (sym c.is_key-in-Some-next.ensures ∙ c.if-not-is_key-2.true) in
    keys_of-none c.in-Some.first.now c.next.new.self c.args.tokens c.in-Some.ensures
    (bad_key_behind c.in-Some.first.now c.next.new.self
    (sym c.loop-token.invariant ∙ ap (list_all is_key) c.in-Some-next.ensures ∙ bad))

pub returns-clause-keys : goal.returns-clause-keys
returns-clause-keys c = λ yes.
    keys_of-all c.in-Some.first.now c.next.new.self c.args.tokens c.in-Some.ensures
    (sym c.is_key.ensures ∙ c.if-not-is_key.false)
    (sym c.loop-token.invariant ∙ ap (list_all is_key) c.in_default-next.ensures.0)
