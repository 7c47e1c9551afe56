use Rattle.std.specs.Prelude.{IfOk}
use Rattle.std.specs.List.{list_all}
use Rattle.std.proofs.Common.{◌≡◌, ◌∷◌, [], List, ℕ, Some, sym, ap, ◌∙◌, subst}
use Rattle.tc_item.specs.KeyRule.{is_key}
use Rattle.tc_grammar.specs.Retrieval.{keys_of}
use Rattle.tc_grammar.proofs.GoodKeys.{keys_of-empty, keys_of-none, keys_of-all, bad_key_front}
use Rattle.tc_grammar.proofs.retrieval.read_keys.Goals as goal

pub returns-in_default : goal.returns-in_default
returns-in_default c = sym (ap keys_of c.in_default.ensures.0 ∙ keys_of-empty)

pub returns-then-not-first : goal.returns-then-not-first
returns-then-not-first c =
    sym (keys_of-none c.in-Some.first.bytes.now c.next_word.new.self c.args.tokens c.in-Some.ensures.0
    (bad_key_front c.in-Some.first.bytes.now c.next_word.new.self (sym c.in-Some.ensures.1 ∙ c.if-not-first.true)))

pub returns-then-is_at_end : goal.returns-then-is_at_end
returns-then-is_at_end c =
    let rest : c.next_word.new.self ≡ [] = c.is_at_end.ensures c.if-is_at_end.true in
    let one : c.args.tokens ≡ c.in_ok-key.key ∷ [] =
    c.in-Some.ensures.0 ∙ (ap (λ l. c.in-Some.first.bytes.now ∷ l) rest ∙ ap (λ k. k ∷ []) (sym c.in_ok-key.ensures)) in
    ap Some (c.one.ensures ∙ sym one)
    ∙ sym (keys_of-all c.in-Some.first.bytes.now c.next_word.new.self c.args.tokens c.in-Some.ensures.0
    (sym c.in-Some.ensures.1 ∙ c.if-not-first.false) (ap (list_all is_key) rest))

pub returns : goal.returns
returns c =
    let all = ap (λ k. k ∷ c.next_word.new.self) c.in_ok-key.ensures ∙ sym c.in-Some.ensures.0 in
    subst (λ (l : List (List ℕ)). IfOk c.read_more_keys.result (λ keys. keys ≡ keys_of l)) all c.read_more_keys.ensures
