use Rattle.std.proofs.Common.{◌≡◌, ◌+◌, ◌-◌, ◌<◌, ◌≤◌, [], length, take, drop, sym, ap, ◌∙◌, arith}
use Rattle.std.proofs.Common.{length-drop}
use Rattle.std.proofs.lemmas.Bool.Decides.{nat_tests}
use Rattle.std.proofs.lemmas.List.{take_rest}
use Rattle.std.specs.List.{prefix_len}
use Rattle.tc_item.specs.KeyRule.{is_key_byte}
use Rattle.tc_grammar.proofs.Parts.{next_none, next_some, word_is, word_some, run_in_front}
use Rattle.tc_grammar.proofs.tokens.Tokens.next_word.Goals as goal

pub returns-then-is_empty : goal.returns-then-is_empty
returns-then-is_empty c =
    let xs = c.self.inside.rest.now in
    let k = c.space_length.result in
    let empty : length (take (length xs - k) (drop k xs)) ≡ 0 =
    grind (arith, nat_tests, c.is_empty.ensures, c.if-is_empty.true) in
    let none : c.args.self.now ≡ [] = sym c.self.view_is ∙ next_none xs k c.space_length.ensures.same empty in
    (none, none)

pub is_key_run-requires-clause-some : goal.is_key_run-requires-clause-some
is_key_run-requires-clause-some c =
    let xs = c.self.inside.rest.now in
    let k = c.space_length.result in
    let bytes = take (length xs - k) (drop k xs) in
    let run = c.key_run-run.result in
    let some : 0 < length bytes = grind (arith, nat_tests, c.is_empty.ensures, c.if-is_empty.false) in
    let word = word_is bytes run c.first_space.result c.key_run-run.ensures.value c.first_space.ensures.value in
    let full = word_some xs k (run + c.first_space.result) some c.space_length.ensures.word word in
    omega (arith, c.split_at.ensures.front_len, full)

pub is_key_run-requires-clause-run : goal.is_key_run-requires-clause-run
is_key_run-requires-clause-run c =
    let xs = c.self.inside.rest.now in
    let k = c.space_length.result in
    let bytes = take (length xs - k) (drop k xs) in
    let run = c.key_run-run.result in
    let n = run + c.first_space.result in
    let few : prefix_len is_key_byte bytes ≤ n = omega (arith, c.key_run-run.ensures.value) in
    let room : n ≤ length bytes =
    omega (arith, c.first_space.ensures.within, c.key_run-run.ensures.within, ap length (take_rest bytes run), length-drop run bytes) in
    ap (prefix_len is_key_byte) c.split_at.ensures.front
    ∙ (run_in_front is_key_byte bytes n few room ∙ sym c.key_run-run.ensures.value)

pub returns : goal.returns
returns c =
    let xs = c.self.inside.rest.now in
    let k = c.space_length.result in
    let bytes = take (length xs - k) (drop k xs) in
    let run = c.key_run-run.result in
    let some : 0 < length bytes = grind (arith, nat_tests, c.is_empty.ensures, c.if-is_empty.false) in
    let word = word_is bytes run c.first_space.result c.key_run-run.ensures.value c.first_space.ensures.value in
    let full = word_some xs k (run + c.first_space.result) some c.space_length.ensures.word word in
    let read = next_some xs k (run + c.first_space.result) c.space_length.ensures.same word full in
    (rw (c.split_at.ensures.front, c.split_at.ensures.back) (sym c.self.view_is ∙ read), c.is_key_run.ensures)
