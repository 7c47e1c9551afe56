use Rattle.std.proofs.Common.{◌≡◌, ◌+◌, ◌-◌, ◌*◌, ◌<◌, length, Some, true, drop, get_or, sym, arith}
use Rattle.std.specs.Str.{all_ascii_digits}
use Rattle.std.proofs.lemmas.Grind.{common_steps}
use Rattle.tc_grammar.specs.Numbers.{value_after, number_of}
use Rattle.tc_grammar.proofs.Digits.{value_after-drop_all, digits-drop_all, value_after-grows, value_after-drop, digits-drop}
use Rattle.tc_grammar.proofs.Digits.{no_number, a_number}
use Rattle.std.proofs.lemmas.Bool.Decides.{nat_tests}
use Rattle.tc_grammar.proofs.number.read_number.Goals.{then-n-greatest-via-then-n-greatest}
use Rattle.tc_grammar.proofs.number.read_number.Goals.{then-n-greatest-via-else-n-greatest+then-is_empty}
use Rattle.tc_grammar.proofs.number.read_number.Goals as goal

pub returns-then-token-gt-LONGEST_NUMBER-clause-value : goal.returns-then-token-gt-LONGEST_NUMBER-clause-value
returns-then-token-gt-LONGEST_NUMBER-clause-value c = sym (no_number c.args.greatest c.args.token.now (λ a b d v. omega arith))

pub returns-then-not-is_ascii_digit-clause-value :
    goal.returns-then-not-is_ascii_digit-clause-value
returns-then-not-is_ascii_digit-clause-value c =
    let e = digits-drop c.args.token.now c.loop-byte.byte-index (omega arith) in
    sym (no_number c.args.greatest c.args.token.now
    (λ a b d v. let all : all_ascii_digits (drop c.loop-byte.byte-index c.args.token.now) ≡ true = cc in
    grind (arith, common_steps)))

pub returns-in_err-checked_mul-clause-value : goal.returns-in_err-checked_mul-clause-value
returns-in_err-checked_mul-clause-value c =
    let e = value_after-drop c.loop-byte.n c.args.token.now c.loop-byte.byte-index (omega arith) in
    let grows = value_after-grows (10 * c.loop-byte.n + (get_or c.args.token.now c.loop-byte.byte-index 0 - 48))
    (drop (c.loop-byte.byte-index + 1) c.args.token.now) in
    rw c.from_residual.ensures
    (sym (no_number c.args.greatest c.args.token.now (λ a b d v. c.in_err-checked_mul.ensures (omega arith))))

pub returns-in_err-n-clause-value : goal.returns-in_err-n-clause-value
returns-in_err-n-clause-value c =
    let e = value_after-drop c.loop-byte.n c.args.token.now c.loop-byte.byte-index (omega arith) in
    let grows = value_after-grows (10 * c.loop-byte.n + (get_or c.args.token.now c.loop-byte.byte-index 0 - 48))
    (drop (c.loop-byte.byte-index + 1) c.args.token.now) in
    rw c.from_residual-in_err-n.ensures
    (sym (no_number c.args.greatest c.args.token.now
    (λ a b d v. c.in_err-n.ensures (omega (arith, c.in_ok-checked_mul.ensures)))))

pub returns-then-n-greatest-clause-value : goal.returns-then-n-greatest-clause-value
returns-then-n-greatest-clause-value c =
    let e = value_after-drop_all c.loop-byte.n c.args.token.now c.loop-byte.byte-index (omega arith) in
    sym (no_number c.args.greatest c.args.token.now
    (λ a b d v. elim c.then-n-greatest.branch [
      | then-n-greatest-via-then-n-greatest w ↦ omega arith
      | then-n-greatest-via-else-n-greatest+then-is_empty w ↦ grind (arith, nat_tests)
    ]))

pub returns-clause-value : goal.returns-clause-value
returns-clause-value c =
    let e = value_after-drop_all c.loop-byte.n c.args.token.now c.loop-byte.byte-index (omega arith) in
    let d = digits-drop_all c.args.token.now c.loop-byte.byte-index (omega arith) in
    let digits : all_ascii_digits c.args.token.now ≡ true = cc in
    let some : 0 < length c.args.token.now = grind (arith, nat_tests) in
    let n : number_of c.args.greatest c.args.token.now ≡ Some (value_after 0 c.args.token.now) =
    a_number c.args.greatest c.args.token.now some (omega arith) digits (omega arith) in
    cc
