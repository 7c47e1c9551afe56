use Rattle.std.specs.Prelude.{◌&&◌, not, ◌==◌, nat_lt}
use Rattle.std.proofs.Common.{◌≡◌, ℕ, [], ◌+◌, ◌-◌, ◌*◌, ◌<◌, ◌≤◌, ◌^◌, length, get_or, drop, true, false, sym, ap, refl, ◌∙◌}
use Rattle.std.proofs.Common.{arith}
use Rattle.std.proofs.lemmas.Bool.Decides.{nat_tests}
use Rattle.std.specs.Bool.{then_some}
use Rattle.std.specs.List.{list_all}
use Rattle.std.proofs.lemmas.List.{take_rest}
use Rattle.tc_counter.proofs.Scanning.{number_after-start, number_after-joined, number_after-drop_other, number_after-drop_all}
use Rattle.tc_counter.proofs.Scanning.{decided-ended, number_after-long, number_after-large}
use Rattle.tc_counter.proofs.scan.Goals.{then-i-gt0, else-i-gt0}
use Rattle.tc_counter.proofs.scan.Goals as goal

pub loop-i-init : goal.loop-i-init
loop-i-init c = record { number = number_after-start c.args.text.now; few = omega arith; fits = omega arith }

pub returns-then-not-is_ascii_digit : goal.returns-then-not-is_ascii_digit
returns-then-not-is_ascii_digit c =
    let e = number_after-drop_other c.loop-i.value c.args.text.now c.loop-i.i c.loop-i-test.true
    (sym c.if-not-is_ascii_digit.ensures.value) in
    let f = decided-ended c.loop-i.value c.loop-i.i (drop c.loop-i.i c.args.text.now) c.loop-i.invariant.few
    c.loop-i.invariant.fits in
    let test : c.if-i-gt0.then_some ≡ (nat_lt 0 c.loop-i.i && list_all (λ b. b == 32) (drop c.loop-i.i c.args.text.now)) =
    elim c.if-i-gt0.branch [
      | then-i-gt0 w ↦
          w.then_some-is ∙ w.are_spaces.ensures ∙ rw (take_rest c.args.text.now c.loop-i.i, below-ltb w.if-i-gt0.true) refl
      | else-i-gt0 w ↦ w.then_some-is ∙ rw (not_below-ltb w.if-i-gt0.false) refl
    ] in
    c.then_some.ensures ∙ ap (λ b. then_some b c.loop-i.value) test ∙ sym f ∙ sym e ∙ c.loop-i.invariant.number
  where
    below-ltb : {n : ℕ} → 0 < n → nat_lt 0 n ≡ true
    below-ltb h = grind (arith, nat_tests)

    not_below-ltb : {n : ℕ} → n ≤ 0 → nat_lt 0 n ≡ false
    not_below-ltb h = grind (arith, nat_tests)

pub returns-then-i-eq-MOST_DIGITS : goal.returns-then-i-eq-MOST_DIGITS
returns-then-i-eq-MOST_DIGITS c =
    sym (number_after-long _ (c.loop-i.i + 1) _ (omega arith))
    ∙ number_after-joined _ _ _ c.loop-i-test.true c.if-not-is_ascii_digit.ensures.value c.loop-i.invariant.number

pub returns-in_err-checked_mul : goal.returns-in_err-checked_mul
returns-in_err-checked_mul c =
    c.from_residual.ensures
    ∙ sym (number_after-large (c.loop-i.value * 10 + (get_or c.args.text.now c.loop-i.i 0 - 48)) _ _
    (large _ _ c.in_err-checked_mul.ensures))
    ∙ number_after-joined _ _ _ c.loop-i-test.true c.if-not-is_ascii_digit.ensures.value c.loop-i.invariant.number
  where
    large : (n d : ℕ) → ¬ (n * 10 < 2 ^ 64) → 2 ^ 64 ≤ n * 10 + d
    large n d h = grind arith

pub returns-in_err-value : goal.returns-in_err-value
returns-in_err-value c =
    c.from_residual-in_err-value.ensures
    ∙ sym (number_after-large (c.loop-i.value * 10 + (get_or c.args.text.now c.loop-i.i 0 - 48)) _ _
    (large c.in_ok-checked_mul.ensures.1 c.from.ensures c.in_err-value.ensures))
    ∙ number_after-joined _ _ _ c.loop-i-test.true c.if-not-is_ascii_digit.ensures.value c.loop-i.invariant.number
  where
    large : {m n d f : ℕ} → m ≡ n → f ≡ d → ¬ (m + f < 2 ^ 64) → 2 ^ 64 ≤ n + d
    large e f h = grind arith

pub loop-i-preserved : goal.loop-i-preserved
loop-i-preserved c =
    let value : c.in_ok-value.value ≡ c.loop-i.value * 10 + (get_or c.args.text.now c.loop-i.i 0 - 48) =
    omega (arith, c.in_ok-value.ensures, c.in_ok-checked_mul.ensures, c.from.ensures) in
    record {
      number =
          rw value (number_after-joined _ _ _ c.loop-i-test.true c.if-not-is_ascii_digit.ensures.value c.loop-i.invariant.number);
      few = omega arith;
      fits = omega (arith, c.in_ok-value.ensures);
    }

pub returns : goal.returns
returns c =
    let e = number_after-drop_all c.loop-i.value c.args.text.now c.loop-i.i (omega arith) in
    let f = decided-ended c.loop-i.value c.loop-i.i [] c.loop-i.invariant.few c.loop-i.invariant.fits in
    let all : c.loop-i.i ≡ length c.args.text.now = omega arith in
    let test : not c.is_empty.result ≡ (nat_lt 0 c.loop-i.i && true) = rw c.is_empty.ensures (not_empty all) in
    c.then_some-2.ensures ∙ ap (λ b. then_some b c.loop-i.value) test ∙ sym f ∙ sym e ∙ c.loop-i.invariant.number
  where
    not_empty : {n m : ℕ} → n ≡ m → not (m == 0) ≡ (nat_lt 0 n && true)
    not_empty e = grind (arith, nat_tests)
