-- Digits that are put into a text, and room for hits.
use Rattle.std.proofs.Common.{◌≡◌, ℕ, ◌+◌, ◌/◌, ◌%◌, ◌<◌, ◌≤◌, ◌^◌, List, []}
use Rattle.std.proofs.Common.{◌∷◌, ◌++◌, length, take, drop, decimal, sym, ◌∙◌, ap, arith}
use Rattle.std.proofs.Common.{length-append, append_assoc, ap₂}
use Rattle.std.proofs.lemmas.List.{take-append-drop, take_at, length-take-le}
use Rattle.std.proofs.lemmas.Fmt.{decimal_digit, decimal_step}

-- a number of more than one digit has one more than its tenth
length-decimal_step : (n : ℕ) → 10 ≤ n → n < 2 ^ 64 → length (decimal n) ≡ length (decimal (n / 10)) + 1
length-decimal_step n least most =
    ap length (decimal_step n least most) ∙ length-append (decimal (n / 10)) ((48 + n % 10) ∷ [])

length-decimal_digit : (n : ℕ) → n < 10 → length (decimal n) ≡ 1
length-decimal_digit n few = ap length (decimal_digit n few)

pub length-decimal_two : (n : ℕ) → 10 ≤ n → n < 100 → length (decimal n) ≡ 2
length-decimal_two n least most =
    omega (arith, length-decimal_step n least (omega arith), length-decimal_digit (n / 10) (omega arith))

pub length-decimal_three : (n : ℕ) → 100 ≤ n → n < 1000 → length (decimal n) ≡ 3
length-decimal_three n least most =
    omega (
      arith,
      length-decimal_step n (omega arith) (omega arith),
      length-decimal_two (n / 10) (omega arith) (omega arith),
    )

pub length-decimal_four : (n : ℕ) → 1000 ≤ n → n < 10000 → length (decimal n) ≡ 4
length-decimal_four n least most =
    omega (
      arith,
      length-decimal_step n (omega arith) (omega arith),
      length-decimal_three (n / 10) (omega arith) (omega arith),
    )

-- digits that were put where they end, and so begin at a place, stand behind what stood before it
pub take_written : (old new digits : List ℕ) (at start end : ℕ) → end ≡ at + length digits → start + length digits ≡ end
    → at ≤ length old → take start new ≡ take start old → drop start new ≡ digits ++ drop end old
    → take end new ≡ take at old ++ digits
take_written old new digits at start end long ends within front behind =
    let same : start ≡ at = omega (arith, long, ends) in
    let sum : length (take start old ++ digits) ≡ end =
    omega (arith, length-append (take start old) digits, length-take-le start old (omega arith)) in
    let whole : new ≡ (take start old ++ digits) ++ drop end old =
    sym (take-append-drop start new)
    ∙ (ap₂ (λ a b. a ++ b) front behind ∙ sym (append_assoc (take start old) digits (drop end old))) in
    ap (take end) whole
    ∙ (take_at (take start old ++ digits) (drop end old) end sum ∙ ap (λ n. take n old ++ digits) same)
