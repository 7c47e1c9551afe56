-- The number of a text is the one that the text spells.
use Rattle.std.specs.Prelude.{◌&&◌, nat_lt, nat_le, ◌==◌, take_while, MatchOption, decimal}
use Rattle.std.specs.Char.{is_ascii_digit, digit_value}
use Rattle.std.specs.List.{list_all}
use Rattle.std.specs.Str.Parse.{AllDigits, digits_value}
use Rattle.std.proofs.Common.{◌≡◌, ℕ, zero, suc, ◌^◌, ◌<◌, Bool, true, false, cond, List, [], ◌∷◌, ◌++◌, length, drop, replicate}
use Rattle.std.proofs.Common.{Option, Some, None, refl, sym, ap, ◌∙◌, arith}
use Rattle.std.proofs.lemmas.Bool.Decides.{nat_tests}
use Rattle.std.proofs.lemmas.Fmt.{decimal_is_IsNumeral, length-decimal-le}
use Rattle.std.proofs.lemmas.List.Sums.{take_while-cons}
use Rattle.tc_counter.specs.CounterText.{Spells, is_counter_text, number_in, text_of}

digit_is_digit : (c : ℕ) → digit_value c < 10 → is_ascii_digit c ≡ true
digit_is_digit c h = grind (arith, nat_tests)

is_digit-digit : (c : ℕ) → is_ascii_digit c ≡ true → digit_value c < 10
is_digit-digit c h = grind (arith, nat_tests)

take_while-spaces : (spaces : ℕ) → take_while is_ascii_digit (replicate spaces 32) ≡ []
take_while-spaces zero = refl
take_while-spaces (suc n) = take_while-cons is_ascii_digit 32 (replicate n 32)

-- the digits of a spelling are those in front
take_while-spelled : (digits : List ℕ) (spaces : ℕ) → AllDigits 10 digits
    → take_while is_ascii_digit (digits ++ replicate spaces 32) ≡ digits
take_while-spelled [] spaces h = take_while-spaces spaces
take_while-spelled (c ∷ digits) spaces h =
    take_while-cons is_ascii_digit c (digits ++ replicate spaces 32)
    ∙ rw (digit_is_digit c h.0, take_while-spelled digits spaces h.1) refl

drop-spelled : (digits rest : List ℕ) → drop (length digits) (digits ++ rest) ≡ rest
drop-spelled [] rest = refl
drop-spelled (c ∷ digits) rest = drop-spelled digits rest

list_all-spaces : (spaces : ℕ) → list_all (λ c. c == 32) (replicate spaces 32) ≡ true
list_all-spaces zero = refl
list_all-spaces (suc n) = list_all-spaces n

spaces-list_all : (rest : List ℕ) → list_all (λ c. c == 32) rest ≡ true → rest ≡ replicate (length rest) 32
spaces-list_all [] h = refl
spaces-list_all (c ∷ rest) h =
    let parts : (c ≡ 32) × (list_all (λ x. x == 32) rest ≡ true) = grind (arith, nat_tests) in
    rw parts.0 (ap (λ (xs : List ℕ). 32 ∷ xs) (spaces-list_all rest parts.1))

AllDigits-take_while : (text : List ℕ) → AllDigits 10 (take_while is_ascii_digit text)
AllDigits-take_while [] = tt
AllDigits-take_while (c ∷ text) =
    rw take_while-cons (go (take_while is_ascii_digit text) (AllDigits-take_while text) (is_ascii_digit c) refl)
  where
    go : (front : List ℕ) → AllDigits 10 front → (b : Bool) → is_ascii_digit c ≡ b → AllDigits 10 (cond b (c ∷ front) [])
    go front all true e = (is_digit-digit c e, all)
    go front all false e = tt

take_while-append : (text : List ℕ) → take_while is_ascii_digit text ++ drop (length (take_while is_ascii_digit text)) text ≡ text
take_while-append [] = refl
take_while-append (c ∷ text) =
    rw take_while-cons (go (take_while is_ascii_digit text) (take_while-append text) (is_ascii_digit c))
  where
    go : (front : List ℕ) → front ++ drop (length front) text ≡ text → (b : Bool)
        → cond b (c ∷ front) [] ++ drop (length (cond b (c ∷ front) [])) (c ∷ text) ≡ c ∷ text
    go front e true = ap (λ (xs : List ℕ). c ∷ xs) e
    go front e false = refl

-- a text that spells a number has it
pub number_in-spelled : (text : List ℕ) (n : ℕ) → Spells text n → number_in text ≡ Some n
unfolding number_in
number_in-spelled text n s =
    let digits : take_while is_ascii_digit text ≡ s.digits = rw s.parts (take_while-spelled s.digits s.spaces s.all_digits) in
    let rest : drop (length s.digits) text ≡ replicate s.spaces 32 = rw s.parts (drop-spelled s.digits (replicate s.spaces 32)) in
    let some = s.one_or_more in
    let few = s.twenty_or_fewer in
    let fits = s.fits in
    let a : nat_le 1 (length s.digits) ≡ true = grind (arith, nat_tests) in
    let b : nat_le (length s.digits) 20 ≡ true = grind (arith, nat_tests) in
    let v : nat_lt n (2 ^ 64) ≡ true = grind (arith, nat_tests) in
    rw (digits, rest, s.value, a, b, v, list_all-spaces s.spaces) refl

both : (a b : Bool) → (a && b) ≡ true → (a ≡ true) × (b ≡ true)
both true b h = (refl, h)
both false b h = absurd (grind arith)

spelled : (text digits rest : List ℕ) → digits ++ rest ≡ text → AllDigits 10 digits → is_counter_text digits rest ≡ true
    → Spells text (digits_value 10 digits)
spelled text digits rest e all h =
    let p = both (nat_le 1 (length digits) && nat_le (length digits) 20 && nat_lt (digits_value 10 digits) (2 ^ 64))
    (list_all (λ c. c == 32) rest) h in
    let q = both (nat_le 1 (length digits) && nat_le (length digits) 20) (nat_lt (digits_value 10 digits) (2 ^ 64)) p.0 in
    let r = both (nat_le 1 (length digits)) (nat_le (length digits) 20) q.0 in
    record {
      digits = digits;
      spaces = length rest;
      parts = sym e ∙ ap (λ (xs : List ℕ). digits ++ xs) (spaces-list_all rest p.1);
      all_digits = all;
      one_or_more = (let t = r.0 in grind (arith, nat_tests));
      twenty_or_fewer = (let t = r.1 in grind (arith, nat_tests));
      value = refl;
      fits = (let t = q.1 in grind (arith, nat_tests));
    }

different : (n : ℕ) → None ≡ Some n → ⊥
different n e = cc

found : (text : List ℕ) (n : ℕ) → number_in text ≡ Some n → Spells text n
unfolding number_in
found text n e =
    by_test (is_counter_text (take_while is_ascii_digit text) (drop (length (take_while is_ascii_digit text)) text)) refl e
  where
    by_test : (b : Bool)
        → is_counter_text (take_while is_ascii_digit text) (drop (length (take_while is_ascii_digit text)) text) ≡ b
        → cond b (Some (digits_value 10 (take_while is_ascii_digit text))) None ≡ Some n → Spells text n
    by_test true t f =
        let v : digits_value 10 (take_while is_ascii_digit text) ≡ n = cc in
        rw v at (spelled text _ _ (take_while-append text) (AllDigits-take_while text) t)
    by_test false t f = absurd (different n f)

-- the number of a text is what it spells, and there is none only where it spells none
pub number_in_spells : (text : List ℕ) → MatchOption (number_in text) ((n : ℕ) → ¬ (Spells text n)) (λ n. Spells text n)
number_in_spells text = go (number_in text) refl
  where
    go : (r : Option ℕ) → number_in text ≡ r → MatchOption r ((n : ℕ) → ¬ (Spells text n)) (λ n. Spells text n)
    go None e = λ n s. different n (sym e ∙ number_in-spelled text n s)
    go (Some n) e = found text n e

-- what is written is read back, whatever spaces follow
pub number_in-text_of : (n spaces : ℕ) → n < 2 ^ 64 → number_in (text_of n ++ replicate spaces 32) ≡ Some n
number_in-text_of n spaces h =
    let numeral = decimal_is_IsNumeral n h in
    number_in-spelled (text_of n ++ replicate spaces 32) n (record {
      digits = decimal n;
      spaces = spaces;
      parts = refl;
      all_digits = numeral.0.1;
      one_or_more = numeral.0.0;
      twenty_or_fewer = length-decimal-le 20 n (omega arith) (omega arith) h;
      value = numeral.1;
      fits = h;
    })
