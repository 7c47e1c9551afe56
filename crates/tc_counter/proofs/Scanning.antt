-- The loop over a text: what the digits so far and the bytes after them spell.
use Rattle.std.specs.Prelude.{◌&&◌, nat_lt, nat_le, ◌==◌, take_while}
use Rattle.std.specs.Bool.{then_some}
use Rattle.std.specs.Char.{is_ascii_digit, digit_value}
use Rattle.std.specs.List.{list_all}
use Rattle.std.specs.Str.Parse.{digits_value_after}
use Rattle.std.proofs.Common.{◌≡◌, ℕ, suc, ◌+◌, ◌-◌, ◌*◌, ◌^◌, ◌<◌, ◌≤◌, Bool, true, false, cond, List, [], ◌∷◌, length, get_or}
use Rattle.std.proofs.Common.{drop, Option, Some, None, refl, sym, ◌∙◌, arith, add-one}
use Rattle.std.proofs.Math.Seq.{drop-cons}
use Rattle.std.proofs.lemmas.Bool.Decides.{nat_tests}
use Rattle.std.proofs.lemmas.List.{drop_all}
use Rattle.std.proofs.lemmas.List.Sums.{take_while-cons}
use Rattle.tc_counter.specs.CounterText.{number_in}

-- the number of these digits behind `before` others of value n, where only spaces follow
pub decided : ℕ → ℕ → List ℕ → List ℕ → Option ℕ
decided n before digits rest =
    cond
    (nat_le 1 (before + length digits) && nat_le (before + length digits) 20 && nat_lt (digits_value_after 10 n digits) (2 ^ 64)
    && list_all (λ c. c == 32) rest)
    (Some (digits_value_after 10 n digits)) None

-- the number of a text behind `before` digits of value n
pub number_after : ℕ → ℕ → List ℕ → Option ℕ
number_after n before text =
    decided n before (take_while is_ascii_digit text) (drop (length (take_while is_ascii_digit text)) text)

pub number_after-start : (text : List ℕ) → number_after 0 0 text ≡ number_in text
unfolding number_in number_after decided
number_after-start text =
    let e : 0 + length (take_while is_ascii_digit text) ≡ length (take_while is_ascii_digit text) = omega arith in
    rw e refl

decided-cons : (n before c d : ℕ) (digits rest : List ℕ) → digit_value c ≡ d
    → decided n before (c ∷ digits) rest ≡ decided (n * 10 + d) (before + 1) digits rest
unfolding decided
decided-cons n before c d digits rest e =
    let more : before + suc (length digits) ≡ before + 1 + length digits = omega arith in
    rw (e, more) refl

value_of_digit : (c : ℕ) → is_ascii_digit c ≡ true → digit_value c ≡ c - 48
value_of_digit c e = grind (arith, nat_tests)

number_after-digit : (n before c : ℕ) (cs : List ℕ) → is_ascii_digit c ≡ true
    → number_after n before (c ∷ cs) ≡ number_after (n * 10 + (c - 48)) (before + 1) cs
unfolding number_after
number_after-digit n before c cs e =
    let t : take_while is_ascii_digit (c ∷ cs) ≡ c ∷ take_while is_ascii_digit cs = rw (take_while-cons, e) refl in
    rw t (decided-cons n before c (c - 48) _ _ (value_of_digit c e))

number_after-other : (n before c : ℕ) (cs : List ℕ) → is_ascii_digit c ≡ false
    → number_after n before (c ∷ cs) ≡ decided n before [] (c ∷ cs)
unfolding number_after
number_after-other n before c cs e =
    let t : take_while is_ascii_digit (c ∷ cs) ≡ [] = rw (take_while-cons, e) refl in
    rw t refl

-- the byte at i is a digit: it joins those before it
number_after-drop_digit : (n : ℕ) (text : List ℕ) (i : ℕ) → i < length text → is_ascii_digit (get_or text i 0) ≡ true
    → number_after n i (drop i text) ≡ number_after (n * 10 + (get_or text i 0 - 48)) (i + 1) (drop (i + 1) text)
number_after-drop_digit n text i h e =
    rw (drop-cons text i 0 h, number_after-digit n i (get_or text i 0) (drop (suc i) text) e, add-one) refl

-- so the text behind it spells what the whole text does
pub number_after-joined : (n : ℕ) (text : List ℕ) (i : ℕ) → i < length text → true ≡ is_ascii_digit (get_or text i 0)
    → number_after n i (drop i text) ≡ number_in text
    → number_after (n * 10 + (get_or text i 0 - 48)) (i + 1) (drop (i + 1) text) ≡ number_in text
number_after-joined n text i h e so_far = sym (number_after-drop_digit n text i h (sym e)) ∙ so_far

-- the byte at i is none: it ends the digits
pub number_after-drop_other : (n : ℕ) (text : List ℕ) (i : ℕ) → i < length text → is_ascii_digit (get_or text i 0) ≡ false
    → number_after n i (drop i text) ≡ decided n i [] (drop i text)
number_after-drop_other n text i h e = rw (drop-cons text i 0 h) (number_after-other n i (get_or text i 0) (drop (suc i) text) e)

pub number_after-drop_all : (n : ℕ) (text : List ℕ) (i : ℕ) → length text ≤ i → number_after n i (drop i text) ≡ decided n i [] []
unfolding number_after
number_after-drop_all n text i h = rw (drop_all i text h) refl

-- where the digits end, and what follows is spaces or not
pub decided-ended : (n before : ℕ) (rest : List ℕ) → before ≤ 20 → n < 2 ^ 64
    → decided n before [] rest ≡ then_some (nat_lt 0 before && list_all (λ c. c == 32) rest) n
unfolding decided
decided-ended n before rest h k = go (list_all (λ c. c == 32) rest)
  where
    go : (b : Bool)
        → cond (nat_le 1 (before + 0) && nat_le (before + 0) 20 && nat_lt n (2 ^ 64) && b) (Some n) None
        ≡ then_some (nat_lt 0 before && b) n
    go true = grind (arith, nat_tests)
    go false = grind (arith, nat_tests)

decided-long : (n before : ℕ) (digits rest : List ℕ) → 20 < before → decided n before digits rest ≡ None
unfolding decided
decided-long n before digits rest h =
    let e : nat_le (before + length digits) 20 ≡ false = grind (arith, nat_tests) in
    rw e (grind (arith, nat_tests))

-- more digits make no smaller number
digits_value_after-grows : (n : ℕ) (digits : List ℕ) → n ≤ digits_value_after 10 n digits
digits_value_after-grows n [] = omega arith
digits_value_after-grows n (c ∷ cs) = at_least (digit_value c) (digits_value_after-grows (n * 10 + digit_value c) cs)
  where
    at_least : (d : ℕ) {m : ℕ} → n * 10 + d ≤ m → n ≤ m
    at_least d h = omega arith

decided-large : (n before : ℕ) (digits rest : List ℕ) → 2 ^ 64 ≤ n → decided n before digits rest ≡ None
unfolding decided
decided-large n before digits rest h =
    let grows = digits_value_after-grows n digits in
    let e : nat_lt (digits_value_after 10 n digits) (2 ^ 64) ≡ false = grind (arith, nat_tests) in
    rw e (grind (arith, nat_tests))

-- 21 digits are too many
pub number_after-long : (n before : ℕ) (text : List ℕ) → 20 < before → number_after n before text ≡ None
unfolding number_after
number_after-long n before text h = decided-long n before _ _ h

-- a value that is too large stays so
pub number_after-large : (n before : ℕ) (text : List ℕ) → 2 ^ 64 ≤ n → number_after n before text ≡ None
unfolding number_after
number_after-large n before text h = decided-large n before _ _ h
