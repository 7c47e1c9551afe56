-- Numbers in data, as incr and decr of memcached read and write them (doc/protocol.txt).
use Rattle.std.specs.Prelude.{◌≡◌, ℕ, ◌+◌, ◌-◌, ◌%◌, ◌^◌, ◌<◌, ◌≤◌, Bool, ◌&&◌, ◌==◌, nat_lt, nat_le, if◌then◌else◌, List, ◌++◌}
use Rattle.std.specs.Prelude.{length, drop, take_while, replicate, Option, Some, None, decimal}
use Rattle.std.specs.Char.{is_ascii_digit}
use Rattle.std.specs.List.{list_all}
use Rattle.std.specs.Str.Parse.{AllDigits, digits_value}

-- the most digits of a number in data
abbrev pub most_digits : ℕ
most_digits = 20

-- what a text spells: 1 to 20 digits of a value below 2^64, and then any number of spaces
pub record Spells (text : List ℕ) (number : ℕ) : Type 0 where
  pub digits : List ℕ
  pub spaces : ℕ
  pub parts : text ≡ digits ++ replicate spaces 32
  pub all_digits : AllDigits 10 digits
  pub one_or_more : 1 ≤ length digits
  pub twenty_or_fewer : length digits ≤ most_digits
  pub value : digits_value 10 digits ≡ number
  pub fits : number < 2 ^ 64

-- are these 1 to 20 digits of a value below 2^64, with only spaces after them
abbrev pub is_counter_text : List ℕ → List ℕ → Bool
is_counter_text digits rest =
    nat_le 1 (length digits) && nat_le (length digits) most_digits && nat_lt (digits_value 10 digits) (2 ^ 64)
    && list_all (λ c. c == 32) rest

-- the number that a text spells, or none where it is no counter text
unfoldable pub number_in : List ℕ → Option ℕ
number_in text =
    let digits = take_while is_ascii_digit text in
    if is_counter_text digits (drop (length digits) text) then Some (digits_value 10 digits) else None

-- the one spelling of a number without leading zeros or spaces
abbrev pub text_of : ℕ → List ℕ
text_of number = decimal number

-- incr: the sum wraps at 2^64
abbrev pub raised_by : ℕ → ℕ → ℕ
raised_by number by = (number + by) % 2 ^ 64

-- decr: the difference stops at 0
abbrev pub lowered_by : ℕ → ℕ → ℕ
lowered_by number by = number - by
