-- The lines, fields, numbers and texts of a script. Source: docs/PROTOCOL.md, 'Scripts'.
use Rattle.std.specs.Prelude.{ℕ, ◌+◌, ◌-◌, ◌*◌, ◌^◌, ◌&&◌, ◌==◌, nat_le, if◌then◌else◌, List, [], ◌∷◌, length, take, drop}
use Rattle.std.specs.Prelude.{position, Option, Some, None, option_map}
use Rattle.std.specs.Option.{option_and_then}
use Rattle.tc_grammar.specs.Numbers.{number_of}
use Rattle.tc_grammar.specs.Tokens.{lengthened}

-- what is made of a value, where there is one
abbrev pub bind : {A B : Type 0} → Option A → (A → Option B) → Option B
bind o f = option_and_then f o

-- the two sides of a place
abbrev pub sides : List ℕ → ℕ → List ℕ × List ℕ
sides text place = (take place text, drop (place + 1) text)

-- what stands before the first such byte, and behind it
abbrev pub cut : ℕ → List ℕ → Option (List ℕ × List ℕ)
cut mark text = option_map (sides text) (position (λ b. b == mark) text)

-- the lines of a text: each ends at a line feed, byte 10, and the last may lack it
abbrev pub lines_of : List ℕ → List (List ℕ)
lines_of [] = [] ∷ []
lines_of (b ∷ text) = if b == 10 then [] ∷ lines_of text else lengthened b (lines_of text)

-- the field before the first space, byte 32, and what stands behind it
abbrev pub first_field : List ℕ → Option (List ℕ × List ℕ)
first_field text = cut 32 text

-- a number of 1 to 13 digits, up to the greatest
abbrev pub short_number : ℕ → List ℕ → Option ℕ
short_number greatest field = if nat_le (length field) 13 then number_of greatest field else None

-- a number of 32 bits
abbrev pub word_number : List ℕ → Option ℕ
word_number field = short_number (2 ^ 32 - 1) field

-- a number from 1
abbrev pub from_one : ℕ → Option ℕ
from_one n = if n == 0 then None else Some n

-- how often, from 1 up to the greatest
abbrev pub count_of : ℕ → List ℕ → Option ℕ
count_of greatest field = bind (short_number greatest field) from_one

-- a hexadecimal digit of either case
abbrev pub hex_digit : ℕ → Option ℕ
hex_digit b =
    if nat_le 48 b && nat_le b 57 then Some (b - 48)
    else if nat_le 65 b && nat_le b 70 then Some (b - 55)
    else if nat_le 97 b && nat_le b 102 then Some (b - 87)
    else None

-- the byte of two hexadecimal digits
abbrev pub hex_pair : ℕ → ℕ → Option ℕ
hex_pair high low = bind (hex_digit high) (λ h. option_map (λ l. 16 * h + l) (hex_digit low))

-- a field that is two hexadecimal digits
abbrev pub hex_byte : List ℕ → Option ℕ
hex_byte (high ∷ low ∷ []) = hex_pair high low
hex_byte field = None

-- a byte before a text, if there is one
abbrev pub put : ℕ → Option (List ℕ) → Option (List ℕ)
put b text = option_map (λ bs. b ∷ bs) text

-- the byte that an escape of one letter stands for: r, n or a backslash
abbrev pub short_escape : ℕ → Option ℕ
short_escape b = if b == 114 then Some 13 else if b == 110 then Some 10 else if b == 92 then Some 92 else None

-- a byte, if it is one, before a text, if there is one
abbrev pub put_some : Option ℕ → Option (List ℕ) → Option (List ℕ)
put_some b text = bind b (λ x. put x text)

unfoldable mutual
  -- the bytes that a text stands for; a backslash, byte 92, begins an escape
  pub unescaped : List ℕ → Option (List ℕ)
  unescaped [] = Some []
  unescaped (b ∷ text) = if b == 92 then escaped_letter text else put b (unescaped text)

  -- an escape from its letter on; x, byte 120, wants two hexadecimal digits
  pub escaped_letter : List ℕ → Option (List ℕ)
  escaped_letter [] = None
  escaped_letter (b ∷ text) = if b == 120 then escaped_high text else put_some (short_escape b) (unescaped text)

  pub escaped_high : List ℕ → Option (List ℕ)
  escaped_high [] = None
  escaped_high (high ∷ text) = escaped_low high text

  pub escaped_low : ℕ → List ℕ → Option (List ℕ)
  escaped_low high [] = None
  escaped_low high (low ∷ text) = put_some (hex_pair high low) (unescaped text)

-- a text that stands for at least one byte
abbrev pub some_bytes : List ℕ → Option (List ℕ)
some_bytes [] = None
some_bytes (b ∷ text) = unescaped (b ∷ text)

-- the byte of two digits at the front of a text, and the text behind them
abbrev pub front_pair : List ℕ → Option (ℕ × List ℕ)
front_pair (high ∷ low ∷ text) = option_map (λ b. (b, text)) (hex_pair high low)
front_pair text = None

-- the byte of an escape at the front of a text, from its letter on, and the text behind it
abbrev pub front_escape : List ℕ → Option (ℕ × List ℕ)
front_escape [] = None
front_escape (b ∷ text) = if b == 120 then front_pair text else option_map (λ x. (x, text)) (short_escape b)

-- the first byte that a text stands for, and the text behind it
abbrev pub front_of : List ℕ → Option (ℕ × List ℕ)
front_of [] = None
front_of (b ∷ text) = if b == 92 then front_escape text else Some (b, text)
