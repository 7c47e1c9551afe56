-- Number tokens. Source: memcached's doc/protocol.txt, 'Storage commands'; the
-- greatest length and the ranges are this project's own.
use Rattle.std.specs.Prelude.{ℕ, ◌+◌, ◌*◌, ◌-◌, ◌^◌, Bool, ◌&&◌, nat_lt, nat_le, ◌==◌, if◌then◌else◌, List, [], ◌∷◌, length}
use Rattle.std.specs.Prelude.{Option, Some, None, option_map, ℤ, pos, neg_ℤ}
use Rattle.std.specs.Str.{all_ascii_digits}

-- the most digits of a number
abbrev pub longest_number : ℕ
longest_number = 20

-- the most bytes that a block may be announced with
abbrev pub longest_block : ℕ
longest_block = 2 ^ 31 - 1

-- the number that the digits of n and then these digits spell, in base ten
abbrev pub value_after : ℕ → List ℕ → ℕ
value_after n [] = n
value_after n (digit ∷ digits) = value_after (10 * n + (digit - 48)) digits

-- whether a token is digits, not too many, that spell at most the greatest number allowed
abbrev pub is_number : ℕ → List ℕ → Bool
is_number greatest token =
    nat_lt 0 (length token) && nat_le (length token) longest_number && all_ascii_digits token
    && nat_le (value_after 0 token) greatest

-- the number that a token spells, where it is one; leading zeros are allowed
unfoldable pub number_of : ℕ → List ℕ → Option ℕ
number_of greatest token = if is_number greatest token then Some (value_after 0 token) else None

-- an exptime: a number below 2^32, or a minus sign (byte 45) and a number up to 2^31
unfoldable pub exptime_of : List ℕ → Option ℤ
exptime_of [] = None
exptime_of (byte ∷ digits) =
    if byte == 45 then option_map (λ n. neg_ℤ (pos n)) (number_of (2 ^ 31) digits)
    else option_map pos (number_of (2 ^ 32 - 1) (byte ∷ digits))
