-- Which bytes are a key. Source: memcached's doc/protocol.txt, 'Commands' (at
-- most 250 bytes, no control characters or whitespace).
use Rattle.std.specs.Prelude.{ℕ, Bool, ◌&&◌, not, nat_lt, nat_le, ◌==◌, List, length}
use Rattle.std.specs.List.{list_all}
use Rattle.tc_item.specs.Bounds.{longest_key}

-- a byte of a key: any but 0 to 32 and 127
abbrev pub is_key_byte : ℕ → Bool
is_key_byte b = nat_lt 32 b && not (b == 127)

-- a key: 1 to 250 such bytes
abbrev pub is_key : List ℕ → Bool
is_key bytes = nat_lt 0 (length bytes) && nat_le (length bytes) longest_key && list_all is_key_byte bytes
