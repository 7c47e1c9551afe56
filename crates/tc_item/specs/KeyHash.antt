-- The hash of a key, by which it is counted: FNV-1a of 64 bits (the page of Fowler, Noll and Vo).
use Rattle.std.specs.Prelude.{ℕ, ◌*◌, ◌%◌, ◌^◌, List, fold, bit_xor}

-- a byte joins the hash
abbrev pub hash_with : ℕ → ℕ → ℕ
hash_with h byte = bit_xor h byte * 0x100000001b3 % 2 ^ 64

-- the hash of a key
unfoldable pub hash : List ℕ → ℕ
hash key = fold hash_with 0xcbf29ce484222325 key
