-- Where the first token of a line ends. Source: memcached's doc/protocol.txt, 'Commands'.
use Rattle.std.specs.Prelude.{ℕ, suc, ◌==◌, if◌then◌else◌, List, [], ◌∷◌}

-- how many bytes stand before the first space
abbrev pub word_length : List ℕ → ℕ
word_length [] = 0
word_length (byte ∷ line) = if byte == 32 then 0 else suc (word_length line)
