-- The tokens of a line. Source: memcached's doc/protocol.txt, 'Commands'.
use Rattle.std.specs.Prelude.{ℕ, Bool, true, false, ◌==◌, if◌then◌else◌, List, [], ◌∷◌, filter}

-- the first part, with one more byte at its front
abbrev pub lengthened : ℕ → List (List ℕ) → List (List ℕ)
lengthened byte [] = (byte ∷ []) ∷ []
lengthened byte (part ∷ parts) = (byte ∷ part) ∷ parts

-- the parts of a line between its spaces, the empty ones among them
abbrev pub parts : List ℕ → List (List ℕ)
parts [] = [] ∷ []
parts (byte ∷ line) = if byte == 32 then [] ∷ parts line else lengthened byte (parts line)

-- whether a part has a byte
abbrev pub is_full : List ℕ → Bool
is_full [] = false
is_full (_ ∷ _) = true

-- the tokens of a line: what stands between one or more spaces
unfoldable pub tokens : List ℕ → List (List ℕ)
tokens line = filter is_full (parts line)
