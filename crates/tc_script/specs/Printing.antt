-- What a script's run prints. Source: docs/PROTOCOL.md, 'Scripts'.
use Rattle.std.specs.Prelude.{ℕ, ◌+◌, ◌/◌, ◌%◌, Bool, true, false, ◌&&◌, ◌==◌, nat_le, nat_lt, if◌then◌else◌, List, [], ◌∷◌, ◌++◌}
use Rattle.std.specs.Prelude.{codes}
use Rattle.std.specs.List.{flat_map}
use Rattle.tc_counter.specs.CounterText.{text_of}
use Rattle.tc_core.specs.declared.outputs.Output.{Output}

-- a hexadecimal digit in lower case
abbrev pub lower_hex : ℕ → ℕ
lower_hex n = if nat_lt n 10 then n + 48 else n + 87

-- a byte as it is printed: the backslash, the carriage return and the line feed by
-- their letters, 32 to 126 as they are, others by two digits
abbrev pub escape_of : ℕ → List ℕ
escape_of b =
    if b == 92 then 92 ∷ 92 ∷ []
    else if b == 13 then 92 ∷ 114 ∷ []
    else if b == 10 then 92 ∷ 110 ∷ []
    else if nat_le 32 b && nat_le b 126 then b ∷ []
    else 92 ∷ 120 ∷ lower_hex (b / 16) ∷ lower_hex (b % 16) ∷ []

-- bytes as they are printed
abbrev pub escaped : List ℕ → List ℕ
escaped bytes = flat_map escape_of bytes

-- what a connection is at the end
abbrev pub phase_text : Bool → List ℕ
phase_text true = codes " closed ="
phase_text false = codes " open ="

-- conn <c> <open|closed> =<bytes>, and a line feed
abbrev pub output_line : Output → List ℕ
output_line o = codes "conn " ++ text_of o.connection ++ phase_text o.closed ++ escaped o.bytes ++ 10 ∷ []

-- a line for each connection
abbrev pub printed : List Output → List ℕ
printed outputs = flat_map output_line outputs
