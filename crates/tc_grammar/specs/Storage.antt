-- Storage lines. Source: memcached's doc/protocol.txt, 'Storage commands'; what a refused line skips is this project's own.
use Rattle.std.specs.Prelude.{ℕ, ◌+◌, ◌-◌, ◌^◌, Bool, nat_le, if◌then◌else◌, List, [], ◌∷◌, Option, Some, None}
use Rattle.tc_item.specs.KeyRule.{is_key}
use Rattle.tc_grammar.specs.Ending.{quiet_of}
use Rattle.tc_grammar.specs.Lines.{◌>>=◌, bad_format}
use Rattle.tc_grammar.specs.Numbers.{longest_block, number_of, exptime_of}
use Rattle.tc_grammar.specs.declared.command.StoreKind.{StoreKind}
use Rattle.tc_grammar.specs.declared.command.StoreKind.TheVariants.{Cas}
use Rattle.tc_grammar.specs.declared.command.Head.{Head}
use Rattle.tc_grammar.specs.declared.fault.Fault.TheVariants.{TooLarge}
use Rattle.tc_grammar.specs.declared.line.Line.{Line}
use Rattle.tc_grammar.specs.declared.line.Line.TheVariants.{NeedsBlock, Refused}

-- a token that is a key
abbrev pub key_of : List ℕ → Option (List ℕ)
key_of token = if is_key token then Some token else None

-- what follows the block's length: the cas unique, which `cas` alone has, and the end
unfoldable pub ending_of : StoreKind → List (List ℕ) → Option (ℕ × Bool)
ending_of Cas [] = None
ending_of Cas (unique ∷ rest) = do
  unique ← number_of (2 ^ 64 - 1) unique
  quiet ← quiet_of rest
  Some (unique, quiet)
ending_of _ rest = do
  quiet ← quiet_of rest
  Some (0, quiet)

-- a line of its form, but for its block
unfoldable pub head_of : StoreKind → List ℕ → List ℕ → List ℕ → List (List ℕ) → Option Head
head_of kind key flags exptime rest = do
  key ← key_of key
  flags ← number_of (2 ^ 32 - 1) flags
  exptime ← exptime_of exptime
  ending ← ending_of kind rest
  Some (record { kind = kind; key = key; flags = flags; exptime = exptime; cas_unique = ending.0; quiet = ending.1 })

-- by the block's length and by the other tokens: a refused line skips its block and the line end after it
abbrev pub announced : ℕ → Option ℕ → Option Head → Line
announced limit None head = bad_format 0
announced limit (Some n) None = bad_format (n + 2)
announced limit (Some n) (Some head) = if nat_le n limit then NeedsBlock head n else Refused TooLarge head.quiet (n + 2)

-- a storage line: `<key> <flags> <exptime> <bytes>`, and what follows; the length is the fifth token, however many follow
unfoldable pub storage_line : ℕ → StoreKind → List (List ℕ) → Line
storage_line limit kind (key ∷ flags ∷ exptime ∷ bytes ∷ rest) =
    announced limit (number_of longest_block bytes) (head_of kind key flags exptime rest)
storage_line limit kind _ = bad_format 0
