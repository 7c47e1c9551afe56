-- `flush_all` and `verbosity`. Source: memcached's doc/protocol.txt, 'Other commands'.
use Rattle.std.specs.Prelude.{ℕ, ◌-◌, ◌^◌, true, false, bytes_eq, codes, if◌then◌else◌, List, [], ◌∷◌, Option, Some, None}
use Rattle.tc_grammar.specs.Ending.{ended, quiet_of}
use Rattle.tc_grammar.specs.Lines.{◌>>=◌}
use Rattle.tc_grammar.specs.Numbers.{number_of}
use Rattle.tc_grammar.specs.declared.command.Command.{Command}
use Rattle.tc_grammar.specs.declared.command.Command.TheVariants.{Flush, Verbosity}

-- a flush with a delay
unfoldable pub delayed : List ℕ → List (List ℕ) → Option Command
delayed delay rest = do
  delay ← number_of (2 ^ 32 - 1) delay
  quiet ← quiet_of rest
  Some (Flush delay quiet)

-- `flush_all [delay] [noreply]`; a delay left out is 0
unfoldable pub flush_of : List (List ℕ) → Option Command
flush_of [] = Some (Flush 0 false)
flush_of (token ∷ rest) = if bytes_eq token (codes "noreply") then ended (Flush 0 true) rest else delayed token rest

-- `verbosity <level> [noreply]`
unfoldable pub verbosity_of : List (List ℕ) → Option Command
verbosity_of [] = None
verbosity_of (level ∷ rest) = do
  level ← number_of (2 ^ 32 - 1) level
  quiet ← quiet_of rest
  Some (Verbosity level quiet)
