-- `delete` and `touch`. Source: memcached's doc/protocol.txt, 'Deletion' and 'Touch'.
use Rattle.std.specs.Prelude.{ℕ, List, [], ◌∷◌, Option, Some, None}
use Rattle.tc_grammar.specs.Ending.{quiet_of, without_zero}
use Rattle.tc_grammar.specs.Lines.{◌>>=◌}
use Rattle.tc_grammar.specs.Numbers.{exptime_of}
use Rattle.tc_grammar.specs.Storage.{key_of}
use Rattle.tc_grammar.specs.declared.command.Command.{Command}
use Rattle.tc_grammar.specs.declared.command.Command.TheVariants.{Delete, Touch}

-- `delete <key> [0] [noreply]`
unfoldable pub delete_of : List (List ℕ) → Option Command
delete_of [] = None
delete_of (key ∷ rest) = do
  key ← key_of key
  quiet ← quiet_of (without_zero rest)
  Some (Delete key quiet)

-- `touch <key> <exptime> [noreply]`
unfoldable pub touch_of : List (List ℕ) → Option Command
touch_of (key ∷ exptime ∷ rest) = do
  key ← key_of key
  exptime ← exptime_of exptime
  quiet ← quiet_of rest
  Some (Touch key exptime quiet)
touch_of _ = None
