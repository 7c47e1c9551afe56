-- Retrieval lines. Source: memcached's doc/protocol.txt, 'Retrieval command' and 'Get And Touch'.
use Rattle.std.specs.Prelude.{ℕ, ◌&&◌, nat_lt, if◌then◌else◌, List, [], ◌∷◌, length, Option, Some, None}
use Rattle.std.specs.List.{list_all}
use Rattle.tc_item.specs.KeyRule.{is_key}
use Rattle.tc_grammar.specs.Lines.{◌>>=◌}
use Rattle.tc_grammar.specs.Numbers.{exptime_of}
use Rattle.tc_grammar.specs.declared.command.Form.{Form}
use Rattle.tc_grammar.specs.declared.command.Command.{Command}
use Rattle.tc_grammar.specs.declared.command.Command.TheVariants.{Get, Gat}

-- one or more tokens, each of them a key
unfoldable pub keys_of : List (List ℕ) → Option (List (List ℕ))
keys_of tokens = if nat_lt 0 (length tokens) && list_all is_key tokens then Some tokens else None

-- `get` and `gets`: `<key>+`; here `noreply` is a key
unfoldable pub get_of : Form → List (List ℕ) → Option Command
get_of form tokens = do
  keys ← keys_of tokens
  Some (Get form keys)

-- `gat` and `gats`: `<exptime> <key>+`
unfoldable pub gat_of : Form → List (List ℕ) → Option Command
gat_of form [] = None
gat_of form (exptime ∷ tokens) = do
  exptime ← exptime_of exptime
  keys ← keys_of tokens
  Some (Gat form exptime keys)
