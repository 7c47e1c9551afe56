-- What a line can come to, and the bounds that each keeps. Source: memcached's
-- doc/protocol.txt, 'Error strings'; skipping is this project's own.
use Rattle.std.specs.Prelude.{◌≡◌, ℕ, ◌+◌, ◌≤◌, true, false, Option, Some, None, option_and_then}
use Rattle.tc_grammar.specs.declared.command.Command.{Command}
use Rattle.tc_grammar.specs.declared.fault.Fault.TheVariants.{UnknownCommand, BadFormat, TooLarge}
use Rattle.tc_grammar.specs.Numbers.{longest_block}
use Rattle.tc_grammar.specs.declared.line.Line.{Line}
use Rattle.tc_grammar.specs.declared.line.Line.TheVariants.{Ready, NeedsBlock, Refused}

infixl 10 ◌>>=◌
-- what a `do` joins: a part that is not of its form leaves nothing
abbrev pub ◌>>=◌ : {A B : Type 0} → Option A → (A → Option B) → Option B
o >>= f = option_and_then f o

-- a name that is no command's
abbrev pub unknown : Line
unknown = Refused UnknownCommand false 0

-- a known name whose tokens are not of its form; so many bytes after the line are skipped
abbrev pub bad_format : ℕ → Line
bad_format skip = Refused BadFormat false skip

-- a command that needs no block, where the tokens are of its form
abbrev pub ready : Option Command → Line
ready None = bad_format 0
ready (Some command) = Ready command

-- a block is within the limit, and a skip is at most that of the longest block and its line end
abbrev pub IsBounded : ℕ → Line → Type 0
IsBounded limit (Ready command) = Unit {0}
IsBounded limit (NeedsBlock head n) = n ≤ limit
IsBounded limit (Refused fault quiet skip) = skip ≤ longest_block + 2

-- a line is answered where it is refused, but for a block over the limit, which `noreply` keeps quiet
abbrev pub IsAnswered : Line → Type 0
IsAnswered (Ready command) = Unit {0}
IsAnswered (NeedsBlock head n) = Unit {0}
IsAnswered (Refused fault quiet skip) = quiet ≡ true → fault ≡ TooLarge
