-- Counter lines. Source: memcached's doc/protocol.txt, 'Increment/Decrement'.
use Rattle.std.specs.Prelude.{ℕ, ◌-◌, ◌^◌, Bool, false, if◌then◌else◌, List, ◌∷◌, Option, Some, None}
use Rattle.tc_item.specs.KeyRule.{is_key}
use Rattle.tc_grammar.specs.Ending.{quiet_of}
use Rattle.tc_grammar.specs.Lines.{bad_format}
use Rattle.tc_grammar.specs.Numbers.{number_of}
use Rattle.tc_grammar.specs.declared.command.Way.{Way}
use Rattle.tc_grammar.specs.declared.command.Command.TheVariants.{Count}
use Rattle.tc_grammar.specs.declared.fault.Fault.TheVariants.{BadDelta}
use Rattle.tc_grammar.specs.declared.line.Line.{Line}
use Rattle.tc_grammar.specs.declared.line.Line.TheVariants.{Ready, Refused}

-- by the value and the ending: where all but the value is well, the fault is the delta's own
abbrev pub counted : Way → List ℕ → Option ℕ → Option Bool → Line
counted way key value None = bad_format 0
counted way key None (Some quiet) = Refused BadDelta false 0
counted way key (Some value) (Some quiet) = Ready (Count way key value quiet)

-- `incr` and `decr`: `<key> <value> [noreply]`; the second token is the value, whatever it is
unfoldable pub count_line : Way → List (List ℕ) → Line
count_line way (key ∷ value ∷ rest) =
    if is_key key then counted way key (number_of (2 ^ 64 - 1) value) (quiet_of rest) else bad_format 0
count_line way _ = bad_format 0
