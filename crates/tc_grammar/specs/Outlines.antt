-- What is known of a line without its keys. Source: this project's own.
use Rattle.std.specs.Prelude.{Bool, false}
use Rattle.tc_grammar.specs.declared.command.Command.{Command}
use Rattle.tc_grammar.specs.declared.command.Command.TheVariants.{Store, Get, Gat, Delete, Count, Touch, Flush, Stats, Version}
use Rattle.tc_grammar.specs.declared.command.Command.TheVariants.{Verbosity, Quit}
use Rattle.tc_grammar.specs.declared.line.Line.{Line}
use Rattle.tc_grammar.specs.declared.line.Line.TheVariants.{Ready, NeedsBlock, Refused}
use Rattle.tc_grammar.specs.declared.outline.Outline.{Outline}
use Rattle.tc_grammar.specs.declared.outline.Outline.TheVariants.{Command as Whole, Quit as Parting, NeedsBlock as Announced}
use Rattle.tc_grammar.specs.declared.outline.Outline.TheVariants.{Refused as Fails}

-- the line has `noreply`
abbrev pub is_quiet : Command → Bool
is_quiet (Store head blob) = head.quiet
is_quiet (Get form keys) = false
is_quiet (Gat form exptime keys) = false
is_quiet (Delete key quiet) = quiet
is_quiet (Count way key value quiet) = quiet
is_quiet (Touch key exptime quiet) = quiet
is_quiet (Flush delay quiet) = quiet
is_quiet Stats = false
is_quiet Version = false
is_quiet (Verbosity level quiet) = quiet
is_quiet Quit = false

-- what is known of a command
abbrev pub outline_of_command : Command → Outline
outline_of_command Quit = Parting
outline_of_command command = Whole (is_quiet command)

-- what is known of a line
abbrev pub outline_of : Line → Outline
outline_of (Ready command) = outline_of_command command
outline_of (NeedsBlock head n) = Announced head.quiet n
outline_of (Refused fault quiet skip) = Fails fault quiet skip
