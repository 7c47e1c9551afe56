-- What a line says: its first token is a name, and the name says how the other
-- tokens are read. Source: memcached's doc/protocol.txt.
use Rattle.std.specs.Prelude.{ℕ, List, [], ◌∷◌, Option, Some, None}
use Rattle.tc_grammar.specs.Counting.{count_line}
use Rattle.tc_grammar.specs.Ending.{ended}
use Rattle.tc_grammar.specs.Keyed.{delete_of, touch_of}
use Rattle.tc_grammar.specs.Lines.{unknown, ready}
use Rattle.tc_grammar.specs.Names.{verb_of}
use Rattle.tc_grammar.specs.Retrieval.{get_of, gat_of}
use Rattle.tc_grammar.specs.Storage.{storage_line}
use Rattle.tc_grammar.specs.Tokens.{tokens}
use Rattle.tc_grammar.specs.Unkeyed.{flush_of, verbosity_of}
use Rattle.tc_grammar.specs.declared.command.Command.TheVariants.{Stats, Version, Quit}
use Rattle.tc_grammar.specs.declared.line.Line.{Line}
use Rattle.tc_grammar.specs.declared.verb.Verb.{Verb}
use Rattle.tc_grammar.specs.declared.verb.Verb.TheVariants as name

-- what a name and the tokens after it say
abbrev pub said_by : ℕ → Option Verb → List (List ℕ) → Line
said_by limit None rest = unknown
said_by limit (Some (name.Store kind)) rest = storage_line limit kind rest
said_by limit (Some (name.Count way)) rest = count_line way rest
said_by limit (Some (name.Get form)) rest = ready (get_of form rest)
said_by limit (Some (name.Gat form)) rest = ready (gat_of form rest)
said_by limit (Some name.Delete) rest = ready (delete_of rest)
said_by limit (Some name.Touch) rest = ready (touch_of rest)
said_by limit (Some name.FlushAll) rest = ready (flush_of rest)
said_by limit (Some name.Stats) rest = ready (ended Stats rest)
said_by limit (Some name.Version) rest = ready (ended Version rest)
said_by limit (Some name.Verbosity) rest = ready (verbosity_of rest)
said_by limit (Some name.Quit) rest = ready (ended Quit rest)

-- what tokens say; a line without a token has no command's name
abbrev pub said_of : ℕ → List (List ℕ) → Line
said_of limit [] = unknown
said_of limit (name ∷ rest) = said_by limit (verb_of name) rest

-- what a line says, without its end, where blocks of at most so many bytes are taken
abbrev pub reading : ℕ → List ℕ → Line
reading limit line = said_of limit (tokens line)
