-- The names that a line may begin with. Source: memcached's doc/protocol.txt, the commands in their order.
use Rattle.std.specs.Prelude.{ℕ, bytes_eq, codes, if◌then◌else◌, List, [], ◌∷◌, Option, Some, None}
use Rattle.std.specs.Option.{option_or}
use Rattle.tc_grammar.specs.declared.command.StoreKind.TheVariants.{Set, Add, Replace, Append, Prepend, Cas}
use Rattle.tc_grammar.specs.declared.command.Form.TheVariants.{Bare, WithCas}
use Rattle.tc_grammar.specs.declared.command.Way.TheVariants.{Incr, Decr}
use Rattle.tc_grammar.specs.declared.verb.Verb.{Verb}
use Rattle.tc_grammar.specs.declared.verb.Verb.TheVariants.{Store, Get, Gat, Delete, Count, Touch, FlushAll, Stats, Version}
use Rattle.tc_grammar.specs.declared.verb.Verb.TheVariants.{Verbosity, Quit}

-- the row of a name in a table
abbrev pub named : List ℕ → List (List ℕ × Verb) → Option Verb
named name [] = None
named name (row ∷ rows) = if bytes_eq name row.0 then Some row.1 else named name rows

-- the names that show items
abbrev pub retrieval_names : List (List ℕ × Verb)
retrieval_names =
    (codes "get", Get Bare) ∷
    (codes "gets", Get WithCas) ∷
    (codes "gat", Gat Bare) ∷
    (codes "gats", Gat WithCas) ∷
    []

-- the six names that store a block
abbrev pub storage_names : List (List ℕ × Verb)
storage_names =
    (codes "set", Store Set) ∷
    (codes "add", Store Add) ∷
    (codes "replace", Store Replace) ∷
    (codes "append", Store Append) ∷
    (codes "prepend", Store Prepend) ∷
    (codes "cas", Store Cas) ∷
    []

-- the other names
abbrev pub other_names : List (List ℕ × Verb)
other_names =
    (codes "incr", Count Incr) ∷
    (codes "decr", Count Decr) ∷
    (codes "delete", Delete) ∷
    (codes "touch", Touch) ∷
    (codes "flush_all", FlushAll) ∷
    (codes "stats", Stats) ∷
    (codes "version", Version) ∷
    (codes "verbosity", Verbosity) ∷
    (codes "quit", Quit) ∷
    []

-- the command of a name, in lower case
unfoldable pub verb_of : List ℕ → Option Verb
verb_of name = option_or (named name retrieval_names) (option_or (named name storage_names) (named name other_names))
