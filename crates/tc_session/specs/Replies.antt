-- The reply to a command. Source: memcached's doc/protocol.txt; the version's text is this project's own.
use Rattle.std.specs.Prelude.{ℕ, not, ◌||◌, Bool, true, false, List, [], ◌∷◌, ◌++◌, length, codes, decimal}
use Rattle.std.specs.List.{flat_map}
use Rattle.tc_grammar.specs.declared.command.StoreKind.{StoreKind}
use Rattle.tc_grammar.specs.declared.command.StoreKind.TheVariants.{Set, Cas}
use Rattle.tc_grammar.specs.declared.command.Form.{Form}
use Rattle.tc_grammar.specs.declared.command.Form.TheVariants.{Bare, WithCas}
use Rattle.tc_grammar.specs.declared.command.Command.{Command}
use Rattle.tc_grammar.specs.declared.command.Command.TheVariants.{Store, Get, Gat, Delete, Count, Touch, Flush, Stats as AskStats}
use Rattle.tc_grammar.specs.declared.command.Command.TheVariants.{Version as AskVersion, Verbosity}
use Rattle.tc_grammar.specs.Outlines.{is_quiet}
use Rattle.tc_grammar.specs.declared.fault.Fault.TheVariants.{TooLarge as TooLargeFault, NotNumeric as NotNumericFault}
use Rattle.tc_grammar.specs.declared.fault.Fault.TheVariants.{CasWorn as CasWornFault}
use Rattle.tc_stats.specs.declared.counters.Counters.{Counters}
use Rattle.tc_stats.specs.declared.hits.Hit.{Hit}
use Rattle.tc_stats.specs.declared.outcome.Outcome.{Outcome}
use Rattle.tc_stats.specs.declared.outcome.Outcome.TheVariants.{Stored, NotStored, Exists, NotFound, Deleted, Touched, Number}
use Rattle.tc_stats.specs.declared.outcome.Outcome.TheVariants.{Values, Done, Stats, Version, TooLarge, NotNumeric, CasWorn}
use Rattle.tc_stats.specs.StatsRows.{version_text, stats_rows}
use Rattle.tc_session.specs.Texts.{line_end, fault_line, unless_quiet}

-- a storage name's refusal for what its key holds
abbrev pub is_refusal : StoreKind → Outcome → Bool
is_refusal Set outcome = false
is_refusal Cas NotFound = true
is_refusal Cas Exists = true
is_refusal Cas outcome = false
is_refusal kind NotStored = true
is_refusal kind outcome = false

-- what any storage name may come to
abbrev pub is_store_end : Outcome → Bool
is_store_end Stored = true
is_store_end TooLarge = true
is_store_end CasWorn = true
is_store_end outcome = false

-- the command has outcomes of this kind
abbrev pub can_end : Command → Outcome → Bool
can_end (Store head blob) outcome = is_store_end outcome || is_refusal head.kind outcome
can_end (Get form keys) (Values hits) = true
can_end (Gat form exptime keys) (Values hits) = true
can_end (Delete key quiet) Deleted = true
can_end (Delete key quiet) NotFound = true
can_end (Count way key value quiet) (Number n) = true
can_end (Count way key value quiet) NotFound = true
can_end (Count way key value quiet) NotNumeric = true
can_end (Count way key value quiet) CasWorn = true
can_end (Touch key exptime quiet) Touched = true
can_end (Touch key exptime quiet) NotFound = true
can_end (Flush delay quiet) Done = true
can_end AskStats (Stats counters) = true
can_end AskVersion Version = true
can_end (Verbosity level quiet) Done = true
can_end command outcome = false

-- whether a command's VALUE lines show cas numbers
abbrev pub form_of : Command → Form
form_of (Get form keys) = form
form_of (Gat form exptime keys) = form
form_of command = Bare

-- the cas number at the end of a VALUE line, where it is asked for
abbrev pub cas_text : Form → ℕ → List ℕ
cas_text Bare cas = []
cas_text WithCas cas = 32 ∷ decimal cas

-- a VALUE line: key, flags and length, and the cas number where it is asked for
unfoldable pub value_line : Form → Hit → List ℕ
value_line form hit =
    codes "VALUE "
    ++ (hit.key ++ (32 ∷ decimal hit.flags ++ (32 ∷ decimal (length hit.blob) ++ (cas_text form hit.cas ++ line_end))))

-- a VALUE line, the bytes and a line end
unfoldable pub value_text : Form → Hit → List ℕ
value_text form hit = value_line form hit ++ (hit.blob ++ line_end)

-- the VALUE lines of all hits, and END
unfoldable pub values_text : Form → List Hit → List ℕ
values_text form hits = flat_map (value_text form) hits ++ codes "END\r\n"

-- the rows of all counters, and END
unfoldable pub stats_text : Counters → List ℕ
stats_text counters = stats_rows counters ++ codes "END\r\n"

-- the reply to an outcome
abbrev pub reply_of : Form → Outcome → List ℕ
reply_of form Stored = codes "STORED\r\n"
reply_of form NotStored = codes "NOT_STORED\r\n"
reply_of form Exists = codes "EXISTS\r\n"
reply_of form NotFound = codes "NOT_FOUND\r\n"
reply_of form Deleted = codes "DELETED\r\n"
reply_of form Touched = codes "TOUCHED\r\n"
reply_of form (Number n) = decimal n ++ line_end
reply_of form (Values hits) = values_text form hits
reply_of form Done = codes "OK\r\n"
reply_of form (Stats counters) = stats_text counters
reply_of form Version = codes "VERSION " ++ (version_text ++ line_end)
reply_of form TooLarge = fault_line TooLargeFault
reply_of form NotNumeric = fault_line NotNumericFault
reply_of form CasWorn = fault_line CasWornFault

-- the reply; nothing with `noreply`, and where the command has no outcome of that kind
abbrev pub render : Command → Outcome → List ℕ
render command outcome = unless_quiet (is_quiet command || not (can_end command outcome)) (reply_of (form_of command) outcome)

-- the outcome of a look-up or of stats, whose reply may be long and need memory
abbrev pub is_long : Outcome → Bool
is_long (Values hits) = true
is_long (Stats counters) = true
is_long outcome = false
