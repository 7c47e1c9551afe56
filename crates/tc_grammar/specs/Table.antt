-- The table of lines, row by row: which tokens behind a name spell what. Source:
-- memcached's doc/protocol.txt; skipping is this project's own.
use Rattle.std.specs.Prelude.{◌≡◌, ℕ, ◌+◌, ◌-◌, ◌^◌, ◌<◌, ◌≤◌, Bool, true, false, bytes_eq, codes, List, [], ◌∷◌, Some, None, ℤ}
use Rattle.std.specs.List.{list_all}
use Rattle.std.specs.Option.{option_map_or}
use Rattle.tc_item.specs.KeyRule.{is_key}
use Rattle.tc_grammar.specs.Ending.{quiet_of, without_zero}
use Rattle.tc_grammar.specs.Lines.{unknown, bad_format}
use Rattle.tc_grammar.specs.Names.{verb_of}
use Rattle.tc_grammar.specs.Numbers.{longest_block, number_of, exptime_of}
use Rattle.tc_grammar.specs.Reading.{reading}
use Rattle.tc_grammar.specs.Storage.{ending_of}
use Rattle.tc_grammar.specs.Tokens.{tokens}
use Rattle.tc_grammar.specs.declared.command.Command.TheVariants as command
use Rattle.tc_grammar.specs.declared.command.Form.{Form}
use Rattle.tc_grammar.specs.declared.command.Head.{Head}
use Rattle.tc_grammar.specs.declared.command.StoreKind.{StoreKind}
use Rattle.tc_grammar.specs.declared.command.Way.{Way}
use Rattle.tc_grammar.specs.declared.fault.Fault.TheVariants.{TooLarge, BadDelta}
use Rattle.tc_grammar.specs.declared.line.Line.{Line}
use Rattle.tc_grammar.specs.declared.line.Line.TheVariants.{Ready, NeedsBlock, Refused}
use Rattle.tc_grammar.specs.declared.verb.Verb.{Verb}
use Rattle.tc_grammar.specs.declared.verb.Verb.TheVariants as name

-- a head whose tokens are well, but for the block's length
pub record IsHead (kind : StoreKind) (key flags exptime : List ℕ) (rest : List (List ℕ)) (head : Head) : Type 0 where
  pub kind_is : head.kind ≡ kind
  pub key_is : head.key ≡ key
  pub key_good : is_key key ≡ true
  pub flags_is : number_of (2 ^ 32 - 1) flags ≡ Some head.flags
  pub exptime_is : exptime_of exptime ≡ Some head.exptime
  pub ending_is : ending_of kind rest ≡ Some (head.cas_unique, head.quiet)

-- a row of the table: the tokens behind a name, and what they spell
pub data IsRow (limit : ℕ) : Verb → List (List ℕ) → Line → Type 0 where
  block : (kind : StoreKind) (key flags exptime bytes : List ℕ) (rest : List (List ℕ)) (head : Head) (n : ℕ) →
      IsHead kind key flags exptime rest head → number_of longest_block bytes ≡ Some n → n ≤ limit →
      IsRow limit (name.Store kind) (key ∷ flags ∷ exptime ∷ bytes ∷ rest) (NeedsBlock head n)
  too_large : (kind : StoreKind) (key flags exptime bytes : List ℕ) (rest : List (List ℕ)) (head : Head) (n : ℕ) →
      IsHead kind key flags exptime rest head → number_of longest_block bytes ≡ Some n → limit < n →
      IsRow limit (name.Store kind) (key ∷ flags ∷ exptime ∷ bytes ∷ rest) (Refused TooLarge head.quiet (n + 2))
  get : (form : Form) (key : List ℕ) (keys : List (List ℕ)) →
      list_all is_key (key ∷ keys) ≡ true →
      IsRow limit (name.Get form) (key ∷ keys) (Ready (command.Get form (key ∷ keys)))
  gat : (form : Form) (exptime key : List ℕ) (keys : List (List ℕ)) (e : ℤ) →
      exptime_of exptime ≡ Some e → list_all is_key (key ∷ keys) ≡ true →
      IsRow limit (name.Gat form) (exptime ∷ key ∷ keys) (Ready (command.Gat form e (key ∷ keys)))
  delete : (key : List ℕ) (rest : List (List ℕ)) (quiet : Bool) →
      is_key key ≡ true → quiet_of (without_zero rest) ≡ Some quiet →
      IsRow limit name.Delete (key ∷ rest) (Ready (command.Delete key quiet))
  count : (way : Way) (key value : List ℕ) (rest : List (List ℕ)) (n : ℕ) (quiet : Bool) →
      is_key key ≡ true → number_of (2 ^ 64 - 1) value ≡ Some n → quiet_of rest ≡ Some quiet →
      IsRow limit (name.Count way) (key ∷ value ∷ rest) (Ready (command.Count way key n quiet))
  bad_delta : (way : Way) (key value : List ℕ) (rest : List (List ℕ)) (quiet : Bool) →
      is_key key ≡ true → number_of (2 ^ 64 - 1) value ≡ None → quiet_of rest ≡ Some quiet →
      IsRow limit (name.Count way) (key ∷ value ∷ rest) (Refused BadDelta false 0)
  touch : (key exptime : List ℕ) (rest : List (List ℕ)) (e : ℤ) (quiet : Bool) →
      is_key key ≡ true → exptime_of exptime ≡ Some e → quiet_of rest ≡ Some quiet →
      IsRow limit name.Touch (key ∷ exptime ∷ rest) (Ready (command.Touch key e quiet))
  flush : IsRow limit name.FlushAll [] (Ready (command.Flush 0 false))
  flush_quietly : (token : List ℕ) → bytes_eq token (codes "noreply") ≡ true →
      IsRow limit name.FlushAll (token ∷ []) (Ready (command.Flush 0 true))
  flush_later : (delay : List ℕ) (rest : List (List ℕ)) (d : ℕ) (quiet : Bool) →
      bytes_eq delay (codes "noreply") ≡ false → number_of (2 ^ 32 - 1) delay ≡ Some d → quiet_of rest ≡ Some quiet →
      IsRow limit name.FlushAll (delay ∷ rest) (Ready (command.Flush d quiet))
  stats : IsRow limit name.Stats [] (Ready command.Stats)
  version : IsRow limit name.Version [] (Ready command.Version)
  verbosity : (level : List ℕ) (rest : List (List ℕ)) (n : ℕ) (quiet : Bool) →
      number_of (2 ^ 32 - 1) level ≡ Some n → quiet_of rest ≡ Some quiet →
      IsRow limit name.Verbosity (level ∷ rest) (Ready (command.Verbosity n quiet))
  quit : IsRow limit name.Quit [] (Ready command.Quit)

-- what a line of no row skips: after a storage name, the block that the fourth token behind it announces, and two bytes more
abbrev pub skip_of : Verb → List (List ℕ) → ℕ
skip_of (name.Store kind) (key ∷ flags ∷ exptime ∷ bytes ∷ rest) = option_map_or (λ n. n + 2) (number_of longest_block bytes) 0
skip_of _ _ = 0

-- what tokens spell: no command's name is unknown; a known name spells its row, and a bad format where it has none
pub data Spells (limit : ℕ) : List (List ℕ) → Line → Type 0 where
  empty : Spells limit [] unknown
  unknown_name : (name : List ℕ) (rest : List (List ℕ)) → verb_of name ≡ None → Spells limit (name ∷ rest) unknown
  row : (name : List ℕ) (rest : List (List ℕ)) (verb : Verb) (said : Line) →
      verb_of name ≡ Some verb → IsRow limit verb rest said → Spells limit (name ∷ rest) said
  no_row : (name : List ℕ) (rest : List (List ℕ)) (verb : Verb) →
      verb_of name ≡ Some verb → ((said : Line) → IsRow limit verb rest said → ⊥) →
      Spells limit (name ∷ rest) (bad_format (skip_of verb rest))

-- each line spells its reading, and nothing else
abbrev pub EachLineSpellsOneThing : Type 0
EachLineSpellsOneThing = (limit : ℕ) (line : List ℕ) →
    Spells limit (tokens line) (reading limit line)
    × ((other : Line) → Spells limit (tokens line) other → other ≡ reading limit line)
