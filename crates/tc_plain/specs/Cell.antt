-- What a history of commands last left under a key. It knows nothing of areas,
-- frequencies or evictions. Source: memcached's doc/protocol.txt.
use Rattle.std.specs.Prelude.{ℕ, zero, suc, ◌+◌, cond, List, [], ◌∷◌, ◌++◌, Option, Some, None, option_map, Bool, false}
use Rattle.std.specs.Str.{bytes_eq}
use Rattle.std.specs.List.{list_any}
use Rattle.tc_model.specs.Caching.{Event}
use Rattle.tc_item.specs.declared.item.Item.{Item}
use Rattle.tc_item.specs.Expiry.{due_of, is_before}
use Rattle.tc_counter.specs.CounterText.{text_of}
use Rattle.tc_grammar.specs.declared.command.StoreKind.{StoreKind}
use Rattle.tc_grammar.specs.declared.command.StoreKind.TheVariants.{Append, Prepend}
use Rattle.tc_grammar.specs.declared.command.Head.{Head}
use Rattle.tc_grammar.specs.declared.command.Command.{Command}
use Rattle.tc_grammar.specs.declared.command.Command.TheVariants.{Store, Get, Gat, Delete, Count, Touch, Flush, Stats as AskStats}
use Rattle.tc_grammar.specs.declared.command.Command.TheVariants.{Version as AskVersion, Verbosity, Quit}
use Rattle.tc_stats.specs.declared.outcome.Outcome.{Outcome}
use Rattle.tc_stats.specs.declared.outcome.Outcome.TheVariants.{Stored, Touched, Number, Values}
use Rattle.tc_plain.specs.Entries.{with_due, with_data}
use Rattle.tc_plain.specs.EvictionState.{is_flush_due}
use Rattle.tc_plain.specs.Storing.{item_of}

-- what stands under one key
pub record Cell : Type 0 where
  -- what stands under the key
  pub item : Option Item
  -- when all items go, if that was asked for
  pub flush : Option ℕ
  -- how many commands so far stored or counted
  pub changes : ℕ

-- before any command
abbrev pub empty_cell : Cell
empty_cell = record { item = None; flush = None; changes = 0 }

-- an item, if it is alive
abbrev pub living : ℕ → Option Item → Option Item
living moment None = None
living moment (Some i) = cond (is_before moment i.due) (Some i) None

-- a cell at a later moment: nothing where a pending flush is due, which is then over, or where the item isn't alive
abbrev pub cell_at : ℕ → Cell → Cell
cell_at moment c = cond (is_flush_due c.flush moment)
    (record { item = None; flush = None; changes = c.changes })
    (record c { item = living moment c.item })

-- what a storage line that stored leaves: append and prepend join the data and keep flags and due
abbrev pub left_by : StoreKind → Item → Option Item → Option Item
left_by Append new old = option_map (λ i. with_data new.cas (i.blob ++ new.blob) i) old
left_by Prepend new old = option_map (λ i. with_data new.cas (new.blob ++ i.blob) i) old
left_by kind new old = Some new

-- one of the hits is of this key
abbrev pub shows : List ℕ → Outcome → Bool
shows key (Values hits) = list_any (λ h. bytes_eq key h.key) hits
shows key outcome = false

-- what a storage line of the same key leaves, by its outcome
abbrev pub after_store : Head → List ℕ → ℕ → ℕ → Outcome → Option Item → Option Item
after_store head blob moment cas Stored i = left_by head.kind (item_of head blob moment cas) i
after_store head blob moment cas outcome i = i

-- what a count of the same key leaves, by its outcome
abbrev pub after_count : ℕ → Outcome → Option Item → Option Item
after_count cas (Number n) i = option_map (with_data cas (text_of n)) i
after_count cas outcome i = i

-- what a touch of the same key leaves, by its outcome
abbrev pub after_touch : (Item → Item) → Outcome → Option Item → Option Item
after_touch change Touched i = option_map change i
after_touch change outcome i = i

-- what a flush leaves of any key: nothing, unless it has a delay
abbrev pub after_flush : ℕ → Option Item → Option Item
after_flush zero i = None
after_flush (suc delay) i = i

-- what any command leaves under a key
abbrev pub item_after : List ℕ → ℕ → ℕ → Command → Outcome → Option Item → Option Item
item_after key moment cas (Store head blob) outcome i =
    cond (bytes_eq key head.key) (after_store head blob moment cas outcome i) i
item_after key moment cas (Get form keys) outcome i = i
item_after key moment cas (Gat form exptime keys) outcome i =
    cond (shows key outcome) (option_map (with_due (due_of exptime moment)) i) i
item_after key moment cas (Delete deleted quiet) outcome i = cond (bytes_eq key deleted) None i
item_after key moment cas (Count way counted value quiet) outcome i = cond (bytes_eq key counted) (after_count cas outcome i) i
item_after key moment cas (Touch touched exptime quiet) outcome i =
    cond (bytes_eq key touched) (after_touch (with_due (due_of exptime moment)) outcome i) i
item_after key moment cas (Flush delay quiet) outcome i = after_flush delay i
item_after key moment cas AskStats outcome i = i
item_after key moment cas AskVersion outcome i = i
item_after key moment cas (Verbosity level quiet) outcome i = i
item_after key moment cas Quit outcome i = i

-- the pending flush after a command
abbrev pub flush_after : ℕ → Command → Option ℕ → Option ℕ
flush_after moment (Flush zero quiet) flush = None
flush_after moment (Flush (suc delay) quiet) flush = Some (moment + suc delay)
flush_after moment command flush = flush

-- how many commands stored or counted, after one with this outcome
abbrev pub changes_after : Outcome → ℕ → ℕ
changes_after Stored n = n + 1
changes_after (Number value) n = n + 1
changes_after outcome n = n

-- the cell after a command at its moment
abbrev pub after_command : List ℕ → Event Command Outcome → Cell → Cell
after_command key e c = record {
  item = living e.moment (item_after key e.moment (changes_after e.outcome c.changes) e.command e.outcome c.item);
  flush = flush_after e.moment e.command c.flush;
  changes = changes_after e.outcome c.changes;
}

-- a cell after the commands of a history
abbrev pub cell_from : List ℕ → Cell → List (Event Command Outcome) → Cell
cell_from key c [] = c
cell_from key c (e ∷ es) = cell_from key (after_command key e (cell_at e.moment c)) es

-- what a history last left under a key
abbrev pub cell : List (Event Command Outcome) → List ℕ → Cell
cell history key = cell_from key empty_cell history
