-- Each hit shows what the commands before it last left under its key: never an item
-- expired, deleted or flushed. Source: this project's own.
use Rattle.std.specs.Prelude.{◌≡◌, ℕ, List, [], ◌∷◌, ◌++◌, Some, option_map, All}
use Rattle.tc_model.specs.Caching.{Event, Replays}
use Rattle.tc_grammar.specs.declared.command.Command.{Command}
use Rattle.tc_stats.specs.declared.hits.Hit.{Hit}
use Rattle.tc_stats.specs.declared.outcome.Outcome.{Outcome}
use Rattle.tc_stats.specs.declared.outcome.Outcome.TheVariants.{Values}
use Rattle.tc_plain.specs.Entries.{shown_as}
use Rattle.tc_plain.specs.UserCache.{fresh}
use Rattle.tc_plain.specs.Laws.{user_caching}
use Rattle.tc_plain.specs.Cell.{cell, cell_at}

-- the hits of an outcome
abbrev pub hits_in : Outcome → List Hit
hits_in (Values hits) = hits
hits_in outcome = []

-- a hit is what these events left under its key, at this moment
abbrev pub IsCell : List (Event Command Outcome) → ℕ → Hit → Type 0
IsCell before moment hit = option_map (shown_as hit.key) (cell_at moment (cell before hit.key)).item ≡ Some hit

-- in each history of a fresh cache, each hit is what the history before it left under its key
abbrev pub IsFresh : Type 0
IsFresh =
    (budget largest : ℕ) (before after : List (Event Command Outcome)) (e : Event Command Outcome)
    → Replays user_caching 0 (fresh budget largest) (before ++ e ∷ after) → All (IsCell before e.moment) (hits_in e.outcome)
