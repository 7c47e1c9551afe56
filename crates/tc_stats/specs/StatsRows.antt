-- The rows of `stats` without arguments, in their order. Source: memcached's doc/protocol.txt,
-- "General-purpose statistics"; their choice and order are this project's own.
use Rattle.std.specs.Prelude.{ℕ, List, [], ◌∷◌, ◌++◌, codes, decimal}
use Rattle.std.specs.List.{flat_map}
use Rattle.tc_stats.specs.declared.counters.Counters.{Counters}

-- the server's version
abbrev pub version_text : List ℕ
version_text = codes "1.0.0-partcached"

-- the counters under their names, in the order of the rows
abbrev pub named_numbers : Counters → List (List ℕ × ℕ)
named_numbers c =
    (codes "curr_items", c.curr_items) ∷ (codes "total_items", c.total_items) ∷ (codes "bytes", c.bytes)
    ∷ (codes "cmd_get", c.cmd_get) ∷ (codes "cmd_set", c.cmd_set) ∷ (codes "cmd_flush", c.cmd_flush)
    ∷ (codes "cmd_touch", c.cmd_touch)
    ∷ (codes "get_hits", c.get_hits) ∷ (codes "get_misses", c.get_misses)
    ∷ (codes "delete_misses", c.delete_misses) ∷ (codes "delete_hits", c.delete_hits)
    ∷ (codes "incr_misses", c.incr_misses) ∷ (codes "incr_hits", c.incr_hits)
    ∷ (codes "decr_misses", c.decr_misses) ∷ (codes "decr_hits", c.decr_hits)
    ∷ (codes "cas_misses", c.cas_misses) ∷ (codes "cas_hits", c.cas_hits) ∷ (codes "cas_badval", c.cas_badval)
    ∷ (codes "touch_hits", c.touch_hits) ∷ (codes "touch_misses", c.touch_misses) ∷ (codes "evictions", c.evictions)
    ∷ (codes "limit_maxbytes", c.limit_maxbytes) ∷ (codes "item_size_max", c.item_size_max)
    ∷ (codes "store_too_large", c.store_too_large) ∷ []

-- a row: STAT, a name, a value and a line end, with a space between
unfoldable pub row_of : List ℕ → List ℕ → List ℕ
row_of name value = codes "STAT " ++ (name ++ (32 ∷ value ++ codes "\r\n"))

-- the row of a number
abbrev pub number_row : List ℕ × ℕ → List ℕ
number_row r = row_of r.0 (decimal r.1)

-- all rows, that of the version first
unfoldable pub stats_rows : Counters → List ℕ
stats_rows c = row_of (codes "version") version_text ++ flat_map number_row (named_numbers c)
