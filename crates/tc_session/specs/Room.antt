-- Room for hits that are written in one. Source: this project's own.
use Rattle.std.specs.Prelude.{ℕ, ◌+◌, List, [], ◌∷◌, length}
use Rattle.tc_stats.specs.declared.hits.Hit.{Hit}

-- the most bytes of a hit: its key, its data, and 73 for the rest of its VALUE line and a line end
abbrev pub most_of : Hit → ℕ
most_of hit = length hit.key + length hit.blob + 73

-- the most bytes of all hits, and the five of END
abbrev pub room_of : List Hit → ℕ
room_of [] = 5
room_of (hit ∷ hits) = most_of hit + room_of hits
