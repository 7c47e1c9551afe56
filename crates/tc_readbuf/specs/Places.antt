-- How many look-ups may wait. Source: this project's own.
use Rattle.std.specs.Prelude.{ℕ}

-- the places of records that wait
abbrev pub places : ℕ
places = 128
