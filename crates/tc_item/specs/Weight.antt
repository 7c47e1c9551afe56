-- What an item weighs. Source: this project's own measure.
use Rattle.std.specs.Prelude.{ℕ, ◌+◌, List, length}
use Rattle.tc_item.specs.Bounds.{record_weight}

-- the bytes of the key and of the data, and those that stand for the item's record
abbrev pub weight_of : List ℕ → ℕ → ℕ
weight_of key data_len = length key + data_len + record_weight
