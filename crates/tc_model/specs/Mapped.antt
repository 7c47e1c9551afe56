-- Areas of one kind of thing, seen as areas of another. Source: this project's own.
use Rattle.std.specs.Prelude.{map}
use Rattle.tc_model.specs.Areas.{Areas, Settled}

-- each thing as what it stands for
abbrev pub map_areas : {A B : Type 0} → (A → B) → Areas A → Areas B
map_areas f a = record { window = map f a.window; probation = map f a.probation; protected = map f a.protected }

-- and what was dropped
abbrev pub map_settled : {A B : Type 0} → (A → B) → Settled A → Settled B
map_settled f s = record { areas = map_areas f s.areas; dropped = map f s.dropped }
