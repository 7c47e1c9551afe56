-- Which items a list of few holds, kept in place or not. Source: this project's own.
use Rattle.std.specs.Prelude.{List, []}
use Rattle.tc_item.specs.declared.few.Repr.{Repr}
use Rattle.tc_item.specs.declared.few.Repr.TheVariants.{Nothing, One, Many}

-- none, one or many items, as a list
abbrev pub items_held : {T : Type 0} → Repr T → List T
items_held Nothing = []
items_held (One one) = one
items_held (Many shared) = shared.value.items
