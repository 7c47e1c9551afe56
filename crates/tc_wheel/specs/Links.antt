-- What the nodes of the ring say of slots.
use Rattle.std.specs.Prelude.{Option, Some, None, ℕ}
use Rattle.tc_ring.specs.Links as ring

-- the links of the nodes, and when the slot of each is due
abbrev pub Links : Type 0
Links = ring.Links (Option ℕ)

-- with n nodes at least, where nothing is held at those that come
abbrev pub grown : ℕ → Links → Links
grown n l = ring.grown n None l

-- when the slot of a node is due was noted
abbrev pub noted : ℕ → ℕ → Links → Links
noted at due l = ring.noted at (Some due) l

-- that the slot of a node is not held was noted
abbrev pub freed : ℕ → Links → Links
freed at l = ring.noted at None l
