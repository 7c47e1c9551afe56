-- How many connections a process has descriptors for. Source: this project's own.
use Rattle.std.specs.Prelude.{ℕ, ◌-◌, Option, Some, None}
use Rattle.tc_net.specs.declared.descriptors.Descriptors.{Descriptors}

-- those that are allowed and not open, but for four that are kept; the most there can be where it isn't known
abbrev pub room_of : Option Descriptors → ℕ
room_of None = 18446744073709551615
room_of (Some now) = now.allowed - now.open - 4
