-- Moments. Source: this project's own.
use Rattle.std.specs.Prelude.{ℕ, ◌<◌}
use Rattle.tc_item.specs.Bounds.{moment_limit}

-- the clock's word is a moment
abbrev pub IsMoment : ℕ → Type 0
IsMoment m = m < moment_limit
