-- What the parts of a due that is kept stand for. Source: this project's own.
use Rattle.std.specs.Prelude.{ℕ, ◌+◌, ◌*◌, ◌^◌, Bool, true, false}
use Rattle.tc_item.specs.declared.moment.Due.{Due}
use Rattle.tc_item.specs.declared.moment.Due.TheVariants.{Never, At}

-- the second whose high and low words these are, if there is one
abbrev pub due_kept : Bool → ℕ → ℕ → Due
due_kept false high low = Never
due_kept true high low = At (high * 2 ^ 32 + low)
