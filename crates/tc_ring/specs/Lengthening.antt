-- Lists that were made longer. Source: this project's own.
use Rattle.std.specs.Prelude.{ℕ, ◌-◌, List, ◌++◌, length, replicate}

-- a list with n places at least, where those that come are blank
abbrev pub lengthened : {T : Type 0} → ℕ → T → List T → List T
lengthened n blank xs = xs ++ replicate (n - length xs) blank
