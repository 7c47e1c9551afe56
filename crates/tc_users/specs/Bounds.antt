-- How long names and tokens may be. Source: docs/OPERATING.md, 'Settings'.
use Rattle.std.specs.Prelude.{ℕ}

-- the most bytes of a name
abbrev pub longest_name : ℕ
longest_name = 64

-- the most bytes of a token
abbrev pub longest_token : ℕ
longest_token = 128
