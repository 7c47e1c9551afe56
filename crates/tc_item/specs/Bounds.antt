-- The numbers that several crates keep to. Source: docs/OPERATING.md, 'Settings'; for keys and exptimes memcached's
-- doc/protocol.txt, 'Commands' and 'Expiration times'; an item's record and the moments are this project's own.
use Rattle.std.specs.Prelude.{ℕ, ◌^◌}

-- the fewest bytes of a budget
abbrev pub smallest_budget : ℕ
smallest_budget = 65536

-- the most bytes of a budget: 2^30
abbrev pub largest_budget : ℕ
largest_budget = 1073741824

-- the most bytes of an item's data
abbrev pub largest_item : ℕ
largest_item = 1048576

-- what an item weighs beyond its key and its data: its record
abbrev pub record_weight : ℕ
record_weight = 64

-- the most bytes of a key
abbrev pub longest_key : ℕ
longest_key = 250

-- the longest exptime that counts from now: thirty days, in seconds
abbrev pub longest_offset : ℕ
longest_offset = 2592000

-- the first second that is no moment
abbrev pub moment_limit : ℕ
moment_limit = 2 ^ 40
