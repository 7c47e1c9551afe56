-- The numbers of the settings. Source: docs/OPERATING.md, 'Settings'.
use Rattle.std.specs.Prelude.{ℕ}

-- the most threads that serve connections
abbrev pub most_workers : ℕ
most_workers = 64

-- the fewest entries of a journal's page
abbrev pub smallest_page : ℕ
smallest_page = 16

-- the most entries of a journal's page
abbrev pub largest_page : ℕ
largest_page = 65536

-- the most seconds of a limit
abbrev pub most_seconds : ℕ
most_seconds = 86400

-- the most connections of a limit
abbrev pub most_connections : ℕ
most_connections = 1024

-- the entries of a journal's page where the settings say nothing
abbrev pub default_page : ℕ
default_page = 65536
