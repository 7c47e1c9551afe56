-- What a feed keeps of the bytes that it looked through. Source: this project's own.
use Rattle.std.specs.Prelude.{◌≡◌, ℕ, ◌+◌, ◌≤◌, ◌<◌, ◌⊎◌, List, ◌++◌, length, take, drop, slice_index, None}
use Rattle.tc_feed.specs.Stream.{line_length, longest_line, first}

-- of the bytes from start on, the first scanned hold no line feed; where some are owed, none is unread
pub record IsScanned (start scanned owed : ℕ) (bytes : List ℕ) : Type 0 where
  pub within : start + scanned ≤ length bytes
  pub short : scanned ≤ longest_line + 1
  pub none : line_length (take scanned (drop start bytes)) ≡ None
  pub nothing : 0 < owed → start ≡ length bytes

-- with fewer bytes than are needed, no whole request begins the unread ones, whatever comes after them
pub record IsAwaited (limit needed : ℕ) (unread : List ℕ) : Type 0 where
  pub lacking : (later : List ℕ) → length (unread ++ later) < needed → first limit (unread ++ later) ≡ None
  pub bounded : needed ≤ limit + (longest_line + 3)

-- what is remembered of a look that found no whole request: that no byte is a line feed and one more is
-- needed; or where the first line ends
abbrev pub IsRemembered : ℕ → ℕ → List ℕ → Type 0
IsRemembered needed scanned unread =
    (needed ≡ scanned + 1) ⊎ ((0 < needed) × (scanned < length unread) × (slice_index unread scanned ≡ 10))
