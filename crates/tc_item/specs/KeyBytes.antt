-- Which bytes of a key are kept in place, and which are not. Source: this project's own.
use Rattle.std.specs.Prelude.{◌≡◌, ◌≤◌, ◌-◌, ⊤, List, ℕ, take, drop, replicate, IsTrue}
use Rattle.tc_item.specs.declared.key.KeyBytes.{KeyBytes}
use Rattle.tc_item.specs.declared.key.KeyBytes.TheVariants.{Hashed, Short, Long}
use Rattle.tc_item.specs.KeyHash.{hash}
use Rattle.tc_item.specs.KeyRule.{is_key}

-- the bytes: the first so many of those in place, or all of the others
abbrev pub bytes_held : KeyBytes → List ℕ
bytes_held (Hashed length place beside) = take length place
bytes_held (Short length place) = take length place
bytes_held (Long bytes) = bytes

-- no more are counted than there are places, and the places behind them are 0
abbrev pub IsFilled : ℕ → ℕ → List ℕ → Type 0
IsFilled places length place = (length ≤ places) × (drop length place ≡ replicate (places - length) 0)

-- so are the places of those in place, and the hash beside them is theirs
abbrev pub IsInPlace : KeyBytes → Type 0
IsInPlace (Hashed length place beside) = IsFilled 14 length place × (beside ≡ hash (take length place))
IsInPlace (Short length place) = IsFilled 22 length place
IsInPlace (Long bytes) = ⊤

-- a key's bytes
pub record IsKept (k : KeyBytes) : Type 0 where
  pub in_place : IsInPlace k
  pub good : IsTrue (is_key (bytes_held k))
