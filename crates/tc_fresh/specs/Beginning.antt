-- The cache that a user begins with. Source: this project's own.
use Rattle.std.specs.Prelude.{◌≡◌, ℕ}
use Rattle.tc_users.specs.declared.users.UserSpec.{UserSpec}
use Rattle.tc_plain.specs.UserCache.{UserCache, fresh}

-- the cache that a user begins with
abbrev pub fresh_cache : UserSpec → UserCache
fresh_cache row = fresh row.budget row.largest

-- a cache that is empty, whatever its budget and its largest item
abbrev pub IsEmptyCache : UserCache → Type 0
IsEmptyCache k = (budget : ℕ) × (largest : ℕ) × (k ≡ fresh budget largest)
