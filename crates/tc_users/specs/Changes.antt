-- A users' table with one thing changed. Source: this project's own.
use Rattle.std.specs.Prelude.{ℕ, zero, suc, List, slice_set, Option, Some, None}
use Rattle.tc_model.specs.Connection.{user_at, with_user}
use Rattle.tc_users.specs.declared.settings_fault.SettingsFault.{SettingsFault}
use Rattle.tc_users.specs.declared.users.UserSpec.{UserSpec}
use Rattle.tc_users.specs.Faults.{second_fault}

-- a row with another second token
abbrev pub row_with_second : List ℕ → UserSpec → UserSpec
row_with_second second row = record row { second = Some second }

-- a row with another largest item
abbrev pub row_with_largest : ℕ → UserSpec → UserSpec
row_with_largest largest row = record row { largest = largest }

-- the table with a user's row changed, where there is such a user
abbrev pub with_row : (UserSpec → UserSpec) → List UserSpec → ℕ → Option UserSpec → List UserSpec
with_row change rows user None = rows
with_row change rows user (Some row) = with_user rows user (change row)

-- the table with another second token of a user
abbrev pub with_second : List UserSpec → ℕ → List ℕ → List UserSpec
with_second rows user second = with_row (row_with_second second) rows user (user_at rows user)

-- the table with another largest item of a user
abbrev pub with_largest : List UserSpec → ℕ → ℕ → List UserSpec
with_largest rows user largest = with_row (row_with_largest largest) rows user (user_at rows user)

-- why bytes are no second token of a row
abbrev pub second_fault_for : ℕ → List ℕ → Option UserSpec → Option SettingsFault
second_fault_for user second None = None
second_fault_for user second (Some row) = second_fault user row.token (Some second)

-- why bytes are no second token of a user
abbrev pub second_fault_of : List UserSpec → ℕ → List ℕ → Option SettingsFault
second_fault_of rows user second = second_fault_for user second (user_at rows user)
