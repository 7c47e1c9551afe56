-- What a settings table holds, and its first fault. Source: docs/OPERATING.md, 'Settings': the fields are looked at in
-- the order of its table, then user by user, each first for being there and then for its range, and last users' limits.
use Rattle.std.specs.Prelude.{◌≡◌, ℕ, ◌+◌, ◌^◌, ◌≤◌, ◌==◌, ◌⊎◌, ℤ, pos, nat_abs, not, nat_le, if◌then◌else◌, is_some, List, []}
use Rattle.std.specs.Prelude.{◌∷◌, ◌++◌, length, map, Option, Some, None, Result, Ok, Err}
use Rattle.std.specs.List.{list_all}
use Rattle.std.specs.Option.{option_or}
use Rattle.toml.specs.Data.{Data, array, table, as_table, Members}
use Rattle.tc_item.specs.Bounds.{largest_item}
use Rattle.tc_settings.specs.Bounds.{most_workers, smallest_page, largest_page, default_page}
use Rattle.tc_settings.specs.declared.settings.Settings.{Settings}
use Rattle.tc_users.specs.declared.settings_fault.Field.TheVariants.{Listen, Workers, Journal, Users, Name, Token, Budget}
use Rattle.tc_users.specs.declared.settings_fault.Field.TheVariants.{SecondToken, Largest, Metrics, MetricsListen}
use Rattle.tc_users.specs.declared.settings_fault.Found.TheVariants.{Array}
use Rattle.tc_users.specs.declared.settings_fault.SettingsFault.{SettingsFault}
use Rattle.tc_users.specs.declared.settings_fault.SettingsFault.TheVariants.{NotToml, Missing, NoUser, WorkersRange, JournalRange}
use Rattle.tc_users.specs.declared.settings_fault.SettingsFault.TheVariants.{NoMemory, TooManyUsers}
use Rattle.tc_users.specs.declared.users.UserSpec.{UserSpec}
use Rattle.tc_users.specs.Faults.{first_of, range_fault, name_fault, token_fault, budget_fault, second_fault, largest_fault}
use Rattle.tc_users.specs.Faults.{same_name_fault, IsFirstOrRefused}
use Rattle.tc_settings.specs.Fields.{field_in, found_in, text_in, number_in, missing_text_in, missing_number_in, if_there, list_of}
use Rattle.tc_settings.specs.LimitFields.{limits_in, limits_fault_in, user_limits_in, limits_fault_after}

-- a second token, where there is one
abbrev pub second_in : Option Data → Option (List ℕ)
second_in None = None
second_in (Some d) = Some (text_in (Some d))

-- the most data bytes of an item; the largest there is where nothing is said
abbrev pub largest_in : Option Data → ℤ
largest_in None = pos largest_item
largest_in (Some d) = number_in (Some d)

-- the row that a user's table holds
abbrev pub row_in : Data → UserSpec
row_in user = record {
  name = text_in (field_in (Name 0) user);
  token = text_in (field_in (Token 0) user);
  second = second_in (field_in (SecondToken 0) user);
  budget = nat_abs (number_in (field_in (Budget 0) user));
  largest = nat_abs (largest_in (field_in (Largest 0) user));
}

-- a user's name is there, and then good
abbrev pub name_fault_in : ℕ → Data → Option SettingsFault
name_fault_in n user = option_or (missing_text_in (Name n) user) (name_fault n (row_in user).name)

-- a user's token is there, and then good
abbrev pub token_fault_in : ℕ → Data → Option SettingsFault
token_fault_in n user = option_or (missing_text_in (Token n) user) (token_fault (Token n) (row_in user).token)

-- a user's budget is there, and then in its range
abbrev pub budget_fault_in : ℕ → Data → Option SettingsFault
budget_fault_in n user = option_or (missing_number_in (Budget n) user) (budget_fault n (number_in (field_in (Budget n) user)))

-- a second token may be left out; where it is there, it is a text, and then good
abbrev pub second_fault_in : ℕ → Data → Option SettingsFault
second_fault_in n user =
    if_there (field_in (SecondToken n) user)
    (option_or (missing_text_in (SecondToken n) user) (second_fault n (row_in user).token (row_in user).second))

-- a largest item may be left out; where it is there, it is a whole number, and then in its range
abbrev pub largest_fault_in : ℕ → Data → Option SettingsFault
largest_fault_in n user =
    if_there (field_in (Largest n) user)
    (option_or (missing_number_in (Largest n) user) (largest_fault n (number_in (field_in (Largest n) user))))

-- the first fault of the table of user n, field by field
abbrev pub user_fault_at : ℕ → List UserSpec → Data → Option SettingsFault
user_fault_at n before user =
    first_of (name_fault_in n user
    ∷ token_fault_in n user
    ∷ budget_fault_in n user
    ∷ second_fault_in n user
    ∷ largest_fault_in n user
    ∷ same_name_fault before (row_in user).name
    ∷ [])

-- the first fault of a user's table that comes after these rows
abbrev pub user_fault_in : List UserSpec → Data → Option SettingsFault
user_fault_in before user = user_fault_at (length before + 1) before user

-- the first fault of the users' tables after these rows, user by user
abbrev pub users_fault_after : List UserSpec → List Data → Option SettingsFault
users_fault_after before [] = None
users_fault_after before (user ∷ users) =
    option_or (user_fault_in before user) (users_fault_after (before ++ row_in user ∷ []) users)

-- at least one user is wanted, each a table, and fewer than 2^32
abbrev pub tables_fault : List Data → Option SettingsFault
tables_fault users =
    if length users == 0 then Some NoUser
    else if not (list_all (λ user. is_some (as_table user)) users) then Some (Missing Users Array)
    else if nat_le (2 ^ 32) (length users) then Some (TooManyUsers (length users))
    else None

-- an array of tables is wanted; where nothing is there, there is no user
abbrev pub user_field_fault : Option Data → Option SettingsFault
user_field_fault None = Some NoUser
user_field_fault (Some (array items)) = tables_fault (list_of items)
user_field_fault other = Some (Missing Users (found_in other))

-- the users' tables
abbrev pub users_in : Option Data → List Data
users_in (Some (array items)) = list_of items
users_in other = []

-- the users' tables of a settings table
abbrev pub tables_in : Data → List Data
tables_in d = users_in (field_in Users d)

-- what is wrong with the field that should hold them
abbrev pub tables_fault_in : Data → Option SettingsFault
tables_fault_in d = user_field_fault (field_in Users d)

-- the number of workers is there, and then in its range
abbrev pub workers_fault_in : Data → Option SettingsFault
workers_fault_in d =
    option_or (missing_number_in Workers d) (range_fault 1 most_workers WorkersRange (number_in (field_in Workers d)))

-- the entries of a journal's page; the default where nothing is said
abbrev pub journal_in : Option Data → ℤ
journal_in None = pos default_page
journal_in (Some d) = number_in (Some d)

-- the entries of a journal's page may be left out; where they are there, they are a whole number, and then in its range
abbrev pub journal_fault_in : Data → Option SettingsFault
journal_fault_in d =
    if_there (field_in Journal d)
    (option_or (missing_number_in Journal d)
    (range_fault smallest_page largest_page JournalRange (number_in (field_in Journal d))))

-- where the metrics are told; nowhere where nothing is said
abbrev pub metrics_said : Option Data → Option (List ℕ)
metrics_said None = None
metrics_said (Some metrics) = Some (text_in (field_in MetricsListen metrics))

-- the metrics may be left out; where they are there, they have a text
abbrev pub metrics_fault : Option Data → Option SettingsFault
metrics_fault None = None
metrics_fault (Some metrics) = missing_text_in MetricsListen metrics

-- what is wrong with them
abbrev pub metrics_fault_in : Data → Option SettingsFault
metrics_fault_in d = metrics_fault (field_in Metrics d)

-- the first fault of the table's own fields
abbrev pub fields_fault : Data → Option SettingsFault
fields_fault d =
    first_of (missing_text_in Listen d
    ∷ workers_fault_in d
    ∷ journal_fault_in d
    ∷ limits_fault_in d
    ∷ metrics_fault_in d
    ∷ tables_fault_in d
    ∷ [])

-- the first fault of the users' tables: of their rows, then of their limits
abbrev pub users_fault : List Data → Option SettingsFault
users_fault users = option_or (users_fault_after [] users) (limits_fault_after 0 users)

-- the first fault of a settings table: of its own fields, then of its users
abbrev pub settings_fault : Data → Option SettingsFault
settings_fault d = option_or (fields_fault d) (users_fault (tables_in d))

-- the settings that a table holds
abbrev pub settings_in : Data → Settings
settings_in d = record {
  listen = text_in (field_in Listen d);
  workers = nat_abs (number_in (field_in Workers d));
  journal = nat_abs (journal_in (field_in Journal d));
  limits = limits_in d;
  metrics = metrics_said (field_in Metrics d);
  users = map row_in (tables_in d);
  user_limits = map user_limits_in (tables_in d);
}

-- it is the first fault of the table, or memory was refused once the table's own fields were found good
abbrev pub IsFaultOfTable : Data → SettingsFault → Type 0
IsFaultOfTable d fault = (settings_fault d ≡ Some fault) ⊎ ((fault ≡ NoMemory) × (fields_fault d ≡ None))

-- the text is not TOML, or memory was refused
abbrev pub IsNotTomlOrRefused : SettingsFault → Type 0
IsNotTomlOrRefused (NotToml error) = Unit {0}
IsNotTomlOrRefused NoMemory = Unit {0}
IsNotTomlOrRefused fault = ⊥

-- what is answered to a text, by the fields that it has where it is TOML: its
-- settings where nothing is wrong, else the first fault
abbrev pub IsAnswer : Option Members → Result Settings SettingsFault → Type 0
IsAnswer None (Ok settings) = ⊥
IsAnswer None (Err fault) = IsNotTomlOrRefused fault
IsAnswer (Some fields) (Ok settings) = (settings_fault (table fields) ≡ None) × (settings ≡ settings_in (table fields))
IsAnswer (Some fields) (Err fault) = IsFirstOrRefused (settings_fault (table fields)) fault

-- what a caller may rely on of the numbers
abbrev pub AreSoundNumbers : Settings → Type 0
AreSoundNumbers settings =
    (1 ≤ settings.workers) × (settings.workers ≤ most_workers)
    × (smallest_page ≤ settings.journal) × (settings.journal ≤ largest_page)
