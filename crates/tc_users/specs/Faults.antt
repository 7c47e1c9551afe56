-- Which users' rows are good, and the first fault where one is not. Source: docs/OPERATING.md,
-- 'Settings', whose table gives the ranges and the order of the checks.
use Rattle.std.specs.Prelude.{ℕ, ◌+◌, ◌^◌, ◌≤◌, ℤ, pos, int_le, Bool, ◌&&◌, ◌||◌, not, nat_lt, nat_le, ◌==◌, if◌then◌else◌, List, ◌⊎◌, ◌≡◌}
use Rattle.std.specs.Prelude.{[], ◌∷◌, ◌++◌, length, slice_index, position, Option, Some, None, option_map}
use Rattle.std.specs.Option.{option_or}
use Rattle.std.specs.Char.{is_ascii_alphanumeric}
use Rattle.std.specs.Str.{bytes_eq}
use Rattle.tc_item.specs.Bounds.{smallest_budget, largest_budget, largest_item}
use Rattle.tc_users.specs.Bounds.{longest_name, longest_token}
use Rattle.tc_users.specs.Fields.{limit_number}
use Rattle.tc_users.specs.declared.settings_fault.Field.{Field}
use Rattle.tc_users.specs.declared.settings_fault.Field.TheVariants.{Token, SecondToken}
use Rattle.tc_users.specs.declared.settings_fault.TextFault.{TextFault}
use Rattle.tc_users.specs.declared.settings_fault.TextFault.TheVariants.{Empty, TooLong, BadByte}
use Rattle.tc_users.specs.declared.settings_fault.SettingsFault.{SettingsFault}
use Rattle.tc_users.specs.declared.settings_fault.SettingsFault.TheVariants.{NotToml, Missing, BadName, SameName, BudgetRange}
use Rattle.tc_users.specs.declared.settings_fault.SettingsFault.TheVariants.{NoUser, WorkersRange, JournalRange, NoMemory}
use Rattle.tc_users.specs.declared.settings_fault.SettingsFault.TheVariants.{BadToken, LargestRange, SameToken, TooManyUsers}
use Rattle.tc_users.specs.declared.settings_fault.SettingsFault.TheVariants.{LimitRange}
use Rattle.tc_users.specs.declared.users.UserSpec.{UserSpec}

-- the number of a fault
abbrev pub fault_number : SettingsFault → ℕ
fault_number (NotToml error) = 1
fault_number (Missing field found) = 2
fault_number (BadName user fault) = 3
fault_number (SameName user first) = 4
fault_number (BudgetRange user found) = 5
fault_number NoUser = 6
fault_number (WorkersRange found) = 7
fault_number (JournalRange found) = 8
fault_number NoMemory = 9
fault_number (BadToken field fault) = 10
fault_number (LargestRange user found) = 11
fault_number (SameToken user) = 12
fault_number (TooManyUsers found) = 13
fault_number (LimitRange limit found) = limit_number limit

-- the first of these that is there
abbrev pub first_of : {A : Type 0} → List (Option A) → Option A
first_of [] = None
first_of (o ∷ os) = option_or o (first_of os)

-- a byte of a name: a letter, a digit, `_`, `-` or `.`
abbrev pub is_name_byte : ℕ → Bool
is_name_byte b = is_ascii_alphanumeric b || b == 95 || b == 45 || b == 46

-- a byte of a token: 33 to 126
abbrev pub is_token_byte : ℕ → Bool
is_token_byte b = nat_le 33 b && nat_le b 126

-- why bytes are no 1 to `most` good ones, whose first bad one is here: there are none, too many, or the bad one
abbrev pub text_fault : ℕ → Option ℕ → List ℕ → Option TextFault
text_fault most bad bytes =
    if length bytes == 0 then Some Empty
    else if nat_lt most (length bytes) then Some (TooLong (length bytes))
    else option_map (λ place. BadByte place (slice_index bytes place)) bad

-- a name is bytes of a name, and not too many
abbrev pub name_fault : ℕ → List ℕ → Option SettingsFault
name_fault user name = option_map (BadName user) (text_fault longest_name (position (λ b. not (is_name_byte b)) name) name)

-- a token is bytes of a token, and not too many
abbrev pub token_fault : Field → List ℕ → Option SettingsFault
token_fault field token =
    option_map (BadToken field) (text_fault longest_token (position (λ b. not (is_token_byte b)) token) token)

-- a whole number of this range
abbrev pub range_fault : ℕ → ℕ → (ℤ → SettingsFault) → ℤ → Option SettingsFault
range_fault low high fault found = if int_le (pos low) found && int_le found (pos high) then None else Some (fault found)

-- a budget is in its range
abbrev pub budget_fault : ℕ → ℤ → Option SettingsFault
budget_fault user found = range_fault smallest_budget largest_budget (BudgetRange user) found

-- a second token is another token
abbrev pub other_token_fault : ℕ → List ℕ → List ℕ → Option SettingsFault
other_token_fault user token second = if bytes_eq second token then Some (SameToken user) else None

-- a second token, where there is one, is a token, and another one
abbrev pub second_fault : ℕ → List ℕ → Option (List ℕ) → Option SettingsFault
second_fault user token None = None
second_fault user token (Some second) =
    first_of (token_fault (SecondToken user) second ∷ other_token_fault user token second ∷ [])

-- a largest item is 1 byte or more, in its range
abbrev pub largest_fault : ℕ → ℤ → Option SettingsFault
largest_fault user found = range_fault 1 largest_item (LargestRange user) found

-- no user before has the name
abbrev pub same_name_fault : List UserSpec → List ℕ → Option SettingsFault
same_name_fault before name =
    option_map (λ place. SameName (length before + 1) (place + 1)) (position (λ other. bytes_eq other.name name) before)

-- the first fault of a user's row by itself, in the order of its fields
abbrev pub row_fault : ℕ → UserSpec → Option SettingsFault
row_fault user row =
    first_of (name_fault user row.name
    ∷ token_fault (Token user) row.token
    ∷ budget_fault user (pos row.budget)
    ∷ second_fault user row.token row.second
    ∷ largest_fault user (pos row.largest)
    ∷ [])

-- the first fault of the row that comes after these
abbrev pub user_fault : List UserSpec → UserSpec → Option SettingsFault
user_fault before row = option_or (row_fault (length before + 1) row) (same_name_fault before row.name)

-- the first fault of the rows after these, user by user
abbrev pub fault_after : List UserSpec → List UserSpec → Option SettingsFault
fault_after before [] = None
fault_after before (row ∷ rows) = option_or (user_fault before row) (fault_after (before ++ row ∷ []) rows)

-- the first fault of a users' table; users are numbered by 32 bits
abbrev pub first_fault : List UserSpec → Option SettingsFault
first_fault rows = if nat_le (2 ^ 32) (length rows) then Some (TooManyUsers (length rows)) else fault_after [] rows

-- what a caller may rely on of a good row
abbrev pub IsSoundRow : UserSpec → Type 0
IsSoundRow row =
    (smallest_budget ≤ row.budget) × (row.budget ≤ largest_budget) × (1 ≤ row.largest) × (row.largest ≤ largest_item)

-- it is the first fault, or memory was refused
abbrev pub IsFirstOrRefused : Option SettingsFault → SettingsFault → Type 0
IsFirstOrRefused first fault = (first ≡ Some fault) ⊎ (fault ≡ NoMemory)
