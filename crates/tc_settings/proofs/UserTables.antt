-- Users' tables without a fault hold good rows, and a loop over the tables finds their first fault.
use Rattle.std.specs.Prelude.{nat_abs, not, nat_le, ◌&&◌, ◌==◌, ◌^◌, if◌then◌else◌, is_some}
use Rattle.std.specs.List.{list_all}
use Rattle.std.specs.Option.{option_or}
use Rattle.std.proofs.Common.{◌≡◌, ℕ, ℤ, pos, negsuc, ◌+◌, ◌<◌, Bool, List, [], ◌∷◌, ◌++◌, length, map, get_or, drop, Option}
use Rattle.std.proofs.Common.{Some, None, refl, sym, ◌∙◌, ap, arith, append_assoc, inl, inr}
use Rattle.std.proofs.lemmas.List.{drop_more, length-map}
use Rattle.toml.specs.Data.{Data, string, integer, float, boolean, datetime, array, table, Items, no_members, as_array, as_table}
use Rattle.toml.specs.Errors.{IsBlank}
use Rattle.toml.specs.Parse.{parse_document, lines}
use Rattle.toml.specs.View.{view, items_view}
use Rattle.toml.specs.declared.value.Value.{Value}
use Rattle.tc_item.specs.Bounds.{smallest_budget, largest_budget, largest_item}
use Rattle.tc_users.specs.declared.settings_fault.SettingsFault.{SettingsFault}
use Rattle.tc_users.specs.declared.settings_fault.Field.TheVariants.{Users, Name, Token, Budget, SecondToken, Largest}
use Rattle.tc_users.specs.declared.settings_fault.Found.TheVariants.{Array}
use Rattle.tc_users.specs.declared.settings_fault.SettingsFault.TheVariants.{Missing, BudgetRange, NoUser, NoMemory, LargestRange}
use Rattle.tc_users.specs.declared.settings_fault.SettingsFault.TheVariants.{TooManyUsers}
use Rattle.tc_users.specs.declared.users.UserSpec.{UserSpec}
use Rattle.tc_users.specs.Faults.{first_of, range_fault, second_fault, largest_fault, same_name_fault, user_fault}
use Rattle.tc_settings.specs.Fields.{field_in, number_in, missing_text_in, missing_number_in, if_there, list_of}
use Rattle.tc_settings.specs.SettingsTable.{row_in, second_in, largest_in, name_fault_in, token_fault_in, budget_fault_in}
use Rattle.tc_settings.specs.SettingsTable.{second_fault_in, largest_fault_in, user_fault_at, user_fault_in, users_fault_after}
use Rattle.tc_settings.specs.SettingsTable.{tables_fault, user_field_fault, users_in, fields_fault, settings_fault, IsFaultOfTable}
use Rattle.tc_users.proofs.FirstFault.{option_or-none}

-- a name that another user has is the first fault where nothing else is wrong
pub user_fault_at-same_name : (n : ℕ) (before : List UserSpec) (user : Data) (fault : SettingsFault)
    → name_fault_in n user ≡ None → token_fault_in n user ≡ None → budget_fault_in n user ≡ None → second_fault_in n user ≡ None
    → largest_fault_in n user ≡ None
    → same_name_fault before (row_in user).name ≡ Some fault → user_fault_at n before user ≡ Some fault
user_fault_at-same_name n before user fault name token budget second largest e = rw (name, token, budget, second, largest, e)

-- a number in a range of numbers from 0 is one from 0
range_fault-nat_abs : (low high : ℕ) (fault : ℤ → SettingsFault) (z : ℤ) → range_fault low high fault z ≡ None
    → range_fault low high fault (pos (nat_abs z)) ≡ None
range_fault-nat_abs low high fault (pos n) e = e
range_fault-nat_abs low high fault (negsuc n) e = absurd (grind arith)

second_fault-none : (n : ℕ) (token : List ℕ) (missing : Option SettingsFault) (second : Option Data)
    → if_there second (option_or missing (second_fault n token (second_in second))) ≡ None
    → second_fault n token (second_in second) ≡ None
second_fault-none n token missing None e = refl
second_fault-none n token missing (Some d) e = (option_or-none _ _ e).1

largest_fault-none : (n : ℕ) (missing : Option SettingsFault) (largest : Option Data)
    → if_there largest (option_or missing (largest_fault n (number_in largest))) ≡ None
    → largest_fault n (pos (nat_abs (largest_in largest))) ≡ None
largest_fault-none n missing None e = refl
largest_fault-none n missing (Some d) e =
    range_fault-nat_abs 1 largest_item (LargestRange n) (number_in (Some d)) (option_or-none _ _ e).1

-- where none of six is there, their first is not
first_of_six-none : (a b c d e f : Option SettingsFault) → a ≡ None → b ≡ None → c ≡ None → d ≡ None → e ≡ None → f ≡ None
    → option_or (first_of (a ∷ b ∷ c ∷ d ∷ e ∷ [])) f ≡ None
first_of_six-none a b c d e f p q r s t u = rw (p, q, r, s, t, u)

-- a user's table without a fault holds a good row
pub user_fault-row_in : (before : List UserSpec) (user : Data) → user_fault_in before user ≡ None
    → user_fault before (row_in user) ≡ None
user_fault-row_in before user e =
    let n = length before + 1 in
    let a = option_or-none (name_fault_in n user) _ e in
    let b = option_or-none (token_fault_in n user) _ a.1 in
    let f = option_or-none (budget_fault_in n user) _ b.1 in
    let g = option_or-none (second_fault_in n user) _ f.1 in
    let h = option_or-none (largest_fault_in n user) _ g.1 in
    let own = option_or-none (same_name_fault before (row_in user).name) _ h.1 in
    let budget = option_or-none (missing_number_in (Budget n) user) _ f.0 in
    first_of_six-none _ _ _ _ _ _
    (option_or-none (missing_text_in (Name n) user) _ a.0).1
    (option_or-none (missing_text_in (Token n) user) _ b.0).1
    (range_fault-nat_abs smallest_budget largest_budget (BudgetRange n) (number_in (field_in (Budget n) user)) budget.1)
    (second_fault-none n (row_in user).token (missing_text_in (SecondToken n) user) (field_in (SecondToken n) user) g.0)
    (largest_fault-none n (missing_number_in (Largest n) user) (field_in (Largest n) user) h.0)
    own.0

-- the tables from one on, seen as data
pub map-view-drop : (tables : List Value) (i : ℕ) (v : Value) → i < length tables → v ≡ get_or tables i v
    → map view (drop i tables) ≡ view v ∷ map view (drop (i + 1) tables)
map-view-drop tables i v h e = rw (drop_more tables i v h, ← e)

-- a loop that goes past a user without a fault
pub users_fault_after-past : (before : List UserSpec) (user : Data) (users more : List Data) → more ≡ user ∷ users
    → user_fault_in before user ≡ None
    → users_fault_after before more ≡ users_fault_after (before ++ row_in user ∷ []) users
users_fault_after-past before user users more e good =
    rw e (ap (λ o. option_or o (users_fault_after (before ++ row_in user ∷ []) users)) good)

-- and has its row
pub rows-past : (before : List UserSpec) (user : Data) (users more : List Data) → more ≡ user ∷ users
    → before ++ map row_in more ≡ (before ++ row_in user ∷ []) ++ map row_in users
rows-past before user users more e = rw e (sym (append_assoc before (row_in user ∷ []) (map row_in users)))

-- an array of values, seen as data
pub list_of-items_view : (values : List Value) → list_of (items_view values) ≡ map view values
list_of-items_view [] = refl
list_of-items_view (v ∷ values) = ap (λ ds. view v ∷ ds) (list_of-items_view values)

-- what is seen as an array is one
array-from_as_array : (d : Data) (items : Items) → as_array d ≡ Some items → d ≡ array items
array-from_as_array (string text) items e = cc
array-from_as_array (integer z) items e = cc
array-from_as_array (float x) items e = cc
array-from_as_array (boolean b) items e = cc
array-from_as_array (datetime moment) items e = cc
array-from_as_array (array ds) items e = cc
array-from_as_array (table fields) items e = cc

-- a field that holds an array of these values
pub user_field_fault-array : (field : Option Data) (d : Data) (values : List Value) → Some d ≡ field
    → Some (items_view values) ≡ as_array d
    → user_field_fault field ≡ tables_fault (map view values)
user_field_fault-array field d values e there =
    rw (← e, array-from_as_array d _ (sym there)) (ap tables_fault (list_of-items_view values))

pub users_in-array : (field : Option Data) (d : Data) (values : List Value) → Some d ≡ field
    → Some (items_view values) ≡ as_array d → map view values ≡ users_in field
users_in-array field d values e there = rw (← e, array-from_as_array d _ (sym there)) (sym (list_of-items_view values))

-- a test of the data that the values are
pub list_all-view : (p : Data → Bool) (values : List Value) → list_all p (map view values) ≡ list_all (λ v. p (view v)) values
list_all-view p [] = refl
list_all-view p (v ∷ values) = ap (λ b. p (view v) && b) (list_all-view p values)

-- the fault of the values' data, by the values
pub tables_fault-view : (values : List Value) → tables_fault (map view values) ≡
    (if length values == 0 then Some NoUser
    else if not (list_all (λ v. is_some (as_table (view v))) values) then Some (Missing Users Array)
    else if nat_le (2 ^ 32) (length values) then Some (TooManyUsers (length values))
    else None)
tables_fault-view values = simp (length-map, list_all-view (λ d. is_some (as_table d)) values)

-- a text of white space and comments is an empty table
pub parse_document-blank : (text : List ℕ) → IsBlank text → parse_document text ≡ Some no_members
unfolding parse_document lines
parse_document-blank text e = rw e

-- memory is not wanted for an empty table
pub empty_table-not_refused : (d : Data) → d ≡ table no_members → IsFaultOfTable d NoMemory → ⊥
empty_table-not_refused d e (inl first) = let h : settings_fault (table no_members) ≡ Some NoMemory = rw e at first in cc
empty_table-not_refused d e (inr refused) = let h : fields_fault (table no_members) ≡ None = rw e at refused.1 in cc
