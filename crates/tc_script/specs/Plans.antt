-- What a script asks for, line by line. Source: docs/PROTOCOL.md, 'Scripts'.
use Rattle.std.specs.Prelude.{ℕ, ◌+◌, Bool, true, false, ◌==◌, if◌then◌else◌, List, [], ◌∷◌, ◌++◌, Option, Some, None, is_some}
use Rattle.std.specs.Prelude.{pos}
use Rattle.std.specs.List.{list_any}
use Rattle.tc_model.specs.Connection.{user_at}
use Rattle.tc_users.specs.declared.settings_fault.SettingsFault.{SettingsFault}
use Rattle.tc_users.specs.declared.users.UserSpec.{UserSpec}
use Rattle.tc_users.specs.Faults.{first_fault, second_fault, largest_fault}
use Rattle.tc_users.specs.Changes.{with_second, with_largest}
use Rattle.tc_script.specs.declared.action.Action.{Action}
use Rattle.tc_script.specs.declared.line.Line.{Line}
use Rattle.tc_script.specs.declared.line.Line.TheVariants.{Blank, User, Second, Largest, Step}
use Rattle.tc_script.specs.Texts.{lines_of}
use Rattle.tc_script.specs.ScriptLines.{line_of}

-- what the lines so far ask for
pub record Plan : Type 0 where
  -- the users, in the order of their lines
  pub users : List UserSpec
  -- the users whose largest item a line has set
  pub sized : List ℕ
  -- what is done, in order
  pub actions : List Action

-- no line yet
abbrev pub no_plan : Plan
no_plan = record { users = []; sized = []; actions = [] }

-- a step has come, and no line of users may follow
abbrev pub has_begun : List Action → Bool
has_begun [] = false
has_begun (a ∷ actions) = true

-- a plan, unless there is a fault
abbrev pub unless_fault : Option SettingsFault → Plan → Option Plan
unless_fault None p = Some p
unless_fault (Some fault) p = None

-- a plan with one more user, where the table with the user has no fault
abbrev pub with_user_line : Plan → UserSpec → Option Plan
with_user_line p row = unless_fault (first_fault (p.users ++ row ∷ [])) (record p { users = p.users ++ row ∷ [] })

-- a plan with a second token for a user, where the user is there, has none, and the token is one
abbrev pub with_second_for : Plan → ℕ → List ℕ → Option UserSpec → Option Plan
with_second_for p user token None = None
with_second_for p user token (Some row) =
    if is_some row.second then None
    else unless_fault (second_fault user row.token (Some token)) (record p { users = with_second p.users user token })

-- the same, of the user with this number
abbrev pub with_second_line : Plan → ℕ → List ℕ → Option Plan
with_second_line p user token = with_second_for p user token (user_at p.users user)

-- a plan with a largest item for a user, where the user is there and has none, and the number is in its range
abbrev pub with_largest_for : Plan → ℕ → ℕ → Option UserSpec → Option Plan
with_largest_for p user most None = None
with_largest_for p user most (Some row) =
    if list_any (λ u. u == user) p.sized then None
    else unless_fault (largest_fault user (pos most))
    (record p { users = with_largest p.users user most; sized = p.sized ++ user ∷ [] })

-- the same, of the user with this number
abbrev pub with_largest_line : Plan → ℕ → ℕ → Option Plan
with_largest_line p user most = with_largest_for p user most (user_at p.users user)

-- a plan with one more line; None where the line is refused
abbrev pub with_line : Plan → Line → Option Plan
with_line p Blank = Some p
with_line p (User row) = if has_begun p.actions then None else with_user_line p row
with_line p (Second user token) = if has_begun p.actions then None else with_second_line p user token
with_line p (Largest user most) = if has_begun p.actions then None else with_largest_line p user most
with_line p (Step action) = Some (record p { actions = p.actions ++ action ∷ [] })

-- the same for a line that may say nothing
abbrev pub with_some_line : Plan → Option Line → Option Plan
with_some_line p None = None
with_some_line p (Some line) = with_line p line

-- a plan with one more line of text
abbrev pub with_text : Plan → List ℕ → Option Plan
with_text p line = with_some_line p (line_of line)

-- a whole script: its plan, or the number of its first refused line
pub data Reading : Type 0 where
  Good : Plan → Reading
  Bad : ℕ → Reading

-- what comes of a line: the script ends here where it is refused, and goes on else
abbrev pub reading_next : Option Plan → ℕ → (Plan → Reading) → Reading
reading_next None n next = Bad n
reading_next (Some p) n next = next p

-- the lines from this number on
unfoldable pub reading_from : Plan → ℕ → List (List ℕ) → Reading
reading_from p n [] = Good p
reading_from p n (line ∷ lines) = reading_next (with_text p line) n (λ q. reading_from q (n + 1) lines)

-- what a text says, as a script
abbrev pub reading_of : List ℕ → Reading
reading_of text = reading_from no_plan 1 (lines_of text)
