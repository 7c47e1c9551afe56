-- What a line of a script says. Source: docs/PROTOCOL.md, 'Scripts'.
use Rattle.std.specs.Prelude.{ℕ, ◌-◌, ◌^◌, Bool, true, ◌==◌, bytes_eq, codes, if◌then◌else◌, List, [], ◌∷◌, Option, Some, None}
use Rattle.std.specs.Prelude.{option_map}
use Rattle.tc_item.specs.Bounds.{largest_item, moment_limit}
use Rattle.tc_users.specs.declared.users.UserSpec.{UserSpec}
use Rattle.tc_script.specs.declared.action.Action.{Action}
use Rattle.tc_script.specs.declared.action.Action.TheVariants.{Open, Piece, Fill, Act, Shut, Tick, Keep}
use Rattle.tc_script.specs.declared.line.Line.{Line}
use Rattle.tc_script.specs.declared.line.Line.TheVariants.{Blank, User, Second, Largest, Step}
use Rattle.tc_script.specs.Texts.{bind, first_field, short_number, word_number, count_of, hex_byte, some_bytes}

-- the most bytes of a fill
abbrev pub longest_fill : ℕ
longest_fill = 2097152

-- the most acts of one line
abbrev pub most_acts : ℕ
most_acts = 1000000

-- a line with nothing to do: it is empty, or begins with a number sign, byte 35
abbrev pub is_blank : List ℕ → Bool
is_blank [] = true
is_blank (b ∷ line) = b == 35

-- a user's row as a user line gives it
abbrev pub row_of : List ℕ → List ℕ → ℕ → UserSpec
row_of name token budget = record { name = name; token = token; second = None; budget = budget; largest = largest_item }

-- user <name> <token> <budget>
abbrev pub user_line : List ℕ → Option Line
user_line rest =
    bind (first_field rest) (λ a.
    bind (first_field a.1) (λ b.
    option_map (λ budget. User (row_of a.0 b.0 budget)) (short_number (2 ^ 64 - 1) b.1)))

-- second <u> <token>
abbrev pub second_line : List ℕ → Option Line
second_line rest = bind (first_field rest) (λ a. option_map (λ user. Second user a.1) (word_number a.0))

-- largest <u> <n>
abbrev pub largest_line : List ℕ → Option Line
largest_line rest =
    bind (first_field rest) (λ a.
    bind (word_number a.0) (λ user.
    option_map (λ most. Largest user most) (short_number (2 ^ 64 - 1) a.1)))

-- open <c>
abbrev pub open_line : List ℕ → Option Action
open_line rest = option_map Open (word_number rest)

-- piece <c> <text>
abbrev pub piece_line : List ℕ → Option Action
piece_line rest =
    bind (first_field rest) (λ a.
    bind (word_number a.0) (λ c.
    option_map (λ bytes. Piece c bytes) (some_bytes a.1)))

-- fill <c> <n> <hh>
abbrev pub fill_line : List ℕ → Option Action
fill_line rest =
    bind (first_field rest) (λ a.
    bind (first_field a.1) (λ b.
    bind (word_number a.0) (λ c.
    bind (count_of longest_fill b.0) (λ count.
    option_map (λ byte. Fill c count byte) (hex_byte b.1)))))

-- act <c>
abbrev pub act_once : List ℕ → Option Action
act_once rest = option_map (λ c. Act c 1) (word_number rest)

-- act <c> <n>
abbrev pub act_often : List ℕ × List ℕ → Option Action
act_often a = bind (word_number a.0) (λ c. option_map (λ count. Act c count) (count_of most_acts a.1))

-- either of the two
abbrev pub act_by : List ℕ → Option (List ℕ × List ℕ) → Option Action
act_by rest None = act_once rest
act_by rest (Some a) = act_often a

-- act <c> [n]
abbrev pub act_line : List ℕ → Option Action
act_line rest = act_by rest (first_field rest)

-- shut <c>
abbrev pub shut_line : List ℕ → Option Action
shut_line rest = option_map Shut (word_number rest)

-- tick <m>
abbrev pub tick_line : List ℕ → Option Action
tick_line rest = option_map Tick (short_number (moment_limit - 1) rest)

-- keep <u> <limit>
abbrev pub keep_line : List ℕ → Option Action
keep_line rest =
    bind (first_field rest) (λ a.
    bind (word_number a.0) (λ user.
    option_map (λ limit. Keep user limit) (word_number a.1)))

-- what a step's line says, by its word
abbrev pub action_by : List ℕ → List ℕ → Option Action
action_by word rest =
    if bytes_eq word (codes "open") then open_line rest
    else if bytes_eq word (codes "piece") then piece_line rest
    else if bytes_eq word (codes "fill") then fill_line rest
    else if bytes_eq word (codes "act") then act_line rest
    else if bytes_eq word (codes "shut") then shut_line rest
    else if bytes_eq word (codes "tick") then tick_line rest
    else if bytes_eq word (codes "keep") then keep_line rest
    else None

-- a step's line, by its word
abbrev pub step_line : List ℕ → List ℕ → Option Line
step_line word rest = option_map Step (action_by word rest)

-- what a line says, by its word
abbrev pub line_by : List ℕ → List ℕ → Option Line
line_by word rest =
    if bytes_eq word (codes "user") then user_line rest
    else if bytes_eq word (codes "second") then second_line rest
    else if bytes_eq word (codes "largest") then largest_line rest
    else step_line word rest

-- what a line says; a line that says nothing of these is refused
abbrev pub line_of : List ℕ → Option Line
line_of line = if is_blank line then Some Blank else bind (first_field line) (λ a. line_by a.0 a.1)
