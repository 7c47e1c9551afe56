-- Who a login's data is. Source: memcached's doc/protocol.txt, "Authentication"; names and second tokens are this project's own.
use Rattle.std.specs.Prelude.{ℕ, false, Bool, ◌||◌, List, ◌∷◌, ◌++◌, Option, Some, None}
use Rattle.std.specs.Str.{bytes_eq}
use Rattle.tc_users.specs.declared.users.UserSpec.{UserSpec}

-- the data of a login: a name, one space and a token
abbrev pub login_data : List ℕ → List ℕ → List ℕ
login_data name token = name ++ 32 ∷ token

-- the data is the name, one space and the second token, where there is one
abbrev pub opens_second : List ℕ → Option (List ℕ) → List ℕ → Bool
opens_second name None text = false
opens_second name (Some token) text = bytes_eq text (login_data name token)

-- the data of a login is this user's: the name, one space and either token, and nothing else
abbrev pub opens : UserSpec → List ℕ → Bool
opens row text = bytes_eq text (login_data row.name row.token) || opens_second row.name row.second text
