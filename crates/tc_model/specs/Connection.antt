-- A connection by its own bytes and the users' table, as memcached's doc/protocol.txt has it with token authentication:
-- it is unbound until a login binds it to a user for good. No cache and no other connection has a part in it.
use Rattle.std.specs.Prelude.{ℕ, zero, suc, Bool, true, false, cond, List, [], ◌∷◌, Option, Some, None, option_map, slice_get}
use Rattle.std.specs.Prelude.{slice_set}

-- what an unbound connection's next request asks for, with the bytes that answer it
pub data Asks : Type 0 where
  -- no whole request is there
  Idle : Asks
  -- an answer that needs no cache
  Tell : List ℕ → Asks
  -- a login by this data, with what is said where it is granted and where it is denied
  Login : (text granted denied : List ℕ) → Asks
  -- last words, and no more
  Leave : List ℕ → Asks

-- what a bound connection's next request asks for
pub data Wants (Command : Type 0) : Type 0 where
  -- no whole request is there
  Rest : Wants Command
  -- an answer that needs no cache
  Reply : List ℕ → Wants Command
  -- a command for the user's cache
  Run : Command → Wants Command
  -- last words, and no more
  Quit : List ℕ → Wants Command

-- how requests are read and answered, whatever the users' rows, the commands and the outcomes are
pub record Protocol (Command Outcome : Type 0) : Type 1 where
  pub Row : Type 0
  pub Reader : Type 0
  pub start : Reader
  -- the reader with more bytes
  pub more : Reader → List ℕ → Reader
  -- the next request, and the reader behind it
  pub unbound : Reader → Asks × Reader
  pub bound : Reader → Wants Command × Reader
  -- the data of a login is this row's
  pub opens : Row → List ℕ → Bool
  -- the reply to a command of this outcome
  pub render : Command → Outcome → List ℕ

-- whose a connection is
pub data Phase : Type 0 where
  Unbound : Phase
  Bound : (user : ℕ) → Phase
  Closed : Phase

-- what a connection is by its own steps and the users' table
pub record Endpoint {Command Outcome : Type 0} (P : Protocol Command Outcome) : Type 0 where
  pub phase : Phase
  pub reader : P.Reader

-- what may come to a connection
pub data Happening : Type 0 where
  Open : Happening
  Piece : (bytes : List ℕ) → Happening
  Act : Happening
  Shut : Happening

-- the entry of a user; users are numbered from 1
abbrev pub user_at : {A : Type 0} → List A → ℕ → Option A
user_at xs zero = None
user_at xs (suc i) = slice_get xs i

-- the list with this entry for the user
abbrev pub with_user : {A : Type 0} → List A → ℕ → A → List A
with_user xs zero x = xs
with_user xs (suc i) x = slice_set xs i x

-- the place of the first row that the data opens
abbrev pub first_row : {C O : Type 0} (P : Protocol C O) → List P.Row → List ℕ → Option ℕ
first_row P [] text = None
first_row P (row ∷ rows) text = cond (P.opens row text) (Some zero) (option_map suc (first_row P rows text))

-- the number of the user whom the data logs in
abbrev pub login : {C O : Type 0} (P : Protocol C O) → List P.Row → List ℕ → Option ℕ
login P rows text = option_map suc (first_row P rows text)

-- what is done for one request of a connection: nothing, something said, a call of a user's cache, or its end
pub data Want (Command : Type 0) : Type 0 where
  Nothing : Want Command
  Said : Want Command
  Call : (user : ℕ) → Command → Want Command
  Close : Want Command

-- one request of a connection: what it wants, what is said to it, and what the connection is after it
pub record Turn {Command Outcome : Type 0} (P : Protocol Command Outcome) : Type 0 where
  pub want : Want Command
  pub said : List ℕ
  pub endpoint : Endpoint P

-- the turn of a login, by the user found
abbrev pub login_turn : {C O : Type 0} (P : Protocol C O) → P.Reader → (granted denied : List ℕ) → Option ℕ → Turn P
login_turn P r granted denied None = record { want = Said; said = denied; endpoint = record { phase = Unbound; reader = r } }
login_turn P r granted denied (Some user) = record {
  want = Said;
  said = granted;
  endpoint = record { phase = Bound user; reader = r };
}

-- the turn of an unbound connection, by what it asks
abbrev pub unbound_turn : {C O : Type 0} (P : Protocol C O) → List P.Row → P.Reader → Asks → Turn P
unbound_turn P rows r Idle = record { want = Nothing; said = []; endpoint = record { phase = Unbound; reader = r } }
unbound_turn P rows r (Tell text) = record { want = Said; said = text; endpoint = record { phase = Unbound; reader = r } }
unbound_turn P rows r (Login text granted denied) = login_turn P r granted denied (login P rows text)
unbound_turn P rows r (Leave text) = record { want = Close; said = text; endpoint = record { phase = Closed; reader = r } }

-- the turn of a user's connection, by what it wants
abbrev pub bound_turn : {C O : Type 0} (P : Protocol C O) → ℕ → P.Reader → Wants C → Turn P
bound_turn P user r Rest = record { want = Nothing; said = []; endpoint = record { phase = Bound user; reader = r } }
bound_turn P user r (Reply text) = record { want = Said; said = text; endpoint = record { phase = Bound user; reader = r } }
bound_turn P user r (Run command) = record {
  want = Call user command;
  said = [];
  endpoint = record { phase = Bound user; reader = r };
}
bound_turn P user r (Quit text) = record { want = Close; said = text; endpoint = record { phase = Closed; reader = r } }

-- the turn of a connection, by its phase
abbrev pub turn_at : {C O : Type 0} (P : Protocol C O) → List P.Row → P.Reader → Phase → Turn P
turn_at P rows r Closed = record { want = Nothing; said = []; endpoint = record { phase = Closed; reader = r } }
turn_at P rows r Unbound = unbound_turn P rows (P.unbound r).1 (P.unbound r).0
turn_at P rows r (Bound user) = bound_turn P user (P.bound r).1 (P.bound r).0

-- the next request of a connection
abbrev pub turn : {C O : Type 0} (P : Protocol C O) → List P.Row → Endpoint P → Turn P
turn P rows e = turn_at P rows e.reader e.phase

-- bytes that come on a connection of this phase; a closed one takes none
abbrev pub pushed_at : {C O : Type 0} (P : Protocol C O) → P.Reader → List ℕ → Phase → Endpoint P
pushed_at P r bytes Closed = record { phase = Closed; reader = r }
pushed_at P r bytes Unbound = record { phase = Unbound; reader = P.more r bytes }
pushed_at P r bytes (Bound user) = record { phase = Bound user; reader = P.more r bytes }

-- a connection with bytes that came on it
abbrev pub with_piece : {C O : Type 0} (P : Protocol C O) → Endpoint P → List ℕ → Endpoint P
with_piece P e bytes = pushed_at P e.reader bytes e.phase

-- a connection as it is opened
abbrev pub new_endpoint : {C O : Type 0} (P : Protocol C O) → Endpoint P
new_endpoint P = record { phase = Unbound; reader = P.start }

-- a connection as it is shut
abbrev pub shut_endpoint : {C O : Type 0} (P : Protocol C O) → Endpoint P → Endpoint P
shut_endpoint P e = record { phase = Closed; reader = e.reader }

-- what a connection is after its own step, which knows the users' table and nothing of any cache
abbrev pub endpoint_after : {C O : Type 0} (P : Protocol C O) → List P.Row → Happening → Option (Endpoint P) → Option (Endpoint P)
endpoint_after P rows Open None = Some (new_endpoint P)
endpoint_after P rows Open (Some e) = Some e
endpoint_after P rows (Piece bytes) None = None
endpoint_after P rows (Piece bytes) (Some e) = Some (with_piece P e bytes)
endpoint_after P rows Act None = None
endpoint_after P rows Act (Some e) = Some (turn P rows e).endpoint
endpoint_after P rows Shut None = None
endpoint_after P rows Shut (Some e) = Some (shut_endpoint P e)

-- nothing more comes of it
abbrev pub is_closed : Phase → Bool
is_closed Closed = true
is_closed Unbound = false
is_closed (Bound user) = false
