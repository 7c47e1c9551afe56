-- A server of many users' caches, and what each connection is sent, over any cache and any protocol.
use Rattle.std.specs.Prelude.{ℕ, max, Bool, true, false, cond, ◌||◌, List, [], ◌∷◌, ◌++◌, map, filter, Option, Some, None, ◌==◌}
use Rattle.std.specs.Prelude.{option_map, nat_lt}
use Rattle.tc_model.specs.Caching.{Caching, Event}
use Rattle.tc_model.specs.Connection.{Protocol, Phase, Unbound, Bound, Closed, Endpoint, Happening, Open, Piece, Act, Shut}
use Rattle.tc_model.specs.Connection.{user_at, with_user, Want, Nothing, Said, Call, Close, Turn, turn, with_piece, new_endpoint}
use Rattle.tc_model.specs.Connection.{shut_endpoint, endpoint_after, is_closed}

-- a protocol and a cache that speak of the same commands and outcomes
pub record Machine : Type 1 where
  pub Command : Type 0
  pub Outcome : Type 0
  pub protocol : Protocol Command Outcome
  pub cache : Caching Command Outcome
  -- the cache that a user begins with
  pub fresh : protocol.Row → cache.State

-- a connection: what it is by its own steps, and all bytes that it was sent
pub record Connection (M : Machine) : Type 0 where
  pub endpoint : Endpoint M.protocol
  pub out : List ℕ

-- a step of a connection, of the clock, or of a user's maintenance
pub data Step : Type 0 where
  On : (connection : ℕ) → Happening → Step
  Tick : (moment : ℕ) → Step
  Maintain : (user limit : ℕ) → Step

-- the whole server's state: connections stand by rising number
pub record World (M : Machine) : Type 0 where
  pub clock : ℕ
  pub caches : List M.cache.State
  pub connections : List (ℕ × Connection M)

-- what stands under a number
abbrev pub numbered : {A : Type 0} → ℕ → List (ℕ × A) → Option A
numbered c [] = None
numbered c (e ∷ es) = cond (e.0 == c) (Some e.1) (numbered c es)

-- the list with this under the number, at its place in the order
abbrev pub with_numbered : {A : Type 0} → ℕ → A → List (ℕ × A) → List (ℕ × A)
with_numbered c x [] = (c, x) ∷ []
with_numbered c x (e ∷ es) = cond (e.0 == c) ((c, x) ∷ es) (cond (nat_lt c e.0) ((c, x) ∷ e ∷ es) (e ∷ with_numbered c x es))

-- the same, where there is something to put
abbrev pub with_some : {A : Type 0} → ℕ → Option A → List (ℕ × A) → List (ℕ × A)
with_some c None es = es
with_some c (Some x) es = with_numbered c x es

-- what one connection's step leaves: the caches, that connection, and the call that it made, if it made one
pub record Effect (M : Machine) : Type 0 where
  pub caches : List M.cache.State
  pub connection : Option (Connection M)
  pub calls : List (Event M.Command M.Outcome)

-- no call: the caches as they are, and this connection, if there is one
abbrev pub quiet_effect : (M : Machine) → List M.cache.State → Option (Connection M) → Effect M
quiet_effect M caches q = record { caches = caches; connection = q; calls = [] }

-- no call, and a connection with these bytes
abbrev pub said_effect : (M : Machine) → List M.cache.State → Endpoint M.protocol → List ℕ → Effect M
said_effect M caches e out = quiet_effect M caches (Some (record { endpoint = e; out = out }))

-- a call: the user's cache after it, the reply to what it came to, written behind these bytes, and the call itself
abbrev pub answer_effect :
    (M : Machine) → List M.cache.State → ℕ → Event M.Command M.Outcome → Endpoint M.protocol → List ℕ → M.cache.State → Effect M
answer_effect M caches user call e out k = record {
  caches = with_user caches user k;
  connection = Some (record { endpoint = e; out = out ++ M.protocol.render call.command call.outcome });
  calls = call ∷ [];
}

-- a call at this moment, by what it came to
abbrev pub called : (M : Machine) → ℕ → M.Command → M.Outcome → Event M.Command M.Outcome
called M clock command outcome = record { moment = clock; command = command; outcome = outcome }

-- a call of a user's cache at the clock; nothing where there is no such user
abbrev pub call_effect :
    (M : Machine) → ℕ → List M.cache.State → ℕ → M.Command → Endpoint M.protocol → List ℕ → Option M.cache.State → Effect M
call_effect M clock caches user command e out None = said_effect M caches e out
call_effect M clock caches user command e out (Some k) =
    answer_effect M caches user (called M clock command (M.cache.act k clock command).0) e out (M.cache.act k clock command).1

-- what a request wants, done
abbrev pub want_effect : (M : Machine) → ℕ → List M.cache.State → List ℕ → Endpoint M.protocol → List ℕ → Want M.Command
    → Effect M
want_effect M clock caches out e said Nothing = said_effect M caches e (out ++ said)
want_effect M clock caches out e said Said = said_effect M caches e (out ++ said)
want_effect M clock caches out e said (Call user command) =
    call_effect M clock caches user command e (out ++ said) (user_at caches user)
want_effect M clock caches out e said Close = said_effect M caches e (out ++ said)

-- a request, done
abbrev pub turn_effect : (M : Machine) → ℕ → List M.cache.State → List ℕ → Turn M.protocol → Effect M
turn_effect M clock caches out t = want_effect M clock caches out t.endpoint t.said t.want

-- a connection's step; nothing where there is no such connection, but for opening it
abbrev pub effect : (M : Machine) → List M.protocol.Row → ℕ → List M.cache.State → Happening → Option (Connection M) → Effect M
effect M rows clock caches Open None = said_effect M caches (new_endpoint M.protocol) []
effect M rows clock caches Open (Some q) = quiet_effect M caches (Some q)
effect M rows clock caches (Piece bytes) None = quiet_effect M caches None
effect M rows clock caches (Piece bytes) (Some q) = said_effect M caches (with_piece M.protocol q.endpoint bytes) q.out
effect M rows clock caches Act None = quiet_effect M caches None
effect M rows clock caches Act (Some q) = turn_effect M clock caches q.out (turn M.protocol rows q.endpoint)
effect M rows clock caches Shut None = quiet_effect M caches None
effect M rows clock caches Shut (Some q) = said_effect M caches (shut_endpoint M.protocol q.endpoint) q.out

-- a user's cache advanced to the clock
abbrev pub maintained : (M : Machine) → ℕ → List M.cache.State → ℕ → Option M.cache.State → List M.cache.State
maintained M clock caches user None = caches
maintained M clock caches user (Some k) = with_user caches user (M.cache.advance k clock)

-- the state with what one connection's step leaves
abbrev pub world_with : (M : Machine) → ℕ → List (ℕ × Connection M) → ℕ → Effect M → World M
world_with M clock connections c d = record {
  clock = clock;
  caches = d.caches;
  connections = with_some c d.connection connections;
}

-- one step: a connection's, the clock's, which never goes back, or maintenance
abbrev pub step : (M : Machine) → List M.protocol.Row → World M → Step → World M
step M rows w (On c x) = world_with M w.clock w.connections c (effect M rows w.clock w.caches x (numbered c w.connections))
step M rows w (Tick m) = record w { clock = max w.clock m }
step M rows w (Maintain user limit) = record w { caches = maintained M w.clock w.caches user (user_at w.caches user) }

-- the calls that a step makes: a connection's makes one at most, and no other makes any
abbrev pub calls_of : (M : Machine) → List M.protocol.Row → World M → Step → List (Event M.Command M.Outcome)
calls_of M rows w (On c x) = (effect M rows w.clock w.caches x (numbered c w.connections)).calls
calls_of M rows w (Tick m) = []
calls_of M rows w (Maintain user limit) = []

-- what steps come to: the state that they lead to, and the calls that they made on the way, in order
pub record Course (M : Machine) : Type 0 where
  pub world : World M
  pub history : List (Event M.Command M.Outcome)

-- a course with these calls before its own
abbrev pub behind_calls : {M : Machine} → List (Event M.Command M.Outcome) → Course M → Course M
behind_calls calls r = record { world = r.world; history = calls ++ r.history }

-- steps, one after another
abbrev pub course_from : (M : Machine) → List M.protocol.Row → World M → List Step → Course M
course_from M rows w [] = record { world = w; history = [] }
course_from M rows w (x ∷ xs) = behind_calls (calls_of M rows w x) (course_from M rows (step M rows w x) xs)

-- the state that steps lead to
abbrev pub steps_from : (M : Machine) → List M.protocol.Row → World M → List Step → World M
steps_from M rows w xs = (course_from M rows w xs).world

-- a fresh cache for each row, no connection, and the clock at 0
abbrev pub first_world : (M : Machine) → List M.protocol.Row → World M
first_world M rows = record { clock = 0; caches = map M.fresh rows; connections = [] }

-- all steps, from the beginning
abbrev pub run : (M : Machine) → List M.protocol.Row → List Step → Course M
run M rows xs = course_from M rows (first_world M rows) xs

-- the machine with the one row alone
abbrev pub solo : (M : Machine) → M.protocol.Row → List Step → Course M
solo M row xs = run M (row ∷ []) xs

-- whether a connection is closed and what it was sent, if it was opened
abbrev pub sent : (M : Machine) → Course M → ℕ → Option (Bool × List ℕ)
sent M r c = option_map (λ q. (is_closed q.endpoint.phase, q.out)) (numbered c r.world.connections)

-- bound to this user now
abbrev pub is_bound_to : ℕ → Phase → Bool
is_bound_to user Closed = false
is_bound_to user Unbound = false
is_bound_to user (Bound other) = other == user

-- there, and bound to this user now
abbrev pub is_users : {C O : Type 0} (P : Protocol C O) → ℕ → Option (Endpoint P) → Bool
is_users P user None = false
is_users P user (Some e) = is_bound_to user e.phase

-- what a connection is after any step, of which its own alone count
abbrev pub endpoint_after_step :
    {C O : Type 0} (P : Protocol C O) → List P.Row → ℕ → Option (Endpoint P) → Step → Option (Endpoint P)
endpoint_after_step P rows c e (On d x) = cond (d == c) (endpoint_after P rows x e) e
endpoint_after_step P rows c e (Tick m) = e
endpoint_after_step P rows c e (Maintain user limit) = e

-- the connection's own steps at some point bind it to this user
abbrev pub binds_from : {C O : Type 0} (P : Protocol C O) → List P.Row → ℕ → ℕ → Option (Endpoint P) → List Step → Bool
binds_from P rows user c e [] = is_users P user e
binds_from P rows user c e (x ∷ xs) = is_users P user e || binds_from P rows user c (endpoint_after_step P rows c e x) xs

-- the connection is this user's: its own steps at some point bind it
abbrev pub binds : {C O : Type 0} (P : Protocol C O) → List P.Row → List Step → ℕ → ℕ → Bool
binds P rows xs user c = binds_from P rows user c None xs

-- a step of one of these connections, or of the clock
abbrev pub is_kept : (ℕ → Bool) → Step → Bool
is_kept mine (On c x) = mine c
is_kept mine (Tick m) = true
is_kept mine (Maintain user limit) = false

-- the steps that concern a user: those of its connections and of the clock
abbrev pub kept_steps : {C O : Type 0} (P : Protocol C O) → List P.Row → List Step → ℕ → List Step
kept_steps P rows xs user = filter (is_kept (binds P rows xs user)) xs

-- a step of this connection
abbrev pub is_of : ℕ → Step → Bool
is_of c (On d x) = d == c
is_of c (Tick m) = false
is_of c (Maintain user limit) = false
