-- What is promised of a server over any protocol and any lawful cache.
use Rattle.std.specs.Prelude.{◌≡◌, ℕ, ◌<◌, true, false, List, [], ◌∷◌, map, filter, Some}
use Rattle.tc_model.specs.Caching.{Replays}
use Rattle.tc_model.specs.Connection.{user_at}
use Rattle.tc_model.specs.Server.{Machine, Step, On, Tick, Maintain, run, solo, sent, binds, kept_steps, is_of}

-- each user's connections are sent what the machine of that user alone sends on those connections' steps and the clock's
abbrev pub IsIsolated : Machine → Type 0
IsIsolated M =
    (rows : List M.protocol.Row) (xs : List Step) (user : ℕ) (row : M.protocol.Row) → user_at rows user ≡ Some row
    → (c : ℕ) → binds M.protocol rows xs user c ≡ true
    → sent M (run M rows xs) c ≡ sent M (solo M row (kept_steps M.protocol rows xs user)) c

-- a connection that is bound to nobody is sent what its own steps alone have it sent
abbrev pub IsUntouched : Machine → Type 0
IsUntouched M =
    (rows : List M.protocol.Row) (xs : List Step) (c : ℕ) → ((user : ℕ) → binds M.protocol rows xs user c ≡ false)
    → sent M (run M rows xs) c ≡ sent M (run M rows (filter (is_of c) xs)) c

-- users with one row, and the same steps, are sent the same, whoever else there is
abbrev pub IsIndifferent : Machine → Type 0
IsIndifferent M =
    (rows others : List M.protocol.Row) (xs ys : List Step) (user other : ℕ) (row : M.protocol.Row)
    → user_at rows user ≡ Some row → user_at others other ≡ Some row
    → kept_steps M.protocol rows xs user ≡ kept_steps M.protocol others ys other
    → (c : ℕ) → binds M.protocol rows xs user c ≡ true → binds M.protocol others ys other c ≡ true
    → sent M (run M rows xs) c ≡ sent M (run M others ys) c

-- no step is maintenance
abbrev pub IsUnmaintained : List Step → Type 0
IsUnmaintained [] = Unit {0}
IsUnmaintained (On c x ∷ xs) = IsUnmaintained xs
IsUnmaintained (Tick m ∷ xs) = IsUnmaintained xs
IsUnmaintained (Maintain user limit ∷ xs) = ⊥

-- the history of a user's machine is one fold of that user's cache from the fresh one, at moments that never fall
abbrev pub IsReplayed : Machine → Type 0
IsReplayed M =
    (row : M.protocol.Row) (xs : List Step) → IsUnmaintained xs → Replays M.cache 0 (M.fresh row) (solo M row xs).history

-- the numbers rise, and are above this one
abbrev pub RisesFrom : ℕ → List ℕ → Type 0
RisesFrom n [] = Unit {0}
RisesFrom n (m ∷ ms) = (n < m) × RisesFrom m ms

-- the numbers rise
abbrev pub IsRising : List ℕ → Type 0
IsRising [] = Unit {0}
IsRising (n ∷ ns) = RisesFrom n ns

-- what connections were sent stands by rising number
abbrev pub IsOrdered : Machine → Type 0
IsOrdered M = (rows : List M.protocol.Row) (xs : List Step) → IsRising (map (λ e. e.0) (run M rows xs).world.connections)
