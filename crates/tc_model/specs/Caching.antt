-- What a cache is to a server: a state that comes to a moment, and does a command at one. And what a history of its calls is.
use Rattle.std.specs.Prelude.{◌≡◌, ℕ, ◌≤◌, List, [], ◌∷◌}

-- one user's cache, whatever its commands and its outcomes are
pub record Caching (Command Outcome : Type 0) : Type 1 where
  pub State : Type 0
  -- the state at this moment, or at its own where that is later
  pub advance : State → ℕ → State
  -- what a command at this moment comes to, and the state after it
  pub act : State → ℕ → Command → Outcome × State

-- what of a cache isolation rests on
pub record IsLawful {Command Outcome : Type 0} (K : Caching Command Outcome) : Type 0 where
  -- to advance twice is to advance to the later moment
  pub twice : (k : K.State) (m n : ℕ) → m ≤ n → K.advance (K.advance k m) n ≡ K.advance k n
  -- each command first advances the cache to its moment
  pub first : (k : K.State) (m : ℕ) (command : Command) → K.act k m command ≡ K.act (K.advance k m) m command

-- one call of a cache: when, what, and what it came to
pub record Event (Command Outcome : Type 0) : Type 0 where
  pub moment : ℕ
  pub command : Command
  pub outcome : Outcome

-- the state that the commands of a history leave, one after another
abbrev pub state_after : {Command Outcome : Type 0} (K : Caching Command Outcome) → K.State → List (Event Command Outcome)
    → K.State
state_after K k [] = k
state_after K k (e ∷ es) = state_after K (K.act k e.moment e.command).1 es

-- from this state the commands of a history give its outcomes, at moments that never fall and are not before this one
abbrev pub Replays : {Command Outcome : Type 0} (K : Caching Command Outcome) → ℕ → K.State → List (Event Command Outcome)
    → Type 0
Replays K from k [] = Unit {0}
Replays K from k (e ∷ es) =
    (from ≤ e.moment) × ((K.act k e.moment e.command).0 ≡ e.outcome) × Replays K e.moment (K.act k e.moment e.command).1 es
