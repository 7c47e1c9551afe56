-- Numbers of connections, and steps of theirs. Source: this project's own.
use Rattle.std.specs.Prelude.{◌≡◌, ◌⊎◌, ℕ, List, [], ◌∷◌}
use Rattle.tc_model.specs.Server.{Step, On, Tick, Maintain}

-- this is one of these numbers
abbrev pub IsAmong : ℕ → List ℕ → Type 0
IsAmong c [] = ⊥
IsAmong c (d ∷ ds) = (d ≡ c) ⊎ IsAmong c ds

-- no number stands twice
abbrev pub AreDistinct : List ℕ → Type 0
AreDistinct [] = Unit {0}
AreDistinct (c ∷ cs) = (IsAmong c cs → ⊥) × AreDistinct cs

-- each step is one of these connections, or of the clock
abbrev pub AreOf : List ℕ → List Step → Type 0
AreOf cs [] = Unit {0}
AreOf cs (On c x ∷ xs) = IsAmong c cs × AreOf cs xs
AreOf cs (Tick moment ∷ xs) = AreOf cs xs
AreOf cs (Maintain user limit ∷ xs) = ⊥
