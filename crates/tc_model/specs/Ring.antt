-- Nodes by number in one ring, each linked to the one before and the one after it: a doubly linked list by index.
use Rattle.std.specs.Prelude.{◌≡◌, ◌≢◌, ℕ, zero, suc, ◌<◌, List, [], ◌∷◌, length, slice_index, slice_set}

-- from a through xs to b, each is linked to the one behind it, in both directions
abbrev pub Linked : List ℕ → List ℕ → ℕ → List ℕ → ℕ → Type 0
Linked next prev a [] b = (slice_index next a ≡ b) × (slice_index prev b ≡ a)
Linked next prev a (x ∷ xs) b = (slice_index next a ≡ x) × (slice_index prev x ≡ a) × Linked next prev x xs b

-- x is none of these
abbrev pub IsAway : ℕ → List ℕ → Type 0
IsAway x [] = Unit {0}
IsAway x (y ∷ ys) = (x ≢ y) × IsAway x ys

-- no number stands here twice
abbrev pub AreDistinct : List ℕ → Type 0
AreDistinct [] = Unit {0}
AreDistinct (x ∷ xs) = IsAway x xs × AreDistinct xs

-- each is below n
abbrev pub AreBelow : ℕ → List ℕ → Type 0
AreBelow n [] = Unit {0}
AreBelow n (x ∷ xs) = (x < n) × AreBelow n xs

-- a ring of x and then xs, of places that both lists have
pub record IsRing (next prev : List ℕ) (x : ℕ) (xs : List ℕ) : Type 0 where
  pub linked : Linked next prev x xs x
  pub distinct : AreDistinct (x ∷ xs)
  pub below : AreBelow (length next) (x ∷ xs)
  pub long : length prev ≡ length next

-- the n nodes behind a
abbrev pub walk : ℕ → List ℕ → ℕ → List ℕ
walk zero next a = []
walk (suc n) next a = slice_index next a ∷ walk n next (slice_index next a)

-- a node and its neighbours have places
pub record HasPlace (next prev : List ℕ) (n : ℕ) : Type 0 where
  pub own : n < length next
  pub behind : slice_index next n < length next
  pub before : slice_index prev n < length next

-- the links forward once a node is put in behind another
abbrev pub put_next : List ℕ → ℕ → ℕ → List ℕ
put_next next before at = slice_set (slice_set next before at) at (slice_index next before)

-- the links back once a node is put in behind another
abbrev pub put_prev : List ℕ → List ℕ → ℕ → ℕ → List ℕ
put_prev next prev before at = slice_set (slice_set prev at before) (slice_index next before) at

-- the links forward once a node is taken out
abbrev pub cut_next : List ℕ → List ℕ → ℕ → List ℕ
cut_next next prev at = slice_set next (slice_index prev at) (slice_index next at)

-- the links back once a node is taken out
abbrev pub cut_prev : List ℕ → List ℕ → ℕ → List ℕ
cut_prev next prev at = slice_set prev (slice_index next at) (slice_index prev at)
