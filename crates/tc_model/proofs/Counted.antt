-- Distinct numbers below n are n at most, so a ring has no more nodes than there are places.
use Rattle.std.specs.Prelude.{not, ◌==◌}
use Rattle.std.proofs.Common.{◌≡◌, ◌≢◌, ℕ, zero, suc, ◌+◌, ◌<◌, ◌≤◌, Bool, true, false, cond, List, [], ◌∷◌, length, refl, ap}
use Rattle.std.proofs.Common.{subst, arith}
use Rattle.std.proofs.lemmas.Bool.{eqb-true, eqb-false}
use Rattle.tc_model.specs.Ring.{IsAway, AreDistinct, AreBelow, IsRing}
use Rattle.tc_model.specs.Chains.{without_node}
use Rattle.tc_model.proofs.Chained.{without-away}

without_below : (n : ℕ) (xs : List ℕ) → AreBelow (suc n) xs → AreBelow n (without_node n xs)
without_below n [] h = tt
without_below n (x ∷ xs) h = go (x == n) refl (without_below n xs h.1)
  where
    go : (b : Bool) → (x == n) ≡ b → AreBelow n (without_node n xs)
        → AreBelow n (cond (not b) (x ∷ without_node n xs) (without_node n xs))
    go true e k = k
    go false e k = let ne : x ≢ n = eqb-false x n e in (omega (arith, h.0), k)

-- what is away from a list is away from what is left of it
pub away_without : (n y : ℕ) (xs : List ℕ) → IsAway y xs → IsAway y (without_node n xs)
away_without n y [] h = tt
away_without n y (x ∷ xs) h = go (x == n) (away_without n y xs h.1)
  where
    go : (b : Bool) → IsAway y (without_node n xs) → IsAway y (cond (not b) (x ∷ without_node n xs) (without_node n xs))
    go true k = k
    go false k = (h.0, k)

distinct_without : (n : ℕ) (xs : List ℕ) → AreDistinct xs → AreDistinct (without_node n xs)
distinct_without n [] h = tt
distinct_without n (x ∷ xs) h = go (x == n) (distinct_without n xs h.1)
  where
    go : (b : Bool) → AreDistinct (without_node n xs) → AreDistinct (cond (not b) (x ∷ without_node n xs) (without_node n xs))
    go true k = k
    go false k = (away_without n x xs h.0, k)

length-without : (n : ℕ) (xs : List ℕ) → AreDistinct xs → length xs ≤ length (without_node n xs) + 1
length-without n [] h = omega arith
length-without n (x ∷ xs) h = go (x == n) refl (length-without n xs h.1)
  where
    go : (b : Bool) → (x == n) ≡ b → length xs ≤ length (without_node n xs) + 1
        → length (x ∷ xs) ≤ length (cond (not b) (x ∷ without_node n xs) (without_node n xs)) + 1
    go true e k =
        let same : x ≡ n = eqb-true x n e in omega (arith, ap length (without-away n xs (subst (λ z. IsAway z xs) same h.0)))
    go false e k = omega arith

pub distinct_below : (n : ℕ) (xs : List ℕ) → AreBelow n xs → AreDistinct xs → length xs ≤ n
distinct_below zero [] b d = omega arith
distinct_below zero (x ∷ xs) b d = absurd (omega (arith, b.0))
distinct_below (suc n) xs b d =
    omega (arith, length-without n xs d, distinct_below n (without_node n xs) (without_below n xs b) (distinct_without n xs d))

pub ring_length : (next prev : List ℕ) (x : ℕ) (xs : List ℕ) → IsRing next prev x xs → length xs < length next
ring_length next prev x xs ring = omega (arith, distinct_below (length next) (x ∷ xs) ring.below ring.distinct)
