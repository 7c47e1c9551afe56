-- The number of a connection's latest entry, as its calls are entered.
use Rattle.std.proofs.Common.{◌≡◌, List, [], ◌∷◌, ◌++◌, ℕ, Option, Some, None, refl, sym, subst}
use Rattle.std.specs.Prelude.{IsSome}
use Rattle.tc_locked.specs.declared.view.Note.{Note}
use Rattle.tc_links.specs.Talks.{number_after, last_after}

-- the latest entry after two lists in a row
pub last_after-append : (last : Option ℕ) (xs ys : List Note) → last_after last (xs ++ ys) ≡ last_after (last_after last xs) ys
last_after-append last [] ys = refl
last_after-append last (x ∷ xs) ys = last_after-append (number_after last x.entry.number) xs ys

pub rose-same : {a b : Option ℕ} → b ≡ a → IsSome a → IsSome b
rose-same same rose = subst (λ (o : Option ℕ). IsSome o) (sym same) rose

-- a connection for which no call was made yet
pub rose-first : {a : Option ℕ} → a ≡ Some 0 → IsSome a
rose-first same = rose-same same refl

-- where the numbers don't rise any more, they don't later
pub fell : (ns : List Note) → IsSome (last_after None ns) → ⊥
fell [] rose = absurd cc
fell (n ∷ ns) rose = fell ns rose

pub rose-before : (last : Option ℕ) (ns : List Note) → IsSome (last_after last ns) → IsSome last
rose-before None ns rose = absurd (fell ns rose)
rose-before (Some n) ns rose = refl
