-- The caches that a hall's books begin with.
use Rattle.std.specs.Prelude.{All, slice_get}
use Rattle.std.proofs.Common.{◌≡◌, ℕ, zero, suc, ◌+◌, ◌<◌, List, [], ◌∷◌, length, map, get_or, Some, sym, ap, ◌∙◌, subst, arith}
use Rattle.tc_model.specs.Connection.{user_at}
use Rattle.tc_plain.specs.UserCache.{UserCache}
use Rattle.tc_fresh.specs.Beginning.{IsEmptyCache}

slice_get-map : {X : Type 0} (f : X → UserCache) (xs : List X) (i : ℕ) (x : X) → i < length xs → x ≡ get_or xs i x
    → slice_get (map f xs) i ≡ Some (f x)
slice_get-map f [] i x lt is = absurd (omega arith)
slice_get-map f (y ∷ xs) zero x lt is = ap (λ z. Some (f z)) (sym is)
slice_get-map f (y ∷ xs) (suc i) x lt is = slice_get-map f xs i x (omega arith) is

-- the next cache is what the next user begins with
pub begins_next : {X : Type 0} (f : X → UserCache) (xs : List X) (begins : List UserCache) (i user : ℕ) (x : X)
    → map f xs ≡ begins → user ≡ i + 1 → (i < length xs) × (x ≡ get_or xs i x) → user_at begins user ≡ Some (f x)
begins_next f xs begins i user x same number at =
    let next : user ≡ suc i = omega arith in
    ap (λ (u : ℕ). user_at begins u) next ∙ ap (λ (l : List UserCache). slice_get l i) (sym same)
    ∙ slice_get-map f xs i x at.0 at.1

all_at : (P : UserCache → Type 0) (xs : List UserCache) (i : ℕ) (x : UserCache) → All P xs → slice_get xs i ≡ Some x → P x
all_at P [] i x h at = absurd (cc)
all_at P (y ∷ xs) zero x h at = let same : y ≡ x = cc in subst P same (h 0 y (omega arith))
all_at P (y ∷ xs) (suc i) x h at = all_at P xs i x (λ k d lt. h (suc k) d (omega arith)) at

pub begins_empty : (begins : List UserCache) (user : ℕ) (k : UserCache) → All IsEmptyCache begins → user_at begins user ≡ Some k
    → IsEmptyCache k
begins_empty begins zero k h at = absurd (cc)
begins_empty begins (suc i) k h at = all_at IsEmptyCache begins i k h at
