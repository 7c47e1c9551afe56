-- What a search among all items finds is what is held among the living ones.
use Rattle.std.specs.Prelude.{filter, option_map, find, ◌&&◌}
use Rattle.std.proofs.Common.{◌≡◌, ℕ, zero, suc, Bool, true, false, cond, List, [], ◌∷◌, get_or, Option, Some, None, refl, arith}
use Rattle.tc_model.specs.Place.{first_place}
use Rattle.tc_plain.specs.declared.shared.entry.Entry.{Entry}
use Rattle.tc_plain.specs.Entries.{lives, has_key}

-- an entry is alive and under this key
abbrev pub is_found : ℕ → List ℕ → Entry → Bool
is_found moment key e = lives moment e && has_key key e

found_first : (a b : Bool) (o : Option ℕ) (e : Entry) (rest : List Entry) (key : List ℕ) (es : List Entry) (d : Entry)
    → ((i : ℕ) → o ≡ Some i → find (has_key key) rest ≡ Some (get_or es i d)) → (i : ℕ) → has_key key e ≡ b
    → cond (a && b) (Some zero) (option_map suc o) ≡ Some i
    → find (has_key key) (cond a (e ∷ rest) rest) ≡ Some (get_or (e ∷ es) i d)
found_first true true o e rest key es d later zero k f = rw k
found_first true true o e rest key es d later (suc i) k f = grind arith
found_first true false None e rest key es d later i k f = grind arith
found_first true false (Some n) e rest key es d later zero k f = grind arith
found_first true false (Some n) e rest key es d later (suc i) k f = rw k (later i (grind arith))
found_first false b None e rest key es d later i k f = grind arith
found_first false b (Some n) e rest key es d later zero k f = grind arith
found_first false b (Some n) e rest key es d later (suc i) k f = later i (grind arith)

-- a place found is where the key's living entry stands
pub find-found : (moment : ℕ) (key : List ℕ) (es : List Entry) (d : Entry) (i : ℕ) → first_place (is_found moment key) es ≡ Some i
    → find (has_key key) (filter (lives moment) es) ≡ Some (get_or es i d)
find-found moment key [] d i f = grind arith
find-found moment key (e ∷ es) d i f =
    found_first (lives moment e) (has_key key e) (first_place (is_found moment key) es) e (filter (lives moment) es) key es d
    (find-found moment key es d) i refl f

missed_first : (a b : Bool) (o : Option ℕ) (e : Entry) (rest : List Entry) (key : List ℕ)
    → (o ≡ None → find (has_key key) rest ≡ None) → has_key key e ≡ b
    → cond (a && b) (Some zero) (option_map suc o) ≡ None → find (has_key key) (cond a (e ∷ rest) rest) ≡ None
missed_first true true o e rest key later k f = grind arith
missed_first true false None e rest key later k f = rw k (later refl)
missed_first true false (Some n) e rest key later k f = grind arith
missed_first false b None e rest key later k f = later refl
missed_first false b (Some n) e rest key later k f = grind arith

-- where no place is found, no living entry is under the key
pub find-missed : (moment : ℕ) (key : List ℕ) (es : List Entry) → first_place (is_found moment key) es ≡ None
    → find (has_key key) (filter (lives moment) es) ≡ None
find-missed moment key [] f = refl
find-missed moment key (e ∷ es) f =
    missed_first (lives moment e) (has_key key e) (first_place (is_found moment key) es) e (filter (lives moment) es) key
    (find-missed moment key es) refl f
