-- A run with five evictions, by computation: items of weight 30,065 in a budget of 65,536, each seen as often as it was used.
use Rattle.std.specs.Prelude.{◌≡◌, ℕ, ◌+◌, Bool, cond, List, [], ◌∷◌, ◌++◌, length, ◌==◌, count_by}
use Rattle.std.proofs.Common.{refl}
use Rattle.tc_model.specs.Areas.{Areas, Limits, settle, accessed, is_in}

-- the areas of keys, every use so far, and how many keys were dropped
record Run : Type 0 where
  areas : Areas ℕ
  uses : List ℕ
  evictions : ℕ

-- of a budget of 65,536
abbrev limits : Limits
limits = record { window = 655; main = 64881; protected = 51904 }

abbrev weigh : ℕ → ℕ
weigh key = 30065

abbrev is_held : ℕ → Areas ℕ → Bool
is_held key a = is_in (λ k. k == key) (a.window ++ (a.probation ++ a.protected))

abbrev used : Run → ℕ → Run
used r key = record { areas = r.areas; uses = key ∷ r.uses; evictions = r.evictions }

abbrev settled : Run → Areas ℕ → Run
settled r a =
    let s = settle weigh (λ key. count_by (λ k. k == key) r.uses) limits a in
    record { areas = s.areas; uses = r.uses; evictions = r.evictions + length s.dropped }

-- a held key is accessed, a new one goes to the front of the window
abbrev placed : ℕ → Run → Run
placed key r = cond (is_held key r.areas)
    (settled r (accessed weigh limits (λ k. k == key) key r.areas))
    (settled r (record { window = key ∷ r.areas.window; probation = r.areas.probation; protected = r.areas.protected }))

abbrev set : Run → ℕ → Run
set r key = placed key (used r key)

abbrev touch : Run → ℕ → Run
touch r key = cond (is_held key r.areas) (placed key (used r key)) r

abbrev fresh : Run
fresh = record { areas = record { window = []; probation = []; protected = [] }; uses = []; evictions = 0 }

-- the keys a, b, c and d are 97 to 100
two_set : (set (set fresh 97) 98).areas ≡ record { window = []; probation = 98 ∷ 97 ∷ []; protected = [] }
two_set = refl

-- c, seen once as a was, is dropped
third_dropped : (set (set (set fresh 97) 98) 99).areas ≡ (set (set fresh 97) 98).areas
third_dropped = refl

-- seen twice, c enters over a, which was last
third_enters : (set (set (set (set fresh 97) 98) 99) 99).areas ≡ record { window = []; probation = 99 ∷ 98 ∷ []; protected = [] }
third_enters = refl

abbrev last_run : Run
last_run =
    let r = set (set (set (set fresh 97) 98) 99) 99 in let s = set (touch (touch (touch r 98) 98) 98) 97 in set (set s 100) 97

evictions_of_last : last_run.evictions ≡ 5
evictions_of_last = refl

areas_of_last : last_run.areas ≡ record { window = []; probation = 97 ∷ []; protected = 98 ∷ [] }
areas_of_last = refl
