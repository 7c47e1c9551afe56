-- The three areas of W-TinyLFU (the TinyLFU paper; Caffeine's design notes): a
-- window, and main, which is probation and protected.
-- They are lists, front to back, of anything that has a weight and a frequency: entries, or slots.
use Rattle.std.specs.Prelude.{ℕ, ◌+◌, ◌-◌, Bool, false, cond, not, ◌||◌, List, [], ◌∷◌, ◌++◌, length, take, reverse, filter}
use Rattle.std.specs.Prelude.{nat_lt, ◌==◌, sum_by}
use Rattle.std.specs.List.{list_all}

-- window, probation and protected, most recent first
pub record Areas (A : Type 0) : Type 0 where
  pub window : List A
  pub probation : List A
  pub protected : List A

-- the most that each area may weigh
pub record Limits : Type 0 where
  pub window : ℕ
  pub main : ℕ
  pub protected : ℕ

-- the areas, and what was dropped, in order
pub record Settled (A : Type 0) : Type 0 where
  pub areas : Areas A
  pub dropped : List A

-- the longest front that weighs at most this
abbrev pub fitting : {A : Type 0} → (A → ℕ) → ℕ → List A → List A
fitting weigh room [] = []
fitting weigh room (x ∷ xs) = cond (nat_lt room (weigh x)) [] (x ∷ fitting weigh (room - weigh x) xs)

-- what is behind the longest front that weighs at most this
abbrev pub beyond : {A : Type 0} → (A → ℕ) → ℕ → List A → List A
beyond weigh room [] = []
beyond weigh room (x ∷ xs) = cond (nat_lt room (weigh x)) (x ∷ xs) (beyond weigh (room - weigh x) xs)

-- the shortest front that weighs at least this
abbrev pub shortest : {A : Type 0} → (A → ℕ) → ℕ → List A → List A
shortest weigh need [] = []
shortest weigh need (x ∷ xs) = cond (need == 0) [] (x ∷ shortest weigh (need - weigh x) xs)

-- what main weighs
abbrev pub main_weight : {A : Type 0} → (A → ℕ) → Areas A → ℕ
main_weight weigh a = sum_by weigh a.probation + sum_by weigh a.protected

-- while protected weighs too much, its last goes to the front of probation
abbrev pub demoted : {A : Type 0} → (A → ℕ) → Limits → Areas A → Areas A
demoted weigh limits a = record {
  window = a.window;
  probation = beyond weigh limits.protected a.protected ++ a.probation;
  protected = fitting weigh limits.protected a.protected;
}

-- the last n of main go: of probation first
abbrev pub without_last : {A : Type 0} → ℕ → Areas A → Areas A
without_last n a = record {
  window = a.window;
  probation = take (length a.probation - n) a.probation;
  protected = take (length a.protected - (n - length a.probation)) a.protected;
}

-- main from its tail
abbrev pub from_tail : {A : Type 0} → Areas A → List A
from_tail a = reverse a.probation ++ reverse a.protected

-- while main weighs too much, its last is dropped
abbrev pub trimmed : {A : Type 0} → (A → ℕ) → Limits → Areas A → Settled A
trimmed weigh limits a =
    let gone = shortest weigh (main_weight weigh a - limits.main) (from_tail a) in
    record { areas = without_last (length gone) a; dropped = gone }

-- without these of main there is room for the candidate
abbrev pub victims : {A : Type 0} → (A → ℕ) → Limits → Areas A → A → List A
victims weigh limits a c = shortest weigh (main_weight weigh a + weigh c - limits.main) (from_tail a)

-- the candidate at the front of probation
abbrev pub entered : {A : Type 0} → A → Areas A → Areas A
entered c a = record { window = a.window; probation = c ∷ a.probation; protected = a.protected }

-- a candidate enters over victims that were all seen less often, and else is dropped. Over no victims it enters
abbrev pub admitted : {A : Type 0} → (A → ℕ) → A → Areas A → List A → Settled A
admitted freq c a vs = cond (list_all (λ v. nat_lt (freq v) (freq c)) vs)
    (record { areas = entered c (without_last (length vs) a); dropped = vs })
    (record { areas = a; dropped = c ∷ [] })

-- what was dropped before goes in front
abbrev pub and_then : {A : Type 0} → List A → Settled A → Settled A
and_then gone s = record { areas = s.areas; dropped = gone ++ s.dropped }

-- candidates, one after another
abbrev pub all_admitted : {A : Type 0} → (A → ℕ) → (A → ℕ) → Limits → Areas A → List A → Settled A
all_admitted weigh freq limits a [] = record { areas = a; dropped = [] }
all_admitted weigh freq limits a (c ∷ cs) =
    let s = admitted freq c a (victims weigh limits a c) in
    and_then s.dropped (all_admitted weigh freq limits s.areas cs)

-- the areas with this window
abbrev pub narrowed : {A : Type 0} → List A → Areas A → Areas A
narrowed window a = record { window = window; probation = a.probation; protected = a.protected }

-- while the window weighs too much, its last is a candidate
abbrev pub settle : {A : Type 0} → (A → ℕ) → (A → ℕ) → Limits → Areas A → Settled A
settle weigh freq limits a =
    let s = trimmed weigh limits (demoted weigh limits a) in
    let window = fitting weigh limits.window a.window in
    let candidates = reverse (beyond weigh limits.window a.window) in
    and_then s.dropped (all_admitted weigh freq limits (narrowed window s.areas) candidates)

-- some item of the list passes the test
abbrev pub is_in : {A : Type 0} → (A → Bool) → List A → Bool
is_in is [] = false
is_in is (x ∷ xs) = is x || is_in is xs

-- the items that do not pass the test
abbrev pub without : {A : Type 0} → (A → Bool) → List A → List A
without is xs = filter (λ x. not (is x)) xs

-- the item that passes the test is taken out, and x put at the front: of the window if it was there, else of protected
abbrev pub raised : {A : Type 0} → (A → Bool) → A → Areas A → Areas A
raised is x a = cond (is_in is a.window)
    (record { window = x ∷ without is a.window; probation = without is a.probation; protected = without is a.protected })
    (record { window = without is a.window; probation = without is a.probation; protected = x ∷ without is a.protected })

-- an access: the item goes to the front of its list, from probation to the front
-- of protected, and protected is then held to its limit
abbrev pub accessed : {A : Type 0} → (A → ℕ) → Limits → (A → Bool) → A → Areas A → Areas A
accessed weigh limits is x a = demoted weigh limits (raised is x a)

-- the sum of what a measure gives of all in the three lists
abbrev pub total : {A : Type 0} → (A → ℕ) → Areas A → ℕ
total f a = sum_by f a.window + main_weight f a
