-- What settle comes to (the TinyLFU paper; Caffeine's design notes): each area within its limit.
use Rattle.std.specs.Prelude.{◌≡◌, ℕ, ◌≤◌, Bool, [], ◌++◌, Some, All, find, sum_by}
use Rattle.tc_model.specs.Areas.{Areas, Limits, main_weight, settle, accessed}

-- no area weighs more than its limit
pub record IsWithin {A : Type 0} (weigh : A → ℕ) (limits : Limits) (a : Areas A) : Type 0 where
  pub window : sum_by weigh a.window ≤ limits.window
  pub main : main_weight weigh a ≤ limits.main
  pub protected : sum_by weigh a.protected ≤ limits.protected

-- settle brings each area within its limit, where no candidate is heavier than main may be
abbrev pub SettlesWithin : Type 1
SettlesWithin =
    (A : Type 0) (weigh freq : A → ℕ) (limits : Limits) (a : Areas A)
    → All (λ x. weigh x ≤ limits.main) a.window → IsWithin weigh limits (settle weigh freq limits a).areas

-- within their limits, areas stay as they are and nothing is dropped
abbrev pub SettlesOnce : Type 1
SettlesOnce =
    (A : Type 0) (weigh freq : A → ℕ) (limits : Limits) (a : Areas A)
    → IsWithin weigh limits a → settle weigh freq limits a ≡ record { areas = a; dropped = [] }

-- what is accessed and held already leaves areas within their limits, so that settling then drops nothing
abbrev pub AccessDropsNothing : Type 1
AccessDropsNothing =
    (A : Type 0) (weigh freq : A → ℕ) (limits : Limits) (is : A → Bool) (x : A) (a : Areas A)
    → find is (a.window ++ (a.probation ++ a.protected)) ≡ Some x → IsWithin weigh limits a
    → settle weigh freq limits (accessed weigh limits is x a) ≡ record { areas = accessed weigh limits is x a; dropped = [] }
