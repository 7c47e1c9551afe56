-- What is true of every cache that commands lead to. Source: this project's own.
use Rattle.std.specs.Prelude.{◌≡◌, ℕ, ◌-◌, ◌^◌, ◌≤◌, cond, List, [], length, Some, All, ⊤}
use Rattle.tc_model.specs.Areas.{Areas, Limits, total, settle}
use Rattle.tc_model.specs.Within.{IsWithin}
use Rattle.tc_item.specs.Bounds.{smallest_budget, largest_budget, largest_item, longest_key}
use Rattle.tc_item.specs.declared.item.Item.{Item}
use Rattle.tc_sketch.specs.Sketch.{width_of}
use Rattle.tc_grammar.specs.declared.command.Command.{Command}
use Rattle.tc_grammar.specs.declared.command.Command.TheVariants.{Count}
use Rattle.tc_plain.specs.declared.shared.entry.Entry.{Entry}
use Rattle.tc_plain.specs.Entries.{weight, has_key, with_item}
use Rattle.tc_plain.specs.EvictionState.{limits_of, entries_of, held}
use Rattle.tc_plain.specs.Placing.{used, frequency}
use Rattle.tc_plain.specs.UserCache.{UserCache}
use Rattle.tc_plain.specs.Doing.{act}

-- how many entries are under a key
abbrev pub count_under : List ℕ → Areas Entry → ℕ
count_under key a = total (λ e. cond (has_key key e) 1 0) a

-- the areas of a cache with these limits
pub record AreSound (limits : Limits) (a : Areas Entry) : Type 0 where
  -- no area weighs more than its limit
  pub within : IsWithin weight limits a
  -- each entry fits in main
  pub light : All (λ e. weight e ≤ limits.main) (entries_of a)
  -- no key is held twice
  pub once : (key : List ℕ) → count_under key a ≤ 1

-- a cache
pub record IsSound (k : UserCache) : Type 0 where
  -- the budget and the largest item are in their ranges
  pub least_budget : smallest_budget ≤ k.budget
  pub most_budget : k.budget ≤ largest_budget
  pub least_largest : 1 ≤ k.largest
  pub most_largest : k.largest ≤ largest_item
  -- the limits are those of the budget
  pub limits : k.live.limits ≡ limits_of k.budget
  -- the sketch is as wide as the budget asks
  pub width : k.live.sketch.width ≡ width_of k.budget
  pub areas : AreSound k.live.limits k.live.areas
  -- the last cas number is one of 64 bits
  pub last : k.last ≤ 2 ^ 64 - 1

-- a key that is counted up or down is no longer than keys are
abbrev pub HasShortKey : Command → Type 0
HasShortKey (Count way key value quiet) = length key ≤ longest_key
HasShortKey command = ⊤

-- a sound cache stays sound, whatever is asked of it
abbrev pub StaysSound : Type 0
StaysSound = (k : UserCache) (m : ℕ) (command : Command) → HasShortKey command → IsSound k → IsSound (act k m command).1

-- a hit drops nothing, though an access is always followed by settling: an entry that
-- is held, used with any due, leaves each area within its limit
abbrev pub HitDropsNothing : Type 0
HitDropsNothing =
    (k : UserCache) (e : Entry) (change : Item → Item) → IsSound k → held e.key k.live.areas ≡ Some e
    → (weight (with_item e (change e.item)) ≡ weight e)
    → let l = used (with_item e (change e.item)) k.live in
    settle weight (frequency l) l.limits l.areas ≡ record { areas = l.areas; dropped = [] }
