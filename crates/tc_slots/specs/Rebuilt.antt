-- Entries that are put back into areas. Source: this project's own.
use Rattle.std.specs.Prelude.{ℕ, ◌+◌, ◌<◌, ◌≤◌, ◌^◌, cond, List, ◌++◌, All, sum_by}
use Rattle.tc_model.specs.Areas.{Areas, Limits, total}
use Rattle.tc_slru.specs.InAreas.{list_in, with_list}
use Rattle.tc_slru.specs.declared.area.Area.{Area}
use Rattle.tc_plain.specs.declared.shared.entry.Entry.{Entry}
use Rattle.tc_plain.specs.Entries.{weight, has_key}
use Rattle.tc_plain.specs.Soundness.{count_under}

-- entries at the front of a list, in their order
abbrev pub put_back : Area → List Entry → Areas Entry → Areas Entry
put_back area es a = with_list area (es ++ list_in area a) a

-- entries that may come into areas: no key comes to stand twice, each fits in main, and what all weigh can be counted
pub record Fit (limits : Limits) (es : List Entry) (a : Areas Entry) : Type 0 where
  pub once : (key : List ℕ) → sum_by (λ e. cond (has_key key e) 1 0) es + count_under key a ≤ 1
  pub light : All (λ e. weight e ≤ limits.main) es
  pub sum : sum_by weight es + total weight a < 2 ^ 64
