-- A page: its entries in proofs, and in memory where they are kept. Source: this project's own.
use Rattle.std.specs.Prelude.{◌≡◌, ◌<◌, ◌≤◌, List, length, map, take, vec_len, vec_capacity}
use Rattle.tc_plain.specs.declared.shared.journal.Journal.TheVariants.{On}
use Rattle.tc_locked.specs.declared.call_entry.CallEntry.{CallEntry}
use Rattle.tc_locked.specs.declared.page.Page.{Page}

-- the entries of a page
abbrev pub entries_on : Page → List CallEntry
entries_on p = map (λ n. n.0) p.noted.items

-- the entries are counted, and where they are kept, they stand at the front of the list
pub record IsPage (p : Page) : Type 0 where
  pub count : p.used ≡ length (entries_on p)
  pub within : p.journal ≡ On → p.used ≤ length p.kept.items
  pub same : p.journal ≡ On → take p.used p.kept.items ≡ entries_on p

-- an entry more can be kept, where they are kept
abbrev pub HasRoom : Page → Type 0
HasRoom p = p.journal ≡ On → length p.kept.items ≤ p.used → vec_len p.kept < vec_capacity p.kept
