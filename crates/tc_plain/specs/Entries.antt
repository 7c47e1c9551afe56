-- Entries: items under their keys, what they weigh and until when they are alive.
-- Source: memcached's doc/protocol.txt, but weights are this project's own.
use Rattle.std.specs.Prelude.{ℕ, Bool, List, length}
use Rattle.std.specs.Str.{bytes_eq}
use Rattle.tc_item.specs.declared.moment.Due.{Due}
use Rattle.tc_item.specs.declared.item.Item.{Item}
use Rattle.tc_item.specs.Expiry.{is_before}
use Rattle.tc_item.specs.Weight.{weight_of}
use Rattle.tc_stats.specs.declared.hits.Hit.{Hit}
use Rattle.tc_plain.specs.declared.shared.entry.Entry.{Entry}

-- what an entry weighs
abbrev pub weight : Entry → ℕ
weight e = weight_of e.key (length e.item.blob)

-- an entry is alive at a moment
abbrev pub lives : ℕ → Entry → Bool
lives moment e = is_before moment e.item.due

-- an entry is under this key
abbrev pub has_key : List ℕ → Entry → Bool
has_key key e = bytes_eq e.key key

-- an item as a look-up shows it under a key
abbrev pub shown_as : List ℕ → Item → Hit
shown_as key i = record { key = key; flags = i.flags; blob = i.blob; cas = i.cas }

-- what a look-up shows of an entry
abbrev pub hit_of : Entry → Hit
hit_of e = shown_as e.key e.item

-- an entry with another item
abbrev pub with_item : Entry → Item → Entry
with_item e i = record { key = e.key; item = i }

-- an item with another due
abbrev pub with_due : Due → Item → Item
with_due due i = record i { due = due }

-- an item with another cas number and other data
abbrev pub with_data : ℕ → List ℕ → Item → Item
with_data cas blob i = record i { cas = cas; blob = blob }
