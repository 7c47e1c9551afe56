-- The storage commands: what each makes of the line's item and of what its key holds, and how an
-- item is stored. Source: memcached's doc/protocol.txt, "Storage commands".
use Rattle.std.specs.Prelude.{ℕ, ◌+◌, ◌-◌, ◌^◌, cond, nat_lt, ◌==◌, ◌||◌, Bool, List, ◌++◌, length, Option, Some, None}
use Rattle.std.specs.Prelude.{option_map}
use Rattle.tc_model.specs.Areas.{Settled, settle}
use Rattle.tc_item.specs.declared.item.Item.{Item}
use Rattle.tc_item.specs.Expiry.{due_of}
use Rattle.tc_item.specs.Weight.{weight_of}
use Rattle.tc_grammar.specs.declared.command.StoreKind.{StoreKind}
use Rattle.tc_grammar.specs.declared.command.StoreKind.TheVariants.{Set, Add, Replace, Append, Prepend, Cas}
use Rattle.tc_grammar.specs.declared.command.Head.{Head}
use Rattle.tc_stats.specs.declared.outcome.Outcome.{Outcome}
use Rattle.tc_stats.specs.declared.outcome.Outcome.TheVariants.{Stored, NotStored, Exists, NotFound, TooLarge, CasWorn}
use Rattle.tc_stats.specs.UserCounters.{more}
use Rattle.tc_plain.specs.declared.shared.entry.Entry.{Entry}
use Rattle.tc_plain.specs.Entries.{weight, with_data}
use Rattle.tc_plain.specs.EvictionState.{held}
use Rattle.tc_plain.specs.Placing.{frequency, used}
use Rattle.tc_plain.specs.UserCache.{UserCache}

-- each entry that settle drops is an eviction
abbrev pub after_settle : UserCache → Settled Entry → UserCache
after_settle k s = record k {
  live = record k.live { areas = s.areas };
  counters = record k.counters { evictions = more k.counters.evictions (length s.dropped) };
}

-- each area comes within its limit
abbrev pub settled : UserCache → UserCache
settled k = after_settle k (settle weight (frequency k.live) k.live.limits k.live.areas)

-- all cas numbers are taken
abbrev pub is_worn : UserCache → Bool
is_worn k = k.last == 2 ^ 64 - 1

-- a change of data: an entry, which has the next cas number, is used, and the areas settle
abbrev pub changed : Entry → UserCache → UserCache
changed e k = settled (record k { live = used e k.live; last = k.last + 1 })

-- a storage line is refused for what its key holds, or offers an item
pub data Offer : Type 0 where
  Refused : Outcome → Offer
  Offered : Item → Offer

-- the line's own item
abbrev pub item_of : Head → List ℕ → ℕ → ℕ → Item
item_of head blob moment cas = record { flags = head.flags; due = due_of head.exptime moment; cas = cas; blob = blob }

-- what a storage name makes of the line's own item and of what its key holds; append and prepend keep the held flags and due
abbrev pub offer_by : StoreKind → ℕ → Item → Option Item → Offer
offer_by Set unique new old = Offered new
offer_by Add unique new None = Offered new
offer_by Add unique new (Some i) = Refused NotStored
offer_by Replace unique new None = Refused NotStored
offer_by Replace unique new (Some i) = Offered new
offer_by Append unique new None = Refused NotStored
offer_by Append unique new (Some i) = Offered (with_data new.cas (i.blob ++ new.blob) i)
offer_by Prepend unique new None = Refused NotStored
offer_by Prepend unique new (Some i) = Offered (with_data new.cas (new.blob ++ i.blob) i)
offer_by Cas unique new None = Refused NotFound
offer_by Cas unique new (Some i) = cond (i.cas == unique) (Offered new) (Refused Exists)

-- more data than one item may have, or heavier than main may be
abbrev pub is_too_large : UserCache → List ℕ → List ℕ → Bool
is_too_large k key blob = nat_lt k.largest (length blob) || nat_lt k.live.limits.main (weight_of key (length blob))

-- an offered item is too large, or finds the cas numbers used up, or is stored
abbrev pub accepted : UserCache → List ℕ → Offer → Outcome × UserCache
accepted k key (Refused outcome) = (outcome, k)
accepted k key (Offered item) = cond (is_too_large k key item.blob) (TooLarge, k)
    (cond (is_worn k) (CasWorn, k) (Stored, changed (record { key = key; item = item }) k))

-- what is held under a key, as an item
abbrev pub item_under : List ℕ → UserCache → Option Item
item_under key k = option_map (λ e. e.item) (held key k.live.areas)

-- a storage line with its block
abbrev pub stored : UserCache → Head → List ℕ → Outcome × UserCache
stored k head blob =
    accepted k head.key
    (offer_by head.kind head.cas_unique (item_of head blob k.live.moment (k.last + 1)) (item_under head.key k))
