-- How commands end that show no item, and what a command will do that may change data. Source: this project's own.
use Rattle.std.specs.Prelude.{◌≡◌, ℕ, ◌+◌, ◌≤◌, cond, List, length, ⊤}
use Rattle.tc_model.specs.Areas.{Limits}
use Rattle.tc_item.specs.declared.item.Item.{Item}
use Rattle.tc_item.specs.Weight.{weight_of}
use Rattle.tc_stats.specs.declared.outcome.Outcome.{Outcome}
use Rattle.tc_stats.specs.declared.outcome.Outcome.TheVariants.{Stored, NotStored, Exists, NotFound, Deleted, Touched, Number}
use Rattle.tc_stats.specs.declared.outcome.Outcome.TheVariants.{Done, Version, TooLarge, NotNumeric, CasWorn}
use Rattle.tc_plain.specs.declared.shared.end.End.{End}
use Rattle.tc_plain.specs.declared.shared.end.End.TheVariants.{Stored as StoredEnd, NotStored as NotStoredEnd, Exists as ExistsEnd}
use Rattle.tc_plain.specs.declared.shared.end.End.TheVariants.{NotFound as NotFoundEnd, Deleted as DeletedEnd, Touched as TouchedEnd}
use Rattle.tc_plain.specs.declared.shared.end.End.TheVariants.{Number as NumberEnd, Done as DoneEnd, Version as VersionEnd}
use Rattle.tc_plain.specs.declared.shared.end.End.TheVariants.{TooLarge as TooLargeEnd, NotNumeric as NotNumericEnd}
use Rattle.tc_plain.specs.declared.shared.end.End.TheVariants.{CasWorn as CasWornEnd}
use Rattle.tc_plain.specs.declared.shared.plans.Plan.{Plan}
use Rattle.tc_plain.specs.declared.shared.plans.Plan.TheVariants.{Ends, Changes}
use Rattle.tc_plain.specs.declared.shared.offers.Draft.{Draft}
use Rattle.tc_plain.specs.declared.shared.offers.Bid.{Bid}
use Rattle.tc_plain.specs.declared.shared.offers.Bid.TheVariants.{Refused as RefusedBid, Offered as OfferedBid}
use Rattle.tc_plain.specs.UserCache.{UserCache}
use Rattle.tc_plain.specs.Storing.{Offer, Refused, Offered, is_worn, changed}

-- the outcome of an end
abbrev pub outcome_of : End → Outcome
outcome_of StoredEnd = Stored
outcome_of NotStoredEnd = NotStored
outcome_of ExistsEnd = Exists
outcome_of NotFoundEnd = NotFound
outcome_of DeletedEnd = Deleted
outcome_of TouchedEnd = Touched
outcome_of (NumberEnd number) = Number number
outcome_of DoneEnd = Done
outcome_of VersionEnd = Version
outcome_of TooLargeEnd = TooLarge
outcome_of NotNumericEnd = NotNumeric
outcome_of CasWornEnd = CasWorn

-- the item that a draft is with this cas number
abbrev pub numbered : ℕ → Draft → Item
numbered cas d = record { flags = d.flags; due = d.due; cas = cas; blob = d.blob }

-- what a storage line comes to for what its key holds, with this cas number
abbrev pub offer_of : ℕ → Bid → Offer
offer_of cas (RefusedBid end) = Refused (outcome_of end)
offer_of cas (OfferedBid draft) = Offered (numbered cas draft)

-- a plan carried out: it ends at once, or finds the cas numbers used up, or its draft is used under its key with the next one
abbrev pub planned : UserCache → Plan → Outcome × UserCache
planned k (Ends end) = (outcome_of end, k)
planned k (Changes end key draft) = cond (is_worn k) (CasWorn, k)
    (outcome_of end, changed (record { key = key; item = numbered (k.last + 1) draft }) k)

-- what a plan stores fits in main
abbrev pub IsLightPlan : Limits → Plan → Type 0
IsLightPlan limits (Ends end) = ⊤
IsLightPlan limits (Changes end key draft) = weight_of key (length draft.blob) ≤ limits.main

-- what a plan stores has this key
abbrev pub IsUnder : List ℕ → Plan → Type 0
IsUnder key (Ends end) = ⊤
IsUnder key (Changes end under draft) = under ≡ key
