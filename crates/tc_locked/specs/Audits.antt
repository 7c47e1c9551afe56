-- What doing a page's calls again finds. Source: this project's own.
use Rattle.std.specs.Prelude.{◌≡◌, ◌≢◌, ◌⊎◌, ℕ, ◌+◌, List, [], ◌∷◌, length, Option, Some, None}
use Rattle.tc_plain.specs.UserCache.{UserCache}
use Rattle.tc_plain.specs.Doing.{act}
use Rattle.tc_locked.specs.declared.call_entry.CallEntry.{CallEntry}
use Rattle.tc_locked.specs.declared.audit.Difference.{Difference}
use Rattle.tc_locked.specs.declared.audit.Audit.{Audit}

-- the commands of entries, each at its moment, give the outcomes that are kept
abbrev pub Gives : UserCache → List CallEntry → Type 0
Gives k [] = Unit {0}
Gives k (e ∷ es) = ((act k e.moment e.command).0 ≡ e.outcome) × Gives (act k e.moment e.command).1 es

-- an entry that is done again at this place
abbrev pub done_again : UserCache → CallEntry → ℕ → Difference
done_again k e place = record { place = place; number = e.number; again = (act k e.moment e.command).0 }

-- the first entry whose outcome differs, where the first of these entries stands at this place
abbrev pub IsFirstOdd : UserCache → List CallEntry → ℕ → Difference → Type 0
IsFirstOdd k [] place odd = ⊥
IsFirstOdd k (e ∷ es) place odd =
    (((act k e.moment e.command).0 ≢ e.outcome) × (odd ≡ done_again k e place))
    ⊎ (((act k e.moment e.command).0 ≡ e.outcome) × IsFirstOdd (act k e.moment e.command).1 es (place + 1) odd)

-- an audit of so many calls that found this
abbrev pub IsFinding : UserCache → List CallEntry → ℕ → Option Difference → Type 0
IsFinding k es compared None = Gives k es × (compared ≡ length es)
IsFinding k es compared (Some odd) = IsFirstOdd k es 0 odd × (compared ≡ odd.place + 1)

-- what an audit of these entries finds, from what their page began with
abbrev pub IsAuditOf : UserCache → List CallEntry → Audit → Type 0
IsAuditOf k es audit = IsFinding k es audit.compared audit.difference
