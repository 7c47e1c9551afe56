-- What is given beside an answer, where it is to be kept, and what a command gives and leaves. Source: this project's own.
use Rattle.std.specs.Prelude.{◌≡◌, Option, Some, None}
use Rattle.tc_stats.specs.declared.outcome.Outcome.{Outcome}
use Rattle.tc_plain.specs.declared.shared.acted.Acted.{Acted}
use Rattle.tc_plain.specs.UserCache.{UserCache}
use Rattle.tc_plain.specs.declared.shared.journal.Journal.{Journal}
use Rattle.tc_plain.specs.declared.shared.journal.Journal.TheVariants.{On, Off}

-- the same once more where the journal is on, and nothing where it is off
abbrev pub kept_by : {A : Type 0} → Journal → A → Option A
kept_by On a = Some a
kept_by Off a = None

-- what was given and left is what a command comes to and leaves: the outcome to answer, the same to keep, and the cache
abbrev pub IsActed : Journal → Outcome × UserCache → Acted → UserCache → Type 0
IsActed keep done acted left = (acted.answer ≡ done.0) × (acted.kept ≡ kept_by keep done.0) × (left ≡ done.1)
