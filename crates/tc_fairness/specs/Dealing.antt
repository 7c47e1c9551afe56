-- How turns are dealt out among the users of a worker. Source: this project's own.
use Rattle.std.specs.Prelude.{ℕ, ◌+◌, ◌-◌, ◌*◌, ◌^◌, min, max, List, slice_index_or, slice_set}
use Rattle.tc_plain.specs.declared.shared.progress.Progress.{Progress}
use Rattle.tc_plain.specs.declared.shared.progress.Progress.TheVariants.{Done, MoreLeft}
use Rattle.tc_fairness.specs.declared.dealing.Account.{Account}
use Rattle.tc_fairness.specs.declared.dealing.Backlog.{Backlog}

-- the work that a turn pays each user
abbrev pub share : ℕ
share = 2000

-- the work of a piece of maintenance that stopped at its limit
abbrev pub pieces_cost : ℕ
pieces_cost = 2730

-- a user who did nothing
abbrev pub idle : Account
idle = record { owed = 0; paid = 0; kept_up = 0; backlog = 0 }

-- a user's account once each turn's share is paid
abbrev pub paid_at : ℕ → Account → Account
paid_at turn account = record account { owed = account.owed - share * (turn - account.paid); paid = turn }

-- a user's account once so much more was done
abbrev pub charged : ℕ → Account → Account
charged work account = record account { owed = min (account.owed + work) (2 ^ 64 - 1) }

-- a user's account once its cache was maintained at a moment: nothing is left, or the piece is owed
abbrev pub after_progress : ℕ → Progress → Account → Account
after_progress now Done account = record account { kept_up = now }
after_progress now MoreLeft account = charged pieces_cost account

-- the account of a user; one who has none owes nothing
abbrev pub account_of : List Account → ℕ → Account
account_of accounts user = slice_index_or accounts user idle

-- a connection to which no more bytes wait to be sent is never full
abbrev pub least_out : ℕ
least_out = 16384

-- with how many bytes that wait a connection is not full yet: those that wait for its user, and those for itself, are given
abbrev pub most_out : ℕ → ℕ → ℕ
most_out all own = min (max (8388608 - (all - own)) least_out) 1048576

-- the accounts once so much more waits for a connection
abbrev pub with_backlog : Backlog → List Account → List Account
with_backlog b accounts = slice_set accounts b.user (let account : Account = account_of accounts b.user in
    record account { backlog = min (account.backlog + b.bytes) (2 ^ 64 - 1) })

-- the accounts once so much waits no more
abbrev pub without_backlog : Backlog → List Account → List Account
without_backlog b accounts = slice_set accounts b.user (let account : Account = account_of accounts b.user in
    record account { backlog = account.backlog - b.bytes })
