-- When a connection has stayed too long. Source: docs/OPERATING.md, 'Settings': `login_seconds`, `stalled_seconds` and
-- `idle_seconds`. Seconds are counted from the server's start, and a second that began is not a whole one.
use Rattle.std.specs.Prelude.{ℕ, ◌+◌, Bool, false, nat_lt, if◌then◌else◌, Option, Some, None}
use Rattle.tc_limits.specs.declared.limits.ConnectionLimits.{ConnectionLimits}
use Rattle.tc_limits.specs.declared.limits.UserLimits.{UserLimits}
use Rattle.tc_connections.specs.declared.overdue.Stay.{Stay}
use Rattle.tc_connections.specs.declared.overdue.Timeout.{Timeout}
use Rattle.tc_connections.specs.declared.overdue.Timeout.TheVariants.{Login, Idle, Stalled}

-- more seconds than the limit went by since a moment; never where there is no limit
abbrev pub is_past : Option ℕ → ℕ → ℕ → Bool
is_past None since now = false
is_past (Some limit) since now = nat_lt (since + limit) now

-- nothing of what waits for it was taken for too long
abbrev pub is_stalled : Option ℕ → Option ℕ → ℕ → Bool
is_stalled limit None now = false
is_stalled limit (Some since) now = is_past limit since now

-- it has not logged in for too long; or its user is known, and it has asked for nothing for too long
abbrev pub is_silent : ConnectionLimits → Option UserLimits → Stay → ℕ → Bool
is_silent limits None stay now = is_past limits.login_seconds stay.came now
is_silent limits (Some own) stay now = is_past own.idle_seconds stay.heard now

-- which time runs out for one that is silent, of a user where its limits are given
abbrev pub silence_of : Option UserLimits → Timeout
silence_of None = Login
silence_of (Some own) = Idle

-- which time ran out for a connection, if one did; that for its silence comes first
abbrev pub overdue : ConnectionLimits → Option UserLimits → Stay → ℕ → Option Timeout
overdue limits own stay now =
    if is_silent limits own stay now then Some (silence_of own)
    else (if is_stalled limits.stalled_seconds stay.stuck now then Some Stalled else None)
