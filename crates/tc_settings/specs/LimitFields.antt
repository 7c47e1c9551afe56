-- The limits on connections that a settings text may set. Source: docs/OPERATING.md, 'Settings': each may be left out;
-- where it is there, it is a whole number, and then in its range.
use Rattle.std.specs.Prelude.{ℕ, ◌+◌, nat_abs, List, [], ◌∷◌, Option, Some, None}
use Rattle.std.specs.Option.{option_or}
use Rattle.toml.specs.Data.{Data}
use Rattle.tc_settings.specs.Bounds.{most_seconds, most_connections}
use Rattle.tc_users.specs.declared.limits.Limit.{Limit}
use Rattle.tc_users.specs.declared.limits.Limit.TheVariants.{LoginSeconds, StalledSeconds, UnboundConnections, Connections}
use Rattle.tc_users.specs.declared.limits.Limit.TheVariants.{IdleSeconds}
use Rattle.tc_limits.specs.declared.limits.ConnectionLimits.{ConnectionLimits}
use Rattle.tc_limits.specs.declared.limits.UserLimits.{UserLimits}
use Rattle.tc_users.specs.declared.settings_fault.Field.TheVariants.{Limited}
use Rattle.tc_users.specs.declared.settings_fault.SettingsFault.{SettingsFault}
use Rattle.tc_users.specs.declared.settings_fault.SettingsFault.TheVariants.{LimitRange}
use Rattle.tc_users.specs.Faults.{first_of, range_fault}
use Rattle.tc_settings.specs.Fields.{field_in, number_in, missing_number_in, if_there}

-- the largest number that a limit may be
abbrev pub most_of : Limit → ℕ
most_of LoginSeconds = most_seconds
most_of StalledSeconds = most_seconds
most_of UnboundConnections = most_connections
most_of (Connections user) = most_connections
most_of (IdleSeconds user) = most_seconds

-- no limit where nothing is said
abbrev pub limit_said : Option Data → Option ℕ
limit_said None = None
limit_said (Some d) = Some (nat_abs (number_in (Some d)))

-- the limit that a table sets
abbrev pub limit_in : Limit → Data → Option ℕ
limit_in limit d = limit_said (field_in (Limited limit) d)

-- what is wrong with it
abbrev pub limit_fault_in : Limit → Data → Option SettingsFault
limit_fault_in limit d =
    if_there (field_in (Limited limit) d)
    (option_or (missing_number_in (Limited limit) d)
    (range_fault 1 (most_of limit) (LimitRange limit) (number_in (field_in (Limited limit) d))))

-- the limits on all connections
abbrev pub limits_in : Data → ConnectionLimits
limits_in d = record {
  login_seconds = limit_in LoginSeconds d;
  stalled_seconds = limit_in StalledSeconds d;
  unbound_connections = limit_in UnboundConnections d;
}

-- the first fault of them
abbrev pub limits_fault_in : Data → Option SettingsFault
limits_fault_in d =
    first_of (limit_fault_in LoginSeconds d
    ∷ limit_fault_in StalledSeconds d
    ∷ limit_fault_in UnboundConnections d
    ∷ [])

-- the limits in a user's table
abbrev pub user_limits_in : Data → UserLimits
user_limits_in user = record {
  connections = limit_in (Connections 0) user;
  idle_seconds = limit_in (IdleSeconds 0) user;
}

-- the first fault of the limits in the table of user n
abbrev pub user_limits_fault : ℕ → Data → Option SettingsFault
user_limits_fault n user = first_of (limit_fault_in (Connections n) user ∷ limit_fault_in (IdleSeconds n) user ∷ [])

-- the first fault of the limits in users' tables, of which so many stand before, user by user
abbrev pub limits_fault_after : ℕ → List Data → Option SettingsFault
limits_fault_after before [] = None
limits_fault_after before (user ∷ users) = option_or (user_limits_fault (before + 1) user) (limits_fault_after (before + 1) users)
