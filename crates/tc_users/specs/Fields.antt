-- The names of the fields of a settings text. Source: docs/OPERATING.md, 'Settings'.
use Rattle.std.specs.Prelude.{ℕ, codes, List}
use Rattle.tc_users.specs.declared.limits.Limit.{Limit}
use Rattle.tc_users.specs.declared.limits.Limit.TheVariants.{LoginSeconds, StalledSeconds, UnboundConnections, Connections}
use Rattle.tc_users.specs.declared.limits.Limit.TheVariants.{IdleSeconds}
use Rattle.tc_users.specs.declared.settings_fault.Field.{Field}
use Rattle.tc_users.specs.declared.settings_fault.Field.TheVariants.{Listen, Workers, Journal, Users, Name, Token, Budget}
use Rattle.tc_users.specs.declared.settings_fault.Field.TheVariants.{SecondToken, Largest, Metrics, MetricsListen, Limited}

-- the name of a limit in the text
abbrev pub limit_key : Limit → List ℕ
limit_key LoginSeconds = codes "login_seconds"
limit_key StalledSeconds = codes "stalled_seconds"
limit_key UnboundConnections = codes "unbound_connections"
limit_key (Connections user) = codes "connections"
limit_key (IdleSeconds user) = codes "idle_seconds"

-- the number of the fault where a limit is out of its range
abbrev pub limit_number : Limit → ℕ
limit_number LoginSeconds = 14
limit_number StalledSeconds = 15
limit_number UnboundConnections = 16
limit_number (Connections user) = 17
limit_number (IdleSeconds user) = 18

-- the field's name in the text
abbrev pub key_of : Field → List ℕ
key_of Listen = codes "listen"
key_of Workers = codes "workers"
key_of Journal = codes "journal"
key_of Metrics = codes "metrics"
key_of MetricsListen = codes "listen"
key_of Users = codes "user"
key_of (Name user) = codes "name"
key_of (Token user) = codes "token"
key_of (Budget user) = codes "budget"
key_of (SecondToken user) = codes "token2"
key_of (Largest user) = codes "largest"
key_of (Limited limit) = limit_key limit
