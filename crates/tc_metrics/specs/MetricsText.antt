-- What a scraper reads. Source: Prometheus' text-based format 0.0.4 (prometheus.io, "Exposition formats"); the names are
-- this project's own: a row of `stats` behind `partcached_`, and `_total` behind what never goes down; but that of resident
-- memory is the one that Prometheus' client libraries give each process.
use Rattle.std.specs.Prelude.{ℕ, Bool, true, false, if◌then◌else◌, List, [], ◌∷◌, ◌++◌, codes, decimal}
use Rattle.std.specs.List.{flat_map}
use Rattle.tc_metrics.specs.declared.metric.UserFigures.{UserFigures}
use Rattle.tc_metrics.specs.declared.server.ServerFigures.{ServerFigures}
use Rattle.tc_metrics.specs.declared.metric.Metric.{Metric}
use Rattle.tc_metrics.specs.declared.server.OwnMetric.{OwnMetric}
use Rattle.tc_metrics.specs.declared.server.OwnMetric.TheVariants.{UnboundConnections, RefusedLogins, LimitedConnections}
use Rattle.tc_metrics.specs.declared.server.OwnMetric.TheVariants.{LeftOutLines, ResidentMemory, CpuSeconds, OpenFds, MaxFds, Uptime}
use Rattle.tc_metrics.specs.declared.closed.Closed.{Closed}
use Rattle.tc_metrics.specs.declared.closed.Reason.{Reason}
use Rattle.tc_metrics.specs.declared.closed.Reason.TheVariants.{Connections as TooMany, Idle, Stalled, HalfBlock}
use Rattle.tc_metrics.specs.declared.worker.WorkerFigures.{WorkerFigures}
use Rattle.tc_metrics.specs.declared.worker.WorkerMetric.{WorkerMetric}
use Rattle.tc_metrics.specs.declared.worker.WorkerMetric.TheVariants.{BusySeconds, LongestTurn, Users}
use Rattle.tc_metrics.specs.declared.metric.Metric.TheVariants.{Connections, JournalCalls, JournalBytes, CurrItems, TotalItems, Bytes, CmdGet}
use Rattle.tc_metrics.specs.declared.metric.Metric.TheVariants.{RefusedLogins as UserRefusedLogins, NoMemory}
use Rattle.tc_metrics.specs.declared.metric.Metric.TheVariants.{CmdSet, CmdFlush, CmdTouch, GetHits, GetMisses, DeleteMisses, DeleteHits, IncrMisses}
use Rattle.tc_metrics.specs.declared.metric.Metric.TheVariants.{IncrHits, DecrMisses, DecrHits, CasMisses, CasHits, CasBadval, TouchHits}
use Rattle.tc_metrics.specs.declared.metric.Metric.TheVariants.{TouchMisses, Evictions, LimitMaxbytes, ItemSizeMax, StoreTooLarge}

-- the name of a metric
abbrev pub metric_name : Metric → List ℕ
metric_name Connections = codes "partcached_connections"
metric_name JournalCalls = codes "partcached_journal_calls_total"
metric_name JournalBytes = codes "partcached_journal_bytes"
metric_name UserRefusedLogins = codes "partcached_user_refused_logins_total"
metric_name NoMemory = codes "partcached_no_memory_total"
metric_name CurrItems = codes "partcached_curr_items"
metric_name TotalItems = codes "partcached_total_items_total"
metric_name Bytes = codes "partcached_bytes"
metric_name CmdGet = codes "partcached_cmd_get_total"
metric_name CmdSet = codes "partcached_cmd_set_total"
metric_name CmdFlush = codes "partcached_cmd_flush_total"
metric_name CmdTouch = codes "partcached_cmd_touch_total"
metric_name GetHits = codes "partcached_get_hits_total"
metric_name GetMisses = codes "partcached_get_misses_total"
metric_name DeleteMisses = codes "partcached_delete_misses_total"
metric_name DeleteHits = codes "partcached_delete_hits_total"
metric_name IncrMisses = codes "partcached_incr_misses_total"
metric_name IncrHits = codes "partcached_incr_hits_total"
metric_name DecrMisses = codes "partcached_decr_misses_total"
metric_name DecrHits = codes "partcached_decr_hits_total"
metric_name CasMisses = codes "partcached_cas_misses_total"
metric_name CasHits = codes "partcached_cas_hits_total"
metric_name CasBadval = codes "partcached_cas_badval_total"
metric_name TouchHits = codes "partcached_touch_hits_total"
metric_name TouchMisses = codes "partcached_touch_misses_total"
metric_name Evictions = codes "partcached_evictions_total"
metric_name LimitMaxbytes = codes "partcached_limit_maxbytes"
metric_name ItemSizeMax = codes "partcached_item_size_max"
metric_name StoreTooLarge = codes "partcached_store_too_large_total"

-- what a metric is, in a line
abbrev pub metric_help : Metric → List ℕ
metric_help Connections = codes "Open connections of the user."
metric_help JournalCalls = codes "Calls of the user's cache, those of the metrics among them."
metric_help JournalBytes = codes "Bytes that the entries of the user's page keep."
metric_help UserRefusedLogins = codes "Refused logins with the user's name."
metric_help NoMemory = codes "Commands of the user that were answered out of memory."
metric_help CurrItems = codes "Items that the user holds."
metric_help TotalItems = codes "Items that the user stored."
metric_help Bytes = codes "Bytes that the user's items take of its budget."
metric_help CmdGet = codes "Keys that were looked up."
metric_help CmdSet = codes "Commands that store."
metric_help CmdFlush = codes "Commands flush_all."
metric_help CmdTouch = codes "Keys that were touched."
metric_help GetHits = codes "Keys that were looked up and found."
metric_help GetMisses = codes "Keys that were looked up and not found."
metric_help DeleteMisses = codes "Keys that were to be deleted and not found."
metric_help DeleteHits = codes "Keys that were deleted."
metric_help IncrMisses = codes "Keys that were to be incremented and not found."
metric_help IncrHits = codes "Keys that were incremented."
metric_help DecrMisses = codes "Keys that were to be decremented and not found."
metric_help DecrHits = codes "Keys that were decremented."
metric_help CasMisses = codes "Keys that were to be stored by cas and not found."
metric_help CasHits = codes "Keys that were stored by cas."
metric_help CasBadval = codes "Keys that were to be stored by cas and had changed."
metric_help TouchHits = codes "Keys that were touched and found."
metric_help TouchMisses = codes "Keys that were to be touched and not found."
metric_help Evictions = codes "Items that were dropped for others."
metric_help LimitMaxbytes = codes "The user's budget in bytes."
metric_help ItemSizeMax = codes "The most data bytes of one item."
metric_help StoreTooLarge = codes "Items that were too large to be stored."

-- whether it may go down
abbrev pub is_gauge : Metric → Bool
is_gauge Connections = true
is_gauge JournalBytes = true
is_gauge CurrItems = true
is_gauge Bytes = true
is_gauge LimitMaxbytes = true
is_gauge ItemSizeMax = true
is_gauge other = false

-- its number of a user
abbrev pub metric_number : Metric → UserFigures → ℕ
metric_number Connections user = user.connections
metric_number JournalCalls user = user.calls
metric_number JournalBytes user = user.journal
metric_number UserRefusedLogins user = user.refused_logins
metric_number NoMemory user = user.no_memory
metric_number CurrItems user = user.counters.curr_items
metric_number TotalItems user = user.counters.total_items
metric_number Bytes user = user.counters.bytes
metric_number CmdGet user = user.counters.cmd_get
metric_number CmdSet user = user.counters.cmd_set
metric_number CmdFlush user = user.counters.cmd_flush
metric_number CmdTouch user = user.counters.cmd_touch
metric_number GetHits user = user.counters.get_hits
metric_number GetMisses user = user.counters.get_misses
metric_number DeleteMisses user = user.counters.delete_misses
metric_number DeleteHits user = user.counters.delete_hits
metric_number IncrMisses user = user.counters.incr_misses
metric_number IncrHits user = user.counters.incr_hits
metric_number DecrMisses user = user.counters.decr_misses
metric_number DecrHits user = user.counters.decr_hits
metric_number CasMisses user = user.counters.cas_misses
metric_number CasHits user = user.counters.cas_hits
metric_number CasBadval user = user.counters.cas_badval
metric_number TouchHits user = user.counters.touch_hits
metric_number TouchMisses user = user.counters.touch_misses
metric_number Evictions user = user.counters.evictions
metric_number LimitMaxbytes user = user.counters.limit_maxbytes
metric_number ItemSizeMax user = user.counters.item_size_max
metric_number StoreTooLarge user = user.counters.store_too_large

-- all metrics, in the order in which they are told
unfoldable pub all_metrics : List Metric
all_metrics =
    Connections ∷ JournalCalls ∷ JournalBytes ∷ UserRefusedLogins ∷ NoMemory ∷ CurrItems ∷ TotalItems ∷ Bytes
    ∷ CmdGet ∷ CmdSet ∷ CmdFlush ∷ CmdTouch ∷ GetHits
    ∷ GetMisses ∷ DeleteMisses ∷ DeleteHits ∷ IncrMisses ∷ IncrHits
    ∷ DecrMisses ∷ DecrHits ∷ CasMisses ∷ CasHits ∷ CasBadval
    ∷ TouchHits ∷ TouchMisses ∷ Evictions ∷ LimitMaxbytes ∷ ItemSizeMax
    ∷ StoreTooLarge ∷ []

-- the word for its kind
abbrev pub kind_word : Bool → List ℕ
kind_word gauge = if gauge then codes "gauge" else codes "counter"

-- the line that says what a metric is
unfoldable pub help_line : List ℕ → List ℕ → List ℕ
help_line name help = codes "# HELP " ++ (name ++ (32 ∷ help ++ (10 ∷ [])))

-- the line that says of what kind a metric is
unfoldable pub type_line : List ℕ → Bool → List ℕ
type_line name gauge = codes "# TYPE " ++ (name ++ (32 ∷ kind_word gauge ++ (10 ∷ [])))

-- the lines in front of a metric's own: what it is, and its kind
unfoldable pub head_lines : List ℕ → List ℕ → Bool → List ℕ
head_lines name help gauge = help_line name help ++ type_line name gauge

-- a line of a user's: the name, {user="..."}, a space and the number
unfoldable pub user_line : Metric → UserFigures → List ℕ
user_line metric user =
    metric_name metric ++ (codes "{user=\"" ++ (user.name.items ++ (codes "\"} " ++ (decimal (metric_number metric user) ++ (10 ∷ [])))))

-- a metric: what it is, its kind, and its lines, user by user
unfoldable pub metric_text : List UserFigures → Metric → List ℕ
metric_text users metric =
    head_lines (metric_name metric) (metric_help metric) (is_gauge metric) ++ flat_map (user_line metric) users

-- the name of a metric of the server's
abbrev pub own_name : OwnMetric → List ℕ
own_name UnboundConnections = codes "partcached_unbound_connections"
own_name RefusedLogins = codes "partcached_refused_logins_total"
own_name LimitedConnections = codes "partcached_limited_connections_total"
own_name LeftOutLines = codes "partcached_left_out_lines_total"
own_name ResidentMemory = codes "process_resident_memory_bytes"
own_name CpuSeconds = codes "process_cpu_seconds_total"
own_name OpenFds = codes "process_open_fds"
own_name MaxFds = codes "process_max_fds"
own_name Uptime = codes "partcached_uptime_seconds"

-- what it is, in a line
abbrev pub own_help : OwnMetric → List ℕ
own_help UnboundConnections = codes "Open connections that have not logged in."
own_help RefusedLogins = codes "Logins that were refused."
own_help LimitedConnections = codes "Connections that were closed, or not let in, for a limit."
own_help LeftOutLines = codes "Lines that were left out of the log."
own_help ResidentMemory = codes "Resident memory in bytes."
own_help CpuSeconds = codes "Processor time in seconds."
own_help OpenFds = codes "Open descriptors."
own_help MaxFds = codes "Descriptors that may be open."
own_help Uptime = codes "Seconds since the start."

-- whether it may go down
abbrev pub own_is_gauge : OwnMetric → Bool
own_is_gauge RefusedLogins = false
own_is_gauge LimitedConnections = false
own_is_gauge LeftOutLines = false
own_is_gauge CpuSeconds = false
own_is_gauge other = true

-- its number
abbrev pub own_number : OwnMetric → ServerFigures → ℕ
own_number UnboundConnections s = s.unbound
own_number RefusedLogins s = s.refused_logins
own_number LimitedConnections s = s.limited
own_number LeftOutLines s = s.left_out
own_number ResidentMemory s = s.resident
own_number CpuSeconds s = s.cpu_millis
own_number OpenFds s = s.open_fds
own_number MaxFds s = s.max_fds
own_number Uptime s = s.uptime

-- what stands behind its number: 12345e-3 are 12.345 seconds
abbrev pub own_unit : OwnMetric → List ℕ
own_unit CpuSeconds = codes "e-3"
own_unit other = []

-- all metrics of the server's, in the order in which they are told
unfoldable pub own_metrics : List OwnMetric
own_metrics =
    UnboundConnections ∷ RefusedLogins ∷ LimitedConnections ∷ LeftOutLines ∷ ResidentMemory ∷ CpuSeconds ∷ OpenFds ∷ MaxFds
    ∷ Uptime ∷ []

-- its line
unfoldable pub own_line : ServerFigures → OwnMetric → List ℕ
own_line s metric = own_name metric ++ (32 ∷ decimal (own_number metric s) ++ (own_unit metric ++ (10 ∷ [])))

-- a metric of the server's: what it is, its kind, and its line
unfoldable pub own_text : ServerFigures → OwnMetric → List ℕ
own_text s metric = head_lines (own_name metric) (own_help metric) (own_is_gauge metric) ++ own_line s metric

-- the name of the metric that tells the release
abbrev pub build_name : List ℕ
build_name = codes "partcached_build_info"

-- what it is, in a line
abbrev pub build_help : List ℕ
build_help = codes "The release that runs."

-- its line: this release, as the label of a 1
unfoldable pub build_line : List ℕ → List ℕ
build_line version = build_name ++ (codes "{version=\"" ++ (version ++ codes "\"} 1\n"))

-- what it is, its kind, and its line
unfoldable pub build_text : List ℕ → List ℕ
build_text version = head_lines build_name build_help true ++ build_line version

-- the label of a reason for which a limit closed connections: the setting's name, or half_block
abbrev pub reason_word : Reason → List ℕ
reason_word TooMany = codes "connections"
reason_word Idle = codes "idle_seconds"
reason_word Stalled = codes "stalled_seconds"
reason_word HalfBlock = codes "half_block"

-- how many connections of a user were closed for it
abbrev pub closed_number : Reason → Closed → ℕ
closed_number TooMany closed = closed.connections
closed_number Idle closed = closed.idle
closed_number Stalled closed = closed.stalled
closed_number HalfBlock closed = closed.half_block

-- all reasons, in the order in which they are told
unfoldable pub all_reasons : List Reason
all_reasons = TooMany ∷ Idle ∷ Stalled ∷ HalfBlock ∷ []

-- the name of the metric of connections that limits closed
abbrev pub closed_name : List ℕ
closed_name = codes "partcached_closed_connections_total"

-- what it is, in a line
abbrev pub closed_help : List ℕ
closed_help = codes "Connections of the user that a limit closed."

-- its line of a user and a reason
unfoldable pub closed_line : UserFigures → Reason → List ℕ
closed_line user reason =
    closed_name ++ (codes "{user=\"" ++ (user.name.items ++ (codes "\",reason=\"" ++ (reason_word reason
    ++ (codes "\"} " ++ (decimal (closed_number reason user.closed) ++ (10 ∷ [])))))))

-- its lines of a user
abbrev pub closed_lines : UserFigures → List ℕ
closed_lines user = flat_map (closed_line user) all_reasons

-- the metric: what it is, its kind, and its lines, user by user
unfoldable pub closed_text : List UserFigures → List ℕ
closed_text users = head_lines closed_name closed_help false ++ flat_map closed_lines users

-- the name of a metric of a worker's
abbrev pub worker_name : WorkerMetric → List ℕ
worker_name BusySeconds = codes "partcached_worker_busy_seconds_total"
worker_name LongestTurn = codes "partcached_worker_longest_turn_seconds"
worker_name Users = codes "partcached_worker_users"

-- what it is, in a line
abbrev pub worker_help : WorkerMetric → List ℕ
worker_help BusySeconds = codes "Seconds that the worker did not wait."
worker_help LongestTurn = codes "The worker's longest turn since the last scrape."
worker_help Users = codes "Users whose connections the worker serves first."

-- whether it may go down
abbrev pub worker_is_gauge : WorkerMetric → Bool
worker_is_gauge BusySeconds = false
worker_is_gauge other = true

-- its number of a worker
abbrev pub worker_number : WorkerMetric → WorkerFigures → ℕ
worker_number BusySeconds worker = worker.busy_micros
worker_number LongestTurn worker = worker.longest_turn_micros
worker_number Users worker = worker.users

-- what stands behind its number: 1234e-6 are 1,234 millionths of a second
abbrev pub worker_unit : WorkerMetric → List ℕ
worker_unit Users = []
worker_unit other = codes "e-6"

-- all metrics of a worker's, in the order in which they are told
unfoldable pub worker_metrics : List WorkerMetric
worker_metrics = BusySeconds ∷ LongestTurn ∷ Users ∷ []

-- a line of a worker's: the name, {worker="..."}, a space and the number
unfoldable pub worker_line : WorkerMetric → WorkerFigures → List ℕ
worker_line metric worker =
    worker_name metric ++ (codes "{worker=\"" ++ (decimal worker.worker ++ (codes "\"} "
    ++ (decimal (worker_number metric worker) ++ (worker_unit metric ++ (10 ∷ []))))))

-- a metric of workers: what it is, its kind, and its lines, worker by worker
unfoldable pub worker_text : List WorkerFigures → WorkerMetric → List ℕ
worker_text workers metric =
    head_lines (worker_name metric) (worker_help metric) (worker_is_gauge metric) ++ flat_map (worker_line metric) workers

-- all that a scraper reads
abbrev pub metrics_text : List UserFigures → List WorkerFigures → List ℕ → ServerFigures → List ℕ
metrics_text users workers version server =
    flat_map (metric_text users) all_metrics ++ (closed_text users ++ (flat_map (worker_text workers) worker_metrics
    ++ (build_text version ++ flat_map (own_text server) own_metrics)))
