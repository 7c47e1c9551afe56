-- How much of requests that are not whole yet is kept for the users of a worker. Source: this project's own.
use Rattle.std.specs.Prelude.{ℕ, ◌+◌, ◌-◌, ◌^◌, ◌==◌, min, List, Option, None, Some, slice_index_or, slice_set, if◌then◌else◌}
use Rattle.tc_fairness.specs.declared.half_blocks.Part.{Part}
use Rattle.tc_fairness.specs.declared.half_blocks.Lead.{Lead}
use Rattle.tc_fairness.specs.declared.half_blocks.Parts.{Parts}

-- a connection of which no more bytes are unread is always read
abbrev pub least_part : ℕ
least_part = 16384

-- how many bytes of a user's other connections may be unread before one with more is read no further
abbrev pub most_parts : ℕ
most_parts = 16777216

-- for how many seconds a connection leads of which nothing more comes, while others of its user wait
abbrev pub lead_seconds : ℕ
lead_seconds = 5

-- a user of whom nothing is unread
abbrev pub nothing : Parts
nothing = record { bytes = 0; lead = None }

-- what is unread of a user
abbrev pub parts_of : List Parts → ℕ → Parts
parts_of users user = slice_index_or users user nothing

-- the users' parts once so much more of a connection is unread
abbrev pub with_part : Part → List Parts → List Parts
with_part p users = slice_set users p.user (let parts : Parts = parts_of users p.user in
    record parts { bytes = min (parts.bytes + p.bytes) (2 ^ 64 - 1) })

-- the users' parts once so much is unread no more
abbrev pub without_part : Part → List Parts → List Parts
without_part p users = slice_set users p.user (let parts : Parts = parts_of users p.user in
    record parts { bytes = parts.bytes - p.bytes })

-- who leads once a key's connection does not
abbrev pub lead_but : ℕ → Option Lead → Option Lead
lead_but key None = None
lead_but key (Some lead) = if lead.key == key then None else Some lead

-- the users' parts once a connection leads no more
abbrev pub without_lead : Part → List Parts → List Parts
without_lead p users = slice_set users p.user (let parts : Parts = parts_of users p.user in
    record parts { lead = lead_but p.key parts.lead })

-- who leads once bytes of a key's connection came
abbrev pub lead_heard : ℕ → ℕ → Option Lead → Option Lead
lead_heard key now None = None
lead_heard key now (Some lead) = if lead.key == key then Some (record { key = key; heard = now }) else Some lead

-- the users' parts once bytes of a connection came
abbrev pub with_heard : Part → ℕ → List Parts → List Parts
with_heard p now users = slice_set users p.user (let parts : Parts = parts_of users p.user in
    record parts { lead = lead_heard p.key now parts.lead })
