-- What a read and a write may answer. Source: this project's own.
use Rattle.std.specs.Prelude.{ℕ, ◌≤◌, List, take, Option}
use Rattle.std.specs.Io.KnownBytes.{Keeps, Appends}
use Rattle.tc_links.specs.declared.wire.Got.{Got}
use Rattle.tc_links.specs.declared.wire.Got.TheVariants.{Bytes}
use Rattle.tc_links.specs.declared.wire.Put.{Put}
use Rattle.tc_links.specs.declared.wire.Put.TheVariants.{Wrote}

-- a read gives no more bytes than its buffer has
abbrev pub ReadsWithin : Got → ℕ → Type 0
ReadsWithin (Bytes n) room = n ≤ room
ReadsWithin got room = Unit {0}

-- a write takes no more bytes than it is handed
abbrev pub WritesWithin : Put → ℕ → Type 0
WritesWithin (Wrote n) handed = n ≤ handed
WritesWithin put handed = Unit {0}

-- where the bytes that were given are known, a read gave those at the front of its buffer, and else nothing
abbrev pub Gives : Got → Option (List ℕ) → Option (List ℕ) → List ℕ → Type 0
Gives (Bytes n) old new buffer = Appends old new (take n buffer)
Gives got old new buffer = Keeps old new

-- where the bytes that were taken are known, a write took the first of what it is handed, and else nothing
abbrev pub Takes : Put → Option (List ℕ) → Option (List ℕ) → List ℕ → Type 0
Takes (Wrote n) old new handed = Appends old new (take n handed)
Takes put old new handed = Keeps old new
