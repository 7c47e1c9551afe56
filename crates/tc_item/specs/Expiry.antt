-- When an item is due, and until when it is alive. Source: memcached's doc/protocol.txt, 'Expiration times'.
use Rattle.std.specs.Prelude.{ℕ, zero, suc, ◌+◌, nat_lt, nat_le, if◌then◌else◌, Bool, true, ℤ, pos, negsuc}
use Rattle.tc_item.specs.Bounds.{longest_offset}
use Rattle.tc_item.specs.declared.moment.Due.{Due}
use Rattle.tc_item.specs.declared.moment.Due.TheVariants.{Never, At}

-- an exptime of 0 is never, below 0 is now, up to thirty days is so long from now, and above is that second
abbrev pub due_of : ℤ → ℕ → Due
due_of (negsuc _) now = At now
due_of (pos zero) now = Never
due_of (pos (suc n)) now = if nat_le (suc n) longest_offset then At (now + suc n) else At (suc n)

-- a moment is before a due: each is before never, and those before its second are before a due at one
abbrev pub is_before : ℕ → Due → Bool
is_before moment Never = true
is_before moment (At second) = nat_lt moment second
