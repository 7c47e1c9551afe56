-- How a line's end is looked for, and how many bytes its request needs. Source: this project's own.
use Rattle.std.specs.Prelude.{◌≡◌, ◌≤◌, ℕ, ◌+◌, Bool, not, ◌==◌, length, List, Option, None, Some, IfSome}
use Rattle.tc_grammar.specs.declared.line.Line.{Line}
use Rattle.tc_grammar.specs.declared.line.Line.TheVariants.{Ready, NeedsBlock, Refused}
use Rattle.tc_feed.specs.declared.request.Framed.{Framed}
use Rattle.tc_feed.specs.declared.feed.Ahead.{Ahead}
use Rattle.tc_feed.specs.Stream.{Reader, longest_line, first}

-- a line with its end, a block and the line end behind it; a line without a block needs no more than is there
abbrev pub needed_of : ℕ → Line → ℕ
needed_of line (Ready command) = 0
needed_of line (Refused fault quiet skip) = 0
needed_of line (NeedsBlock head n) = line + (n + 2)

-- a byte that is no line feed
abbrev pub is_inside : ℕ → Bool
is_inside byte = not (byte == 10)

-- the reader's next request; where there is none, few bytes are unread
abbrev pub IsNext : ℕ → Reader → Option Framed → Type 0
IsNext limit r framed = (framed ≡ first limit r.unread) × (framed ≡ None → length r.unread ≤ limit + (longest_line + 2))

-- a request that was read ahead is the first of the unread bytes
abbrev pub IsReadAhead : Option Ahead → List ℕ → Type 0
IsReadAhead ahead unread = IfSome ahead (λ r. Some r.framed ≡ first r.limit unread)
