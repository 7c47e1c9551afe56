-- A stream of requests. Source: memcached's doc/protocol.txt (lines, and blocks that
-- their length alone ends); what is skipped is this project's own.
use Rattle.std.specs.Prelude.{ℕ, suc, ◌+◌, ◌-◌, false, cond, nat_lt, ◌&&◌, Bool, slice_index, List, [], ◌∷◌, ◌++◌, length, take}
use Rattle.std.specs.Prelude.{drop, Option, Some, None, ◌==◌, option_map}
use Rattle.tc_grammar.specs.declared.command.Head.{Head}
use Rattle.tc_grammar.specs.declared.command.Command.TheVariants.{Store}
use Rattle.tc_grammar.specs.declared.fault.Fault.TheVariants.{BadChunk, LineTooLong}
use Rattle.tc_grammar.specs.declared.line.Line.{Line}
use Rattle.tc_grammar.specs.declared.line.Line.TheVariants.{Ready, NeedsBlock, Refused as RefusedLine}
use Rattle.tc_grammar.specs.Reading.{reading}
use Rattle.tc_feed.specs.declared.request.Request.{Request}
use Rattle.tc_feed.specs.declared.request.Request.TheVariants.{Ask, Refused}
use Rattle.tc_feed.specs.declared.request.Framed.{Framed}

-- the bytes that came and are unread, and how many of those to come are skipped; where some are owed, none is unread
pub record Reader : Type 0 where
  pub unread : List ℕ
  pub owed : ℕ

-- nothing has come
abbrev pub empty : Reader
empty = record { unread = []; owed = 0 }

-- a piece comes: its first owed bytes are skipped, and what was lacking is still owed
abbrev pub more : Reader → List ℕ → Reader
more r piece = record { unread = r.unread ++ drop r.owed piece; owed = r.owed - length piece }

-- how many bytes stand before the first line feed, if there is one
abbrev pub line_length : List ℕ → Option ℕ
line_length [] = None
line_length (x ∷ xs) = cond (x == 10) (Some 0) (option_map suc (line_length xs))

-- the most bytes of a line before its line feed
abbrev pub longest_line : ℕ
longest_line = 65536

-- a line ends within so many first bytes
unfoldable pub line_room : ℕ
line_room = longest_line + 1

-- a line without one carriage return at its end
abbrev pub trimmed : List ℕ → List ℕ
trimmed line = cond (slice_index line (length line - 1) == 13) (take (length line - 1) line) line

-- the two bytes after n are a line end
abbrev pub ends_line : ℕ → List ℕ → Bool
ends_line n bytes = slice_index bytes n == 13 && slice_index bytes (n + 1) == 10

-- a storage line with its block of n bytes: its length alone ends it, and a line end must follow
abbrev pub block_request : Head → ℕ → List ℕ → Request
block_request head n bytes = cond (ends_line n bytes) (Ask (Store head (take n bytes))) (Refused BadChunk head.quiet)

-- the block among the bytes after its line, which is `line` bytes long with its end; nothing where they don't reach
abbrev pub block_of : Head → ℕ → ℕ → List ℕ → Option Framed
block_of head line n bytes =
    cond (nat_lt (length bytes) (n + 2)) None
    (Some (record { request = block_request head n bytes; length = line + (n + 2); skip = 0 }))

-- the request of a line, by what it spells and by the bytes after it
abbrev pub line_request : ℕ → List ℕ → Line → Option Framed
line_request line bytes (Ready command) = Some (record { request = Ask command; length = line; skip = 0 })
line_request line bytes (RefusedLine fault quiet skip) =
    Some (record { request = Refused fault quiet; length = line; skip = skip })
line_request line bytes (NeedsBlock head n) = block_of head line n bytes

-- the first request, by where the room of a line holds a line feed: with none there the line is too long
abbrev pub first_by : ℕ → List ℕ → Option ℕ → Option Framed
first_by limit unread None =
    cond (nat_lt longest_line (length unread))
    (Some (record { request = Refused LineTooLong false; length = longest_line + 1; skip = 0 })) None
first_by limit unread (Some n) = line_request (n + 1) (drop (n + 1) unread) (reading limit (trimmed (take n unread)))

-- the first whole request of unread bytes, where blocks of at most `limit` bytes are taken
abbrev pub first : ℕ → List ℕ → Option Framed
first limit unread = first_by limit unread (line_length (take line_room unread))

-- the reader behind a request
abbrev pub reader_behind : List ℕ → Framed → Reader
reader_behind unread t = more (record { unread = []; owed = t.skip }) (drop t.length unread)

-- the reader after it looked for a request
abbrev pub left_by : Reader → Option Framed → Reader
left_by r None = r
left_by r (Some t) = reader_behind r.unread t

-- the request that the reader finds, and the reader after it
abbrev pub found : ℕ → Reader → Option Request
found limit r = option_map (λ t. t.request) (first limit r.unread)

-- the reader after the request that it finds, if it finds one
abbrev pub after_first : ℕ → Reader → Reader
after_first limit r = left_by r (first limit r.unread)
