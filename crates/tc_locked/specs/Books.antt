-- Which books are legal, and what their calls do. Source: this project's own.
use Rattle.std.specs.Prelude.{◌≡◌, ◌≢◌, cond, leb, ℕ, ◌+◌, ◌-◌, ◌^◌, ◌<◌, ◌≤◌, max, List, [], ◌∷◌, ◌++◌, length, map, slice_index}
use Rattle.std.specs.Prelude.{slice_set, replicate}
use Rattle.tc_model.specs.Caching.{Event, Replays, state_after}
use Rattle.tc_grammar.specs.declared.command.Command.{Command}
use Rattle.tc_plain.specs.declared.shared.journal.Journal.{Journal}
use Rattle.tc_stats.specs.declared.outcome.Outcome.{Outcome}
use Rattle.tc_plain.specs.UserCache.{UserCache, advance}
use Rattle.tc_plain.specs.Doing.{act}
use Rattle.tc_plain.specs.Laws.{user_caching}
use Rattle.tc_fresh.specs.Beginning.{IsEmptyCache}
use Rattle.tc_locked.specs.declared.call_entry.CallEntry.{CallEntry}
use Rattle.tc_locked.specs.declared.call_fault.CallFault.{CallFault}
use Rattle.tc_locked.specs.declared.call_fault.CallFault.TheVariants.{Worn, NoUser, OtherBook}
use Rattle.tc_locked.specs.declared.call_entry.Slip.{Slip}

-- a book, as callers see it
pub record BookState : Type 0 where
  -- the state that the page began with, and the calls since
  pub opening : UserCache
  pub entries : List CallEntry
  -- the state that the cache stands for
  pub settled : UserCache
  -- the latest moment of a call or of maintenance
  pub moment : ℕ
  -- how many pages were turned
  pub turns : ℕ
  -- how many entries there were, over all pages, and how many of each seat
  pub number : ℕ
  pub counts : List ℕ
  -- whether the entries of the page are kept, so that they can be read
  pub keeps : Journal

-- an entry as an event of the cache's history
abbrev pub event_of : CallEntry → Event Command Outcome
event_of e = record { moment = e.moment; command = e.command; outcome = e.outcome }

-- entries as events, in order
abbrev pub events_of : List CallEntry → List (Event Command Outcome)
events_of es = map event_of es

-- where a list of entries begins
pub record Start : Type 0 where
  pub cache : UserCache
  pub moment : ℕ
  pub number : ℕ
  pub counts : List ℕ

-- the beginning of all: nothing was called
abbrev pub first_start : UserCache → ℕ → Start
first_start k seats = record { cache = k; moment = 0; number = 0; counts = replicate seats 0 }

-- the last moment of the entries, or this one
abbrev pub moment_after : ℕ → List CallEntry → ℕ
moment_after from [] = from
moment_after from (e ∷ es) = moment_after e.moment es

-- how many entries each seat has, once these are made
abbrev pub counts_after : List ℕ → List CallEntry → List ℕ
counts_after counts [] = counts
counts_after counts (e ∷ es) = counts_after (slice_set counts e.seat e.tally) es

-- entries are numbered one after another, and each has its seat's count
pub record IsNext (number : ℕ) (counts : List ℕ) (e : CallEntry) : Type 0 where
  pub number_is : e.number ≡ number + 1
  pub seat : e.seat < length counts
  pub tally : e.tally ≡ slice_index counts e.seat + 1

-- each entry is the next after those before it
abbrev pub AreNumbered : ℕ → List ℕ → List CallEntry → Type 0
AreNumbered number counts [] = Unit {0}
AreNumbered number counts (e ∷ es) = IsNext number counts e × AreNumbered (number + 1) (slice_set counts e.seat e.tally) es

-- from here the entries are a history of the cache, which leaves the book's state
pub record Stands (start : Start) (es : List CallEntry) (b : BookState) : Type 0 where
  -- commands give the outcomes that are kept, at moments that never fall
  pub replays : Replays user_caching start.moment start.cache (events_of es)
  -- the last state, at the book's moment, is what the cache stands for
  pub settled : advance (state_after user_caching start.cache (events_of es)) b.moment ≡ b.settled
  pub moment : moment_after start.moment es ≤ b.moment
  pub numbered : AreNumbered start.number start.counts es
  pub number : start.number + length es ≡ b.number
  pub counts : counts_after start.counts es ≡ b.counts

-- a legal book
pub record IsBook (b : BookState) : Type 0 where
  pub start : Start
  pub opens : start.cache ≡ b.opening
  pub stands : Stands start b.entries b
  -- with no page turned, the page began with an empty cache, before any call
  pub first : b.turns ≡ 0 → IsEmptyCache b.opening × (start ≡ first_start b.opening (length b.counts))
  -- no seat has more entries than the book, which has one for each turned page and each entry of its page
  pub capped : (i : ℕ) → i < length b.counts → slice_index b.counts i ≤ b.number
  pub turned : b.turns + length b.entries ≤ b.number

-- the entry that a call makes
abbrev pub entry_of : BookState → ℕ → ℕ → ℕ → Command → CallEntry
entry_of b seat now conn command = record {
  seat = seat;
  tally = slice_index b.counts seat + 1;
  number = b.number + 1;
  moment = max b.moment now;
  conn = conn;
  command = command;
  outcome = (act b.settled (max b.moment now) command).0;
}

-- a book once this entry of a call is made
abbrev pub after_call : BookState → CallEntry → BookState
after_call b e = record {
  opening = b.opening;
  entries = b.entries ++ e ∷ [];
  settled = (act b.settled e.moment e.command).1;
  moment = e.moment;
  turns = b.turns;
  number = e.number;
  counts = slice_set b.counts e.seat e.tally;
  keeps = b.keeps;
}

-- an entry of this number has this place on a book's page
abbrev pub IsNumberAt : ℕ → ℕ → BookState → Type 0
IsNumberAt number place b = number + length b.entries ≡ b.number + place + 1

-- why a book that made so many entries refuses a call: for want of memory, or because its numbers are used up
abbrev pub IsBookFault : ℕ → CallFault → Type 0
IsBookFault number fault = (fault ≡ Worn → number ≡ 2 ^ 64 - 1) × (fault ≢ NoUser) × (fault ≢ OtherBook)

-- what a call's caller is told
abbrev pub slip_of : BookState → CallEntry → Slip
slip_of b e = record { page = b.turns; number = e.number; tally = e.tally; moment = e.moment; outcome = e.outcome }

-- a book once it was maintained at a moment
abbrev pub after_maintain : BookState → ℕ → BookState
after_maintain b now = record {
  opening = b.opening;
  entries = b.entries;
  settled = advance b.settled now;
  moment = max b.moment now;
  turns = b.turns;
  number = b.number;
  counts = b.counts;
  keeps = b.keeps;
}

-- a book whose page was turned
abbrev pub page_turned : BookState → BookState
page_turned b = record {
  opening = b.settled;
  entries = [];
  settled = b.settled;
  moment = b.moment;
  turns = b.turns + 1;
  number = b.number;
  counts = b.counts;
  keeps = b.keeps;
}

-- a page that has `journal` entries is turned
abbrev pub paged : ℕ → BookState → BookState
paged journal b = cond (leb journal (length b.entries)) (page_turned b) b

-- the book of a cache that was never called
abbrev pub fresh_book : UserCache → ℕ → Journal → BookState
fresh_book k seats keeps = record {
  opening = k;
  entries = [];
  settled = k;
  moment = 0;
  turns = 0;
  number = 0;
  counts = replicate seats 0;
  keeps = keeps;
}
