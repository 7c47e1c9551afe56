-- What each command comes to and leaves, once the cache has come to the command's moment. Source: memcached's doc/protocol.txt.
use Rattle.std.specs.Prelude.{ℕ, zero, suc, ◌+◌, cond, List, [], ◌∷◌, ◌++◌, length, Option, Some, None, sum_by}
use Rattle.tc_item.specs.declared.moment.Due.{Due}
use Rattle.tc_item.specs.declared.item.Item.{Item}
use Rattle.tc_item.specs.Expiry.{due_of}
use Rattle.tc_counter.specs.CounterText.{number_in, text_of, raised_by, lowered_by}
use Rattle.tc_grammar.specs.declared.command.Way.{Way}
use Rattle.tc_grammar.specs.declared.command.Way.TheVariants.{Incr, Decr}
use Rattle.tc_grammar.specs.declared.command.Command.{Command}
use Rattle.tc_grammar.specs.declared.command.Command.TheVariants.{Store, Get, Gat, Delete, Count, Touch, Flush, Stats as AskStats}
use Rattle.tc_grammar.specs.declared.command.Command.TheVariants.{Version as AskVersion, Verbosity, Quit}
use Rattle.tc_stats.specs.declared.hits.Hit.{Hit}
use Rattle.tc_stats.specs.declared.counters.Counters.{Counters}
use Rattle.tc_stats.specs.declared.outcome.Outcome.{Outcome}
use Rattle.tc_stats.specs.declared.outcome.Outcome.TheVariants.{NotFound, Deleted, Touched, Number, Values, Done, Stats, Version}
use Rattle.tc_stats.specs.declared.outcome.Outcome.TheVariants.{NotNumeric, CasWorn}
use Rattle.tc_stats.specs.UserCounters.{noted}
use Rattle.tc_plain.specs.declared.shared.entry.Entry.{Entry}
use Rattle.tc_plain.specs.Entries.{weight, hit_of, with_item, with_due, with_data}
use Rattle.tc_plain.specs.EvictionState.{EvictionState, no_entries, entries_of, held}
use Rattle.tc_plain.specs.Placing.{seen, without_key, used}
use Rattle.tc_plain.specs.Storing.{changed, is_worn, stored}
use Rattle.tc_plain.specs.UserCache.{UserCache, advance}

-- a cache with this in the place of what look-ups touch
abbrev pub with_live : UserCache → EvictionState → UserCache
with_live k l = record k { live = l }

-- one key: a hit is shown as it was and used as it is from now on, and a miss is seen too
abbrev pub looked_up : (Item → Item) → List ℕ → Option Entry → EvictionState → List Hit × EvictionState
looked_up change key None l = ([], seen key l)
looked_up change key (Some e) l = (hit_of e ∷ [], used (with_item e (change e.item)) l)

-- keys, one after another
abbrev pub all_looked_up : (Item → Item) → List (List ℕ) → EvictionState → List Hit × EvictionState
all_looked_up change [] l = ([], l)
all_looked_up change (key ∷ keys) l =
    let first = looked_up change key (held key l.areas) l in
    let rest = all_looked_up change keys first.1 in
    (first.0 ++ rest.0, rest.1)

-- look-ups as an outcome
abbrev pub as_values : UserCache → List Hit × EvictionState → Outcome × UserCache
as_values k r = (Values r.0, with_live k r.1)

-- touch: a hit has another due and is used, and a miss is seen
abbrev pub touched : Due → List ℕ → Option Entry → UserCache → Outcome × UserCache
touched due key None k = (NotFound, with_live k (seen key k.live))
touched due key (Some e) k = (Touched, with_live k (used (with_item e (with_due due e.item)) k.live))

-- delete
abbrev pub deleted : List ℕ → Option Entry → UserCache → Outcome × UserCache
deleted key None k = (NotFound, k)
deleted key (Some e) k = (Deleted, with_live k (record k.live { areas = without_key key k.live.areas }))

-- a number counted: up it wraps at 2^64, and down it stops at 0
abbrev pub counted : Way → ℕ → ℕ → ℕ
counted Incr number by = raised_by number by
counted Decr number by = lowered_by number by

-- an entry whose data is counted, if it is a number: the data is then the new number's text
abbrev pub counted_to : Way → ℕ → UserCache → Entry → Option ℕ → Outcome × UserCache
counted_to way by k e None = (NotNumeric, k)
counted_to way by k e (Some number) = cond (is_worn k) (CasWorn, k)
    (Number (counted way number by), changed (with_item e (with_data (k.last + 1) (text_of (counted way number by)) e.item)) k)

-- incr and decr
abbrev pub counted_under : Way → ℕ → Option Entry → UserCache → Outcome × UserCache
counted_under way by None k = (NotFound, k)
counted_under way by (Some e) k = counted_to way by k e (number_in e.item.blob)

-- without a delay all items go at once, and a pending flush is over; with one
-- they go that much later, and an earlier wish is forgotten
abbrev pub flushed : ℕ → EvictionState → EvictionState
flushed zero l = record l { areas = no_entries; flush = None }
flushed (suc delay) l = record l { flush = Some (l.moment + suc delay) }

-- the user's counters, with what is held and the limits
abbrev pub numbers_of : UserCache → Counters
numbers_of k = record k.counters {
  curr_items = length (entries_of k.live.areas);
  bytes = sum_by weight (entries_of k.live.areas);
  limit_maxbytes = k.budget;
  item_size_max = k.largest;
}

-- a command at the cache's moment
abbrev pub done : UserCache → Command → Outcome × UserCache
done k (Store head blob) = stored k head blob
done k (Get form keys) = as_values k (all_looked_up (λ i. i) keys k.live)
done k (Gat form exptime keys) = as_values k (all_looked_up (with_due (due_of exptime k.live.moment)) keys k.live)
done k (Delete key quiet) = deleted key (held key k.live.areas) k
done k (Count way key value quiet) = counted_under way value (held key k.live.areas) k
done k (Touch key exptime quiet) = touched (due_of exptime k.live.moment) key (held key k.live.areas) k
done k (Flush delay quiet) = (Done, with_live k (flushed delay k.live))
done k AskStats = (Stats (numbers_of k), k)
done k AskVersion = (Version, k)
done k (Verbosity level quiet) = (Done, k)
done k Quit = (Done, k)

-- the counters take note of a command and of what it came to
abbrev pub with_note : Command → Outcome × UserCache → Outcome × UserCache
with_note command r = (r.0, record r.1 { counters = noted command r.0 r.1.counters })

-- one command: the cache first comes to its moment
abbrev pub act : UserCache → ℕ → Command → Outcome × UserCache
act k moment command = with_note command (done (advance k moment) command)
