-- Worked examples of commands, by computation.
use Rattle.std.specs.Prelude.{◌≡◌, ℕ, ℤ, pos, negsuc, false, List, [], ◌∷◌, codes, replicate}
use Rattle.std.proofs.Common.{refl}
use Rattle.std.specs.Fmt.{digits}
use Rattle.tc_item.specs.KeyHash.{hash}
use Rattle.tc_sketch.specs.Sketch.{empty_sketch, place_of, raised, aged, recorded, freq, width_of}
use Rattle.tc_counter.specs.CounterText.{number_in}
use Rattle.tc_grammar.specs.declared.command.StoreKind.{StoreKind}
use Rattle.tc_grammar.specs.declared.command.StoreKind.TheVariants.{Set, Add, Replace, Append, Prepend, Cas}
use Rattle.tc_grammar.specs.declared.command.Form.TheVariants.{Bare}
use Rattle.tc_grammar.specs.declared.command.Way.TheVariants.{Incr, Decr}
use Rattle.tc_grammar.specs.declared.command.Command.{Command}
use Rattle.tc_grammar.specs.declared.command.Command.TheVariants.{Store, Get, Gat, Delete, Count, Touch, Flush}
use Rattle.tc_stats.specs.declared.hits.Hit.{Hit}
use Rattle.tc_stats.specs.declared.outcome.Outcome.{Outcome}
use Rattle.tc_stats.specs.declared.outcome.Outcome.TheVariants.{Stored, NotStored, Exists, NotFound, Deleted, Touched, Number}
use Rattle.tc_stats.specs.declared.outcome.Outcome.TheVariants.{Values, Done, TooLarge, NotNumeric}
use Rattle.tc_plain.specs.UserCache.{UserCache, fresh}
use Rattle.tc_plain.specs.Doing.{act}

abbrev start : UserCache
start = fresh 65536 1048576

-- what commands at their moments come to
abbrev outcomes : UserCache → List (ℕ × Command) → List Outcome
outcomes k [] = []
outcomes k (x ∷ xs) = let r = act k x.0 x.1 in r.0 ∷ outcomes r.1 xs

abbrev store : StoreKind → List ℕ → ℕ → ℤ → ℕ → List ℕ → Command
store kind key flags exptime unique blob =
    Store (record { kind = kind; key = key; flags = flags; exptime = exptime; cas_unique = unique; quiet = false }) blob

abbrev set : List ℕ → ℤ → List ℕ → Command
set key exptime blob = store Set key 0 exptime 0 blob

abbrev get : List ℕ → Command
get key = Get Bare (key ∷ [])

abbrev incr : List ℕ → ℕ → Command
incr key by = Count Incr key by false

abbrev decr : List ℕ → ℕ → Command
decr key by = Count Decr key by false

abbrev delete : List ℕ → Command
delete key = Delete key false

abbrev touch : List ℕ → ℤ → Command
touch key exptime = Touch key exptime false

abbrev hit : List ℕ → ℕ → List ℕ → ℕ → Hit
hit key flags blob cas = record { key = key; flags = flags; blob = blob; cas = cas }

abbrev miss : Outcome
miss = Values []

abbrev one : List ℕ → ℕ → List ℕ → ℕ → Outcome
one key flags blob cas = Values (hit key flags blob cas ∷ [])

expiry : outcomes start
    ((1000, set (codes "p") (negsuc 0) (codes "p")) ∷ (1000, set (codes "q") (pos 1) (codes "q"))
    ∷ (1000, set (codes "r") (pos 2592000) (codes "r")) ∷ (1000, set (codes "s") (pos 2592001) (codes "s"))
    ∷ (1000, Get Bare (codes "p" ∷ codes "q" ∷ []))
    ∷ (1001, get (codes "q")) ∷ (2592000, get (codes "s")) ∷ (2592001, get (codes "s")) ∷ (2592999, get (codes "r"))
    ∷ (2593000, get (codes "r")) ∷ [])
    ≡ Stored ∷ Stored ∷ Stored ∷ Stored ∷ one (codes "q") 0 (codes "q") 2 ∷ miss ∷ one (codes "s") 0 (codes "s") 4 ∷ miss
    ∷ one (codes "r") 0 (codes "r") 3 ∷ miss ∷ []
unfolding empty_sketch hash place_of raised aged recorded freq width_of
expiry = refl

counting : outcomes start
    ((0, set (codes "n") (pos 0) (codes "18446744073709551615")) ∷ (0, incr (codes "n") 1) ∷ (0, decr (codes "n") 5)
    ∷ (0, set (codes "s") (pos 0) (codes "12 ")) ∷ (0, incr (codes "s") 1) ∷ (0, get (codes "s"))
    ∷ (0, set (codes "x") (pos 0) (codes "x")) ∷ (0, incr (codes "x") 1) ∷ (0, incr (codes "m") 1) ∷ [])
    ≡ Stored ∷ Number 0 ∷ Number 0 ∷ Stored ∷ Number 13 ∷ one (codes "s") 0 (codes "13") 5 ∷ Stored ∷ NotNumeric ∷ NotFound ∷ []
unfolding digits number_in empty_sketch hash place_of raised aged recorded freq width_of
counting = refl

counting_down : outcomes start
    ((0, set (codes "n") (pos 0) (codes "12")) ∷ (0, decr (codes "n") 5) ∷ (0, decr (codes "n") 9) ∷ [])
    ≡ Stored ∷ Number 7 ∷ Number 0 ∷ []
unfolding digits number_in empty_sketch hash place_of raised aged recorded freq width_of
counting_down = refl

cas_numbers : outcomes start
    ((0, set (codes "k") (pos 0) (codes "a")) ∷ (0, get (codes "k")) ∷ (0, set (codes "k") (pos 0) (codes "b"))
    ∷ (0, store Cas (codes "k") 0 (pos 0) 1 (codes "c")) ∷ (0, store Cas (codes "k") 0 (pos 0) 2 (codes "d"))
    ∷ (0, store Cas (codes "z") 0 (pos 0) 2 (codes "e"))
    ∷ (0, get (codes "k")) ∷ [])
    ≡ Stored ∷ one (codes "k") 0 (codes "a") 1 ∷ Stored ∷ Exists ∷ Stored ∷ NotFound ∷ one (codes "k") 0 (codes "d") 3 ∷ []
unfolding empty_sketch hash place_of raised aged recorded freq width_of
cas_numbers = refl

delayed_flush : outcomes start
    ((100, set (codes "k") (pos 0) (codes "a")) ∷ (100, Flush 5 false) ∷ (104, get (codes "k")) ∷ (105, get (codes "k"))
    ∷ (105, set (codes "k") (pos 0) (codes "b")) ∷ (105, get (codes "k")) ∷ [])
    ≡ Stored ∷ Done ∷ one (codes "k") 0 (codes "a") 1 ∷ miss ∷ Stored ∷ one (codes "k") 0 (codes "b") 2 ∷ []
unfolding empty_sketch hash place_of raised aged recorded freq width_of
delayed_flush = refl

flush_at_once : outcomes start
    ((100, Flush 5 false) ∷ (100, Flush 0 false) ∷ (100, set (codes "k") (pos 0) (codes "a")) ∷ (105, get (codes "k")) ∷ [])
    ≡ Done ∷ Done ∷ Stored ∷ one (codes "k") 0 (codes "a") 1 ∷ []
unfolding empty_sketch hash place_of raised aged recorded freq width_of
flush_at_once = refl

joining : outcomes start
    ((0, store Append (codes "k") 7 (pos 9) 0 (codes "b")) ∷ (0, store Add (codes "k") 5 (pos 0) 0 (codes "a"))
    ∷ (0, store Add (codes "k") 5 (pos 0) 0 (codes "z"))
    ∷ (0, store Append (codes "k") 7 (pos 9) 0 (codes "b")) ∷ (0, store Prepend (codes "k") 7 (negsuc 0) 0 (codes "c"))
    ∷ (0, store Replace (codes "z") 0 (pos 0) 0 (codes "z")) ∷ (0, get (codes "k")) ∷ [])
    ≡ NotStored ∷ Stored ∷ NotStored ∷ Stored ∷ Stored ∷ NotStored ∷ one (codes "k") 5 (codes "cab") 3 ∷ []
unfolding empty_sketch hash place_of raised aged recorded freq width_of
joining = refl

-- two equal keys with a due in the past: the first is a hit, the second a miss
past_due : outcomes start
    ((0, set (codes "k") (pos 0) (codes "x")) ∷ (0, Gat Bare (negsuc 0) (codes "k" ∷ codes "k" ∷ [])) ∷ (0, get (codes "k")) ∷ [])
    ≡ Stored ∷ one (codes "k") 0 (codes "x") 1 ∷ miss ∷ []
unfolding empty_sketch hash place_of raised aged recorded freq width_of
past_due = refl

-- so heavy that main has room for two of them
abbrev big : List ℕ → Command
big key = set key (pos 0) (replicate 30000 120)

five_evictions : outcomes start
    ((0, big (codes "a")) ∷ (0, big (codes "b")) ∷ (0, big (codes "c")) ∷ (0, big (codes "c"))
    ∷ (0, touch (codes "b") (pos 0)) ∷ (0, touch (codes "b") (pos 0)) ∷ (0, touch (codes "b") (pos 0))
    ∷ (0, big (codes "a")) ∷ (0, big (codes "d")) ∷ (0, big (codes "a"))
    ∷ (0, delete (codes "a")) ∷ (0, delete (codes "b")) ∷ (0, delete (codes "c")) ∷ (0, delete (codes "d")) ∷ [])
    ≡ Stored ∷ Stored ∷ Stored ∷ Stored ∷ Touched ∷ Touched ∷ Touched ∷ Stored ∷ Stored ∷ Stored ∷ Deleted ∷ Deleted ∷ NotFound
    ∷ NotFound ∷ []
unfolding empty_sketch hash place_of raised aged recorded freq width_of
five_evictions = refl

-- a look-up that misses counts in the sketch
misses_count : outcomes start
    ((0, big (codes "a")) ∷ (0, big (codes "b")) ∷ (0, get (codes "c")) ∷ (0, big (codes "c")) ∷ (0, delete (codes "a"))
    ∷ (0, delete (codes "c")) ∷ [])
    ≡ Stored ∷ Stored ∷ miss ∷ Stored ∷ NotFound ∷ Deleted ∷ []
unfolding empty_sketch hash place_of raised aged recorded freq width_of
misses_count = refl

-- two more of a third of main each: an access goes back to probation, one expires in between, and the last of probation falls
abbrev third : List ℕ → ℤ → Command
third key exptime = set key exptime (replicate 19935 120)

expired_in_between : outcomes start
    ((100, third (codes "p") (pos 0)) ∷ (100, third (codes "e") (pos 10)) ∷ (100, third (codes "q") (pos 0))
    ∷ (100, touch (codes "p") (pos 0)) ∷ (100, touch (codes "e") (pos 10)) ∷ (100, get (codes "q"))
    ∷ (110, third (codes "n") (pos 0)) ∷ (110, third (codes "m") (pos 0)) ∷ (110, third (codes "m") (pos 0))
    ∷ (110, third (codes "m") (pos 0))
    ∷ (110, delete (codes "p")) ∷ (110, delete (codes "n")) ∷ (110, delete (codes "q")) ∷ (110, delete (codes "m"))
    ∷ (110, delete (codes "e")) ∷ [])
    ≡ Stored ∷ Stored ∷ Stored ∷ Touched ∷ Touched ∷ one (codes "q") 0 (replicate 19935 120) 3 ∷ Stored ∷ Stored ∷ Stored ∷ Stored
    ∷ NotFound ∷ Deleted ∷ Deleted ∷ Deleted ∷ NotFound ∷ []
unfolding empty_sketch hash place_of raised aged recorded freq width_of
expired_in_between = refl

-- as heavy as main, and a byte more
too_heavy : outcomes start
    ((0, set (codes "k") (pos 0) (replicate 64817 120)) ∷ (0, delete (codes "k"))
    ∷ (0, set (codes "k") (pos 0) (replicate 64816 120)) ∷ (0, delete (codes "k")) ∷ [])
    ≡ TooLarge ∷ NotFound ∷ Stored ∷ Deleted ∷ []
unfolding empty_sketch hash place_of raised aged recorded freq width_of
too_heavy = refl

small_items : outcomes (fresh 65536 3)
    ((0, set (codes "k") (pos 0) (codes "abcd")) ∷ (0, set (codes "k") (pos 0) (codes "abc"))
    ∷ (0, store Append (codes "k") 0 (pos 0) 0 (codes "d"))
    ∷ (0, set (codes "n") (pos 0) (codes "9")) ∷ (0, incr (codes "n") 9999) ∷ (0, get (codes "n")) ∷ [])
    ≡ TooLarge ∷ Stored ∷ TooLarge ∷ Stored ∷ Number 10008 ∷ one (codes "n") 0 (codes "10008") 3 ∷ []
unfolding digits number_in empty_sketch hash place_of raised aged recorded freq width_of
small_items = refl
