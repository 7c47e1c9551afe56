-- Each hit among a book's entries is what the entries before it last left.
use Rattle.std.proofs.Common.{◌≡◌, List, [], ◌∷◌, ◌++◌, ap, ◌∙◌, subst}
use Rattle.std.proofs.lemmas.List.{map-append}
use Rattle.tc_model.specs.Caching.{Event, Replays}
use Rattle.tc_grammar.specs.declared.command.Command.{Command}
use Rattle.tc_stats.specs.declared.outcome.Outcome.{Outcome}
use Rattle.tc_plain.specs.UserCache.{UserCache, fresh}
use Rattle.tc_plain.specs.Laws.{user_caching}
use Rattle.tc_plain.proofs.Cells.{is_fresh}
use Rattle.tc_locked.specs.Books.{event_of, events_of}
use Rattle.tc_locked.specs.HallBooks.{Terms, HallBookState, IsHallBook, entries_in}
use Rattle.tc_locked.specs.Closing.{AreHallBooks, ShowsFresh, AllFresh}

shows_fresh : (terms : Terms) (k : HallBookState) → IsHallBook terms k → ShowsFresh k
shows_fresh terms k h before after e is =
    let events : events_of (entries_in k.log) ≡ events_of before ++ event_of e ∷ events_of after =
    ap events_of is ∙ map-append event_of before (e ∷ after) in
    let all : Replays user_caching 0 (fresh h.empty.0 h.empty.1) (events_of before ++ event_of e ∷ events_of after) =
    subst (λ (x : UserCache × List (Event Command Outcome)). Replays user_caching 0 x.0 x.1)
    (λ i. (h.empty.2 i, events i)) h.whole.replays in
    is_fresh h.empty.0 h.empty.1 (events_of before) (events_of after) (event_of e) all

pub all_fresh : (terms : Terms) (ks : List HallBookState) → AreHallBooks terms ks → AllFresh ks
all_fresh terms [] h = tt
all_fresh terms (k ∷ ks) h = (shows_fresh terms k h.0, all_fresh terms ks h.1)
