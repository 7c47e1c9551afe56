-- What a cache answers to a command is an outcome that the command can come to.
use Rattle.std.specs.Prelude.{ℤ, ◌+◌, cond, ◌||◌, ◌==◌}
use Rattle.std.proofs.Common.{◌≡◌, ◌≢◌, ℕ, Bool, true, false, List, Option, Some, None, refl}
use Rattle.tc_item.specs.declared.moment.Due.{Due}
use Rattle.tc_item.specs.declared.item.Item.{Item}
use Rattle.tc_item.specs.Expiry.{due_of}
use Rattle.tc_counter.specs.CounterText.{number_in}
use Rattle.tc_grammar.specs.declared.command.StoreKind.{StoreKind}
use Rattle.tc_grammar.specs.declared.command.StoreKind.TheVariants.{Set, Add, Replace, Append, Prepend, Cas}
use Rattle.tc_grammar.specs.declared.command.Way.{Way}
use Rattle.tc_grammar.specs.declared.command.Command.{Command}
use Rattle.tc_grammar.specs.declared.command.Command.TheVariants.{Store, Get, Gat, Delete, Count, Touch, Flush, Stats as AskStats}
use Rattle.tc_grammar.specs.declared.command.Command.TheVariants.{Version as AskVersion, Verbosity, Quit}
use Rattle.tc_stats.specs.declared.outcome.Outcome.{Outcome}
use Rattle.tc_stats.specs.declared.outcome.Outcome.TheVariants.{Stored, TooLarge, CasWorn, Exists, Number}
use Rattle.tc_plain.specs.declared.shared.entry.Entry.{Entry}
use Rattle.tc_plain.specs.EvictionState.{held}
use Rattle.tc_plain.specs.UserCache.{UserCache, advance}
use Rattle.tc_plain.specs.Storing.{Offered, Refused, offer_by, accepted, stored, changed, is_too_large, is_worn}
use Rattle.tc_plain.specs.Storing.{item_of, item_under}
use Rattle.tc_plain.specs.Doing.{act, done, deleted, touched, counted, counted_to, counted_under}
use Rattle.tc_session.specs.Replies.{can_end, is_store_end, is_refusal}

offered-ends : (k : UserCache) (key : List ℕ) (item : Item) → is_store_end (accepted k key (Offered item)).0 ≡ true
offered-ends k key item = go (is_too_large k key item.blob) (is_worn k) k (changed (record { key = key; item = item }) k)
  where
    go : (large worn : Bool) (stays after : UserCache)
        → is_store_end (cond {A = Outcome × UserCache} large (TooLarge, stays)
        (cond worn (CasWorn, stays) (Stored, after))).0 ≡ true
    go true worn stays after = refl
    go false true stays after = refl
    go false false stays after = refl

store-ends : (kind : StoreKind) (unique : ℕ) (new : Item) (old : Option Item) (k : UserCache) (key : List ℕ)
    → (is_store_end (accepted k key (offer_by kind unique new old)).0
    || is_refusal kind (accepted k key (offer_by kind unique new old)).0) ≡ true
store-ends Set unique new old k key = rw (offered-ends k key new) refl
store-ends Add unique new None k key = rw (offered-ends k key new) refl
store-ends Add unique new (Some i) k key = refl
store-ends Replace unique new None k key = refl
store-ends Replace unique new (Some i) k key = rw (offered-ends k key new) refl
store-ends Append unique new None k key = refl
store-ends Append unique new (Some i) k key = rw (offered-ends k key _) refl
store-ends Prepend unique new None k key = refl
store-ends Prepend unique new (Some i) k key = rw (offered-ends k key _) refl
store-ends Cas unique new None k key = refl
store-ends Cas unique new (Some i) k key = go (i.cas == unique)
  where
    go : (b : Bool) → (is_store_end (accepted k key (cond b (Offered new) (Refused Exists))).0
        || is_refusal Cas (accepted k key (cond b (Offered new) (Refused Exists))).0) ≡ true
    go true = rw (offered-ends k key new) refl
    go false = refl

deleted-ends : (key : List ℕ) (quiet : Bool) (o : Option Entry) (k : UserCache)
    → can_end (Delete key quiet) (deleted key o k).0 ≡ true
deleted-ends key quiet None k = refl
deleted-ends key quiet (Some e) k = refl

touched-ends : (due : Due) (key : List ℕ) (exptime : ℤ) (quiet : Bool) (o : Option Entry) (k : UserCache)
    → can_end (Touch key exptime quiet) (touched due key o k).0 ≡ true
touched-ends due key exptime quiet None k = refl
touched-ends due key exptime quiet (Some e) k = refl

counted-ends : (way : Way) (by : ℕ) (key : List ℕ) (value : ℕ) (quiet : Bool) (o : Option Entry) (k : UserCache)
    → can_end (Count way key value quiet) (counted_under way by o k).0 ≡ true
counted-ends way by key value quiet None k = refl
counted-ends way by key value quiet (Some e) k = go (number_in e.item.blob)
  where
    taken : (worn : Bool) (number : ℕ) (stays after : UserCache)
        → can_end (Count way key value quiet)
        (cond {A = Outcome × UserCache} worn (CasWorn, stays) (Number number, after)).0 ≡ true
    taken true number stays after = refl
    taken false number stays after = refl

    go : (number : Option ℕ) → can_end (Count way key value quiet) (counted_to way by k e number).0 ≡ true
    go None = refl
    go (Some number) = taken (is_worn k) (counted way number by) k _

done-ends : (k : UserCache) (command : Command) → command ≢ Quit → can_end command (done k command).0 ≡ true
done-ends k (Store head blob) run =
    store-ends head.kind head.cas_unique (item_of head blob k.live.moment (k.last + 1)) (item_under head.key k) k head.key
done-ends k (Get form keys) run = refl
done-ends k (Gat form exptime keys) run = refl
done-ends k (Delete key quiet) run = deleted-ends key quiet (held key k.live.areas) k
done-ends k (Count way key value quiet) run = counted-ends way value key value quiet (held key k.live.areas) k
done-ends k (Touch key exptime quiet) run =
    touched-ends (due_of exptime k.live.moment) key exptime quiet (held key k.live.areas) k
done-ends k (Flush delay quiet) run = refl
done-ends k AskStats run = refl
done-ends k AskVersion run = refl
done-ends k (Verbosity level quiet) run = refl
done-ends k Quit run = absurd (run refl)

pub act-ends : (k : UserCache) (moment : ℕ) (command : Command) (outcome : Outcome) → command ≢ Quit
    → outcome ≡ (act k moment command).0 → can_end command outcome ≡ true
act-ends k moment command outcome run e = rw e (done-ends (advance k moment) command run)
