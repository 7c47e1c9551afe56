use Rattle.std.specs.Prelude.{option_map, option_to_list, IfOk}
use Rattle.std.proofs.Common.{◌≡◌, ◌≤◌, ◌<◌, ℕ, List, [], ◌∷◌, ◌++◌, length, get_or, Option, Some, None, refl, sym, ◌∙◌, ap, subst}
use Rattle.std.proofs.Common.{Result, Ok, Err, arith}
use Rattle.tc_item.specs.declared.item.Item.{Item}
use Rattle.tc_plain.specs.declared.shared.entry.Entry.{Entry}
use Rattle.tc_plain.specs.Entries.{hit_of}
use Rattle.tc_plain.specs.EvictionState.{EvictionState, held, at_moment}
use Rattle.tc_plain.specs.Doing.{looked_up, all_looked_up}
use Rattle.tc_plain.specs.AreaLists.{change_of}
use Rattle.tc_partition.specs.LiveSlots.{live_of}
use Rattle.tc_partition.specs.Deferred.{peeked}
use Rattle.tc_partition.specs.WaitingSlots.{AreSought}
use Rattle.tc_partition.specs.Seeking.{SeekSlots}
use Rattle.tc_partition.proofs.Sought.{found_sought}
use Rattle.tc_partition.proofs.looking.seek_hits.Goals as goal

one_key : (keys : List (List ℕ)) (key : List ℕ) → 1 ≤ length keys → length keys < 2 → key ≡ get_or keys 0 key → key ∷ [] ≡ keys
one_key [] key some few first = absurd (grind arith)
one_key (k ∷ []) key some few first = ap (λ z. z ∷ []) first
one_key (k ∷ j ∷ keys) key some few first = absurd (grind arith)

one_shown : (change : Item → Item) (m : ℕ) (key : List ℕ) (l : EvictionState)
    → option_to_list (option_map hit_of (peeked m key l)) ≡ (all_looked_up change (key ∷ []) (at_moment m l)).0
one_shown change m key l = go (held key (at_moment m l).areas)
  where
    go : (o : Option Entry) → option_to_list (option_map hit_of o) ≡ (looked_up change key o (at_moment m l)).0 ++ []
    go None = refl
    go (Some e) = refl

if_ok : {T E : Type 0} {P Q : T → Type 0} (r : Result T E) → ((x : T) → P x → Q x) → IfOk r P → IfOk r Q
if_ok (Ok x) f p = f x p
if_ok (Err e) f p = tt

pub returns-in-len1-clause-hits : goal.returns-in-len1-clause-hits
returns-in-len1-clause-hits c =
    let l = live_of c.args.live.now in
    let m = c.args.moment in
    let change = change_of c.args.due in
    let one = one_key c.args.keys.now c.key-item.result c.in-len1.len_at_least c.in-len1.len_below c.key-item.is in
    if_ok c.seek_one.result
    (λ r h. h ∙ one_shown change m c.key-item.result l ∙ ap (λ ks. (all_looked_up change ks (at_moment m l)).0) one)
    c.seek_one.ensures.hits

pub returns-in-len1-clause-seen : goal.returns-in-len1-clause-seen
returns-in-len1-clause-seen c =
    let one = one_key c.args.keys.now c.key-item.result c.in-len1.len_at_least c.in-len1.len_below c.key-item.is in
    if_ok c.seek_one.result
    (λ r h. subst (λ ks. SeekSlots c.args.moment ks r.1.places.items c.args.live.now) one h) c.seek_one.ensures.seen

pub returns-in-len1-clause-places : goal.returns-in-len1-clause-places
returns-in-len1-clause-places c =
    let one = one_key c.args.keys.now c.key-item.result c.in-len1.len_at_least c.in-len1.len_below c.key-item.is in
    if_ok c.seek_one.result
    (λ r h. found_sought c.args.moment c.args.keys.now r.1.places.items c.args.live.now
    (subst (λ ks. SeekSlots c.args.moment ks r.1.places.items c.args.live.now) one h)) c.seek_one.ensures.seen

pub returns-clause-places : goal.returns-clause-places
returns-clause-places c =
    if_ok c.seek_many.result
    (λ r h. found_sought c.args.moment c.args.keys.now r.1.places.items c.args.live.now h) c.seek_many.ensures.seen
