-- What a plan comes to is what its command comes to.
use Rattle.std.specs.Prelude.{max, option_map, MatchOption}
use Rattle.std.proofs.Common.{◌≡◌, ◌≤◌, ℕ, ◌+◌, Bool, true, false, cond, List, Option, Some, None, refl, sym, ◌∙◌, ap, arith, Bor}
use Rattle.tc_model.specs.Areas.{Limits, total}
use Rattle.tc_item.specs.Bounds.{largest_budget}
use Rattle.tc_item.specs.declared.moment.Due.{Due}
use Rattle.tc_grammar.specs.declared.command.Head.{Head}
use Rattle.tc_stats.specs.declared.outcome.Outcome.{Outcome}
use Rattle.tc_stats.specs.declared.outcome.Outcome.TheVariants.{CasWorn}
use Rattle.tc_plain.specs.declared.shared.entry.Entry.{Entry}
use Rattle.tc_plain.specs.declared.shared.offers.Bid.{Bid}
use Rattle.tc_plain.specs.declared.shared.plans.Plan.{Plan}
use Rattle.tc_plain.specs.declared.shared.plans.Plan.TheVariants.{Ends, Changes}
use Rattle.tc_plain.specs.Entries.{weight}
use Rattle.tc_plain.specs.EvictionState.{limits_of, held, at_moment}
use Rattle.tc_plain.specs.Placing.{without_key}
use Rattle.tc_plain.specs.UserCache.{UserCache, advance}
use Rattle.tc_plain.specs.Storing.{item_of, offer_by, is_worn, changed, accepted, stored}
use Rattle.tc_plain.specs.Doing.{with_live, deleted, touched, looked_up}
use Rattle.tc_plain.specs.AreaLists.{change_of}
use Rattle.tc_plain.specs.Plans.{outcome_of, numbered, offer_of, planned, IsLightPlan}
use Rattle.tc_plain.specs.Soundness.{IsSound}
use Rattle.tc_plain.proofs.Advances.{moment-at_moment}
use Rattle.tc_plain.proofs.Stays.{sound_changed}
use Rattle.tc_plain.proofs.Used.{without_key-missed}

-- what is peeked at, as an item
peeked : (o : Option (Bor Entry)) (h : Option Entry) → MatchOption o (h ≡ None) (λ e. h ≡ Some e.now)
    → option_map (λ e. e.now.item) o ≡ option_map (λ e. e.item) h
peeked None h p = sym (ap (option_map (λ e. e.item)) p)
peeked (Some x) h p = sym (ap (option_map (λ e. e.item)) p)

-- what a storage line offers is stored
pub stored_by : (k : UserCache) (now m : ℕ) (head : Head) (blob key : List ℕ) (bid : Bid) (o : Option (Bor Entry))
    → m ≡ max k.live.moment now → key ≡ head.key
    → MatchOption o (held key (at_moment m k.live).areas ≡ None) (λ e. held key (at_moment m k.live).areas ≡ Some e.now)
    → ((cas : ℕ)
    → offer_of cas bid ≡ offer_by head.kind head.cas_unique (item_of head blob m cas) (option_map (λ e. e.now.item) o))
    → accepted (advance k now) head.key (offer_of (k.last + 1) bid) ≡ stored (advance k now) head blob
stored_by k now m head blob key bid o e same p q =
    let cas = k.last + 1 in
    let l = k.live in
    ap (accepted (advance k now) head.key) (q cas
    ∙ ap (offer_by head.kind head.cas_unique (item_of head blob m cas))
    (peeked o (held key (at_moment m l).areas) p ∙ ap (λ x. option_map (λ y. y.item) (held x (at_moment m l).areas)) same)
    ∙ ap
    (λ n. offer_by head.kind head.cas_unique (item_of head blob n cas)
    (option_map (λ e. e.item) (held head.key (at_moment m l).areas)))
    (sym (moment-at_moment m l))
    ∙ ap (λ n. offer_by head.kind head.cas_unique (item_of head blob (at_moment n l).moment cas)
    (option_map (λ e. e.item) (held head.key (at_moment n l).areas))) e)

-- a plan whose item fits in main leaves a sound cache sound
pub sound_planned : (k : UserCache) (plan : Plan) → IsLightPlan k.live.limits plan → IsSound k → IsSound (planned k plan).1
sound_planned k (Ends end) l h = h
sound_planned k (Changes end key draft) l h = go (is_worn k) refl
  where
    go : (b : Bool) → is_worn k ≡ b
        → IsSound (cond b (let r : Outcome × UserCache = (CasWorn, k) in r)
        (outcome_of end, changed (record { key = key; item = numbered (k.last + 1) draft }) k)).1
    go true w = h
    go false w = sound_changed (record { key = key; item = numbered (k.last + 1) draft }) k w l h

-- a sound cache weighs no more than its budget
pub weighs_little : (k : UserCache) → IsSound k → total weight k.live.areas ≤ largest_budget
weighs_little k h =
    let window : k.live.limits.window ≡ (limits_of k.budget).window = ap (λ (t : Limits). t.window) h.limits in
    let main : k.live.limits.main ≡ (limits_of k.budget).main = ap (λ (t : Limits). t.main) h.limits in
    let most = h.areas.within.main in
    omega (arith, window, main, most, h.areas.within.window, h.most_budget)

-- what a delete leaves
pub deleted_leaves : (key : List ℕ) (k : UserCache)
    → (deleted key (held key k.live.areas) k).1 ≡ with_live k (record k.live { areas = without_key key k.live.areas })
deleted_leaves key k = go (held key k.live.areas) refl
  where
    go : (o : Option Entry) → held key k.live.areas ≡ o
        → (deleted key o k).1 ≡ with_live k (record k.live { areas = without_key key k.live.areas })
    go None f = ap (λ a. with_live k (record k.live { areas = a })) (sym (without_key-missed key k.live.areas f))
    go (Some e) f = refl

-- a touch is a look-up that gives another due
pub touched_leaves : (due : Due) (key : List ℕ) (o : Option Entry) (k : UserCache)
    → (touched due key o k).1 ≡ with_live k (looked_up (change_of (Some due)) key o k.live).1
touched_leaves due key None k = refl
touched_leaves due key (Some e) k = refl
