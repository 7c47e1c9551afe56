-- Places of keys that were sought, one after another.
use Rattle.std.proofs.Common.{◌≡◌, ℕ, zero, suc, ◌<◌, List, [], ◌∷◌, length, get_or, Option, None, sym, ◌∙◌, ap, subst}
use Rattle.std.proofs.Common.{Bool, true, false, cond, Some, refl, arith}
use Rattle.std.specs.Str.{bytes_eq}
use Rattle.std.proofs.lemmas.Slice.Eq.{bytes_eq-Decides}
use Rattle.tc_item.specs.declared.slot.Slot.{Slot}
use Rattle.tc_plain.specs.declared.shared.entry.Entry.{Entry}
use Rattle.tc_plain.specs.EvictionState.{EvictionState, held, at_moment}
use Rattle.tc_item.specs.declared.item.Item.{Item}
use Rattle.tc_plain.specs.Entries.{lives, with_item}
use Rattle.tc_plain.specs.Doing.{looked_up}
use Rattle.tc_plain.specs.Soundness.{AreSound}
use Rattle.tc_plain.proofs.Asked.{held-used}
use Rattle.tc_plain.proofs.Used.{held_key}
use Rattle.tc_partition.specs.LiveSlots.{live_of}
use Rattle.tc_partition.specs.declared.live_slots.LiveSlots.{LiveSlots}
use Rattle.tc_partition.specs.WaitingSlots.{SeeksSlot, AreSought}
use Rattle.tc_partition.specs.Seeking.{SeekSlots}

-- where keys were found, one with no place holds nothing
pub found_sought : (m : ℕ) (keys : List (List ℕ)) (found : List (Option Slot)) (s : LiveSlots) → SeekSlots m keys found s
    → AreSought keys found (at_moment m (live_of s))
found_sought m [] [] s h = tt
found_sought m [] (p ∷ found) s h = absurd h
found_sought m (k ∷ keys) [] s h = absurd h
found_sought m (k ∷ keys) (p ∷ found) s h =
    (λ none. subst (λ o. SeeksSlot o m k s) none h.0, found_sought m keys found s h.1)

-- as many places as keys
pub sought_long : (keys : List (List ℕ)) (places : List (Option Slot)) (l : EvictionState) → AreSought keys places l
    → length places ≡ length keys
sought_long [] [] l h = omega arith
sought_long [] (p ∷ places) l h = absurd h
sought_long (k ∷ keys) [] l h = absurd h
sought_long (k ∷ keys) (p ∷ places) l h = let rest = sought_long keys places l h.1 in omega (arith, rest)

-- what a key with no place holds
pub sought_at : (keys : List (List ℕ)) (places : List (Option Slot)) (l : EvictionState) (n : ℕ) (d : List ℕ) (e : Option Slot)
    → AreSought keys places l → n < length keys → get_or places n e ≡ None → held (get_or keys n d) l.areas ≡ None
sought_at [] places l n d e h lt none = absurd (omega (arith, lt))
sought_at (k ∷ keys) [] l n d e h lt none = absurd h
sought_at (k ∷ keys) (p ∷ places) l zero d e h lt none = h.0 none
sought_at (k ∷ keys) (p ∷ places) l (suc n) d e h lt none = sought_at keys places l n d e h.1 (omega (arith, lt)) none

-- where what holds nothing still does
pub sought_less : (keys : List (List ℕ)) (places : List (Option Slot)) (l j : EvictionState)
    → ((q : List ℕ) → held q l.areas ≡ None → held q j.areas ≡ None) → AreSought keys places l → AreSought keys places j
sought_less [] [] l j f h = tt
sought_less [] (p ∷ places) l j f h = absurd h
sought_less (k ∷ keys) [] l j f h = absurd h
sought_less (k ∷ keys) (p ∷ places) l j f h = (λ none. f k (h.0 none), sought_less keys places l j f h.1)

-- a look-up puts nothing under a key that holds nothing
pub unheld-looked_up : (change : Item → Item) (key q : List ℕ) (l : EvictionState) → AreSound l.limits l.areas
    → held q l.areas ≡ None → held q (looked_up change key (held key l.areas) l).1.areas ≡ None
unheld-looked_up change key q l sound none = go (held key l.areas) refl
  where
    go : (o : Option Entry) → held key l.areas ≡ o → held q (looked_up change key o l).1.areas ≡ None
    go None f = none
    go (Some e) f =
        let x : Entry = with_item e (change e.item) in
        let own : held e.key l.areas ≡ Some e = ap (λ k. held k l.areas) (held_key key l.areas e f) ∙ f in
        held-used l x e q (lives l.moment x) sound own refl
        ∙ at (bytes_eq e.key q) (cond (lives l.moment x) (Some x) None) refl own
      where
        at : (t : Bool) (o : Option Entry) → bytes_eq e.key q ≡ t → held e.key l.areas ≡ Some e
            → cond t o (held q l.areas) ≡ None
        at true o same own = absurd (cc (sym none ∙ ap (λ k. held k l.areas) (sym ((bytes_eq-Decides e.key q).0 same)) ∙ own))
        at false o same own = none
