-- What look-ups touch, advanced twice, is as advanced to the later moment, and each command first advances.
use Rattle.std.specs.Prelude.{max, filter}
use Rattle.std.proofs.Common.{◌≡◌, ℕ, ◌≤◌, Bool, true, false, cond, List, [], ◌∷◌, Option, Some, None, refl, sym, ap, arith}
use Rattle.tc_model.specs.Areas.{Areas}
use Rattle.tc_model.specs.Caching.{IsLawful}
use Rattle.tc_item.specs.declared.moment.Due.{Due}
use Rattle.tc_item.specs.declared.moment.Due.TheVariants.{Never, At}
use Rattle.tc_item.specs.Expiry.{is_before}
use Rattle.tc_plain.specs.declared.shared.entry.Entry.{Entry}
use Rattle.tc_plain.specs.Entries.{lives}
use Rattle.tc_plain.specs.EvictionState.{EvictionState, no_entries, filtered, is_flush_due, at_moment, advanced}
use Rattle.tc_plain.specs.Doing.{done, with_note}
use Rattle.tc_plain.specs.Laws.{AdvancesOnce, ActsAdvanced, user_caching}
use Rattle.std.proofs.lemmas.Bool.{leb-true, le-leb, ltb-true, lt-ltb}

-- what is before a due later is before it now
pub is_before-earlier : (m n : ℕ) (due : Due) → m ≤ n → is_before n due ≡ true → is_before m due ≡ true
is_before-earlier m n Never le h = refl
is_before-earlier m n (At d) le h = lt-ltb m d (omega (arith, ltb-true n d h))

-- to filter by a weaker test first changes nothing
filter-filter : {A : Type 0} (p q : A → Bool) → ((x : A) → q x ≡ true → p x ≡ true) → (xs : List A)
    → filter q (filter p xs) ≡ filter q xs
filter-filter p q h [] = refl
filter-filter {A} p q h (x ∷ xs) = go (p x) (q x) refl (h x) (filter-filter p q h xs)
  where
    go : (a b : Bool) → q x ≡ b → (b ≡ true → a ≡ true) → filter q (filter p xs) ≡ filter q xs
        → filter q (cond a (x ∷ filter p xs) (filter p xs)) ≡ cond b (x ∷ filter q xs) (filter q xs)
    go true true e f ih = rw e (ap (λ ys. x ∷ ys) ih)
    go true false e f ih = rw e ih
    go false true e f ih = absurd (grind (arith, f refl))
    go false false e f ih = ih

-- a flush that is due stays due
pub is_flush_due-later : (m n : ℕ) (f : Option ℕ) → m ≤ n → is_flush_due f m ≡ true → is_flush_due f n ≡ true
is_flush_due-later m n None le h = h
is_flush_due-later m n (Some d) le h = le-leb d n (omega (arith, leb-true d m h))

kept-kept : (m n : ℕ) (a : Areas Entry) → m ≤ n → filtered (lives n) (filtered (lives m) a) ≡ filtered (lives n) a
kept-kept m n a le =
    let f : (xs : List Entry) → filter (lives n) (filter (lives m) xs) ≡ filter (lives n) xs =
    filter-filter (lives m) (lives n) (λ e. is_before-earlier m n e.item.due le) in
    rw (f a.window, f a.probation, f a.protected) refl

pub moment-at_moment : (m : ℕ) (l : EvictionState) → (at_moment m l).moment ≡ m
moment-at_moment m l = go (is_flush_due l.flush m)
  where
    go : (b : Bool)
        → (cond b (record l { areas = no_entries; flush = None; moment = m })
        (record l { areas = filtered (lives m) l.areas; moment = m })).moment
        ≡ m
    go true = refl
    go false = refl

pub limits-at_moment : (m : ℕ) (l : EvictionState) → (at_moment m l).limits ≡ l.limits
limits-at_moment m l = go (is_flush_due l.flush m)
  where
    go : (b : Bool)
        → (cond b (record l { areas = no_entries; flush = None; moment = m })
        (record l { areas = filtered (lives m) l.areas; moment = m })).limits
        ≡ l.limits
    go true = refl
    go false = refl

pub at_moment-at_moment : (m n : ℕ) (l : EvictionState) → m ≤ n → at_moment n (at_moment m l) ≡ at_moment n l
at_moment-at_moment m n l le = go (is_flush_due l.flush m) (is_flush_due l.flush n) refl (is_flush_due-later m n l.flush le)
  where
    go : (a b : Bool) → is_flush_due l.flush n ≡ b → (a ≡ true → b ≡ true)
        → at_moment n (cond a (record l { areas = no_entries; flush = None; moment = m })
        (record l { areas = filtered (lives m) l.areas; moment = m }))
        ≡ cond b (record l { areas = no_entries; flush = None; moment = n })
        (record l { areas = filtered (lives n) l.areas; moment = n })
    go true true e f = refl
    go true false e f = absurd (grind (arith, f refl))
    go false true e f = rw e refl
    go false false e f = rw (e, kept-kept m n l.areas le) refl

pub advanced-advanced : (l : EvictionState) (m n : ℕ) → m ≤ n → advanced (advanced l m) n ≡ advanced l n
advanced-advanced l m n le =
    rw (moment-at_moment (max l.moment m) l)
    (let same : max (max l.moment m) n ≡ max l.moment n = omega arith in
    rw same (at_moment-at_moment (max l.moment m) (max l.moment n) l (omega arith)))

pub advances_once : AdvancesOnce
advances_once k m n le = ap (λ l. record k { live = l }) (advanced-advanced k.live m n le)

pub acts_advanced : ActsAdvanced
acts_advanced k m command = ap (λ j. with_note command (done j command)) (sym (advances_once k m m (omega arith)))

-- the cache is lawful, so that a server over it isolates its users
pub is_lawful : IsLawful user_caching
is_lawful = record { twice = advances_once; first = acts_advanced }
