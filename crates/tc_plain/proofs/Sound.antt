-- Entries that are placed, and areas that settle, keep each area within its limit, each entry light and each key held once.
use Rattle.std.specs.Prelude.{filter, All, not, is_some, sum_by}
use Rattle.std.proofs.Common.{◌≡◌, ℕ, ◌≤◌, Bool, true, false, cond, List, [], ◌∷◌, Option, Some, None, refl, sym, ap, subst}
use Rattle.std.proofs.Common.{arith}
use Rattle.std.proofs.lemmas.Slice.Eq.{bytes_eq-Decides}
use Rattle.std.proofs.lemmas.List.Sums.{sum_by-cons}
use Rattle.tc_model.specs.Areas.{Areas, Limits, accessed, without, settle}
use Rattle.tc_model.specs.Within.{IsWithin}
use Rattle.tc_model.proofs.Every.{Every, Every-filter, every_of_all, all_of_every, EveryIn, EveryIn-settle, EveryIn-accessed}
use Rattle.tc_model.proofs.Within.{settles_within, settles_once}
use Rattle.tc_model.proofs.Accessed.{accessed_within}
use Rattle.tc_model.proofs.Totals.{sum-filter-le, total-settle, total-accessed}
use Rattle.tc_plain.specs.declared.shared.entry.Entry.{Entry}
use Rattle.tc_plain.specs.Entries.{weight, lives, has_key, with_item}
use Rattle.tc_plain.specs.EvictionState.{EvictionState, filtered, held, entries_of, no_entries, is_flush_due, at_moment}
use Rattle.tc_plain.specs.Placing.{frequency, at_front, put_in, without_key, placed, used}
use Rattle.tc_plain.specs.Soundness.{count_under, AreSound, HitDropsNothing}
use Rattle.tc_plain.proofs.Held.{found, missed, all_of, in_areas, not_false}

-- an entry fits in main
abbrev pub IsLight : Limits → Entry → Type 0
IsLight limits e = weight e ≤ limits.main

pub light_in : (limits : Limits) (a : Areas Entry) → AreSound limits a → EveryIn (IsLight limits) a
light_in limits a h = in_areas (IsLight limits) a (every_of_all (IsLight limits) (entries_of a) h.light)

all_light : (limits : Limits) (a : Areas Entry) → EveryIn (IsLight limits) a → All (IsLight limits) (entries_of a)
all_light limits a h = all_of_every (IsLight limits) (entries_of a) (all_of (IsLight limits) a h)

-- what is held under a key is light, and under this key
pub held_light : (limits : Limits) (key : List ℕ) (a : Areas Entry) (e : Entry) → held key a ≡ Some e → AreSound limits a
    → (e.key ≡ key) × IsLight limits e
held_light limits key a e f h =
    let r = found (IsLight limits) (has_key key) (entries_of a) e f (every_of_all (IsLight limits) (entries_of a) h.light) in
    ((bytes_eq-Decides e.key key).0 r.0, r.1)

-- how many are under a key, among none of them
none_under : (key : List ℕ) (xs : List Entry) → Every (λ x. has_key key x ≡ false) xs
    → sum_by (λ e. cond (has_key key e) 1 0) xs ≡ 0
none_under key [] h = refl
none_under key (x ∷ xs) h =
    let f : Entry → ℕ = λ e. cond (has_key key e) 1 0 in
    let here : f x ≡ 0 = rw h.0 refl in
    omega (arith, sum_by-cons f x xs, here, none_under key xs h.1)

within_kept : (limits : Limits) (a : Areas Entry) (p : Entry → Bool) → IsWithin weight limits a
    → IsWithin weight limits (filtered p a)
within_kept limits a p h =
    let main = h.main in
    record {
      window = omega (arith, sum-filter-le weight p a.window, h.window);
      main = omega (arith, sum-filter-le weight p a.probation, sum-filter-le weight p a.protected);
      protected = omega (arith, sum-filter-le weight p a.protected, h.protected);
    }

light_kept : (limits : Limits) (a : Areas Entry) (p : Entry → Bool) → EveryIn (IsLight limits) a
    → EveryIn (IsLight limits) (filtered p a)
light_kept limits a p l =
    let same : (xs : List Entry) → Every (IsLight limits) xs → Every (IsLight limits) (filter p xs) =
    λ xs g. Every-filter (IsLight limits) (IsLight limits) p (λ x t w. w) xs g in
    record { window = same a.window l.window; probation = same a.probation l.probation; protected = same a.protected l.protected }

once_kept : (a : Areas Entry) (p : Entry → Bool) (key : List ℕ) → count_under key a ≤ 1 → count_under key (filtered p a) ≤ 1
once_kept a p key h =
    let f : Entry → ℕ = λ e. cond (has_key key e) 1 0 in
    omega (arith, sum-filter-le f p a.window, sum-filter-le f p a.probation, sum-filter-le f p a.protected, h)

pub sound_kept : (limits : Limits) (a : Areas Entry) (p : Entry → Bool) → AreSound limits a → AreSound limits (filtered p a)
sound_kept limits a p h = record {
  within = within_kept limits a p h.within;
  light = all_light limits (filtered p a) (light_kept limits a p (light_in limits a h));
  once = λ key. once_kept a p key (h.once key);
}

pub sound_none : (limits : Limits) → AreSound limits no_entries
sound_none limits = record {
  within = record { window = omega arith; main = omega arith; protected = omega arith };
  light = all_of_every (IsLight limits) [] tt;
  once = λ key. omega arith;
}

pub sound_at_moment : (m : ℕ) (l : EvictionState) → AreSound l.limits l.areas
    → AreSound l.limits (at_moment m l).areas × ((at_moment m l).limits ≡ l.limits)
sound_at_moment m l h = go (is_flush_due l.flush m)
  where
    Both : EvictionState → Type 0
    Both j = AreSound l.limits j.areas × (j.limits ≡ l.limits)

    go : (b : Bool)
        → AreSound l.limits (cond b (record l { areas = no_entries; flush = None; moment = m })
        (record l { areas = filtered (lives m) l.areas; moment = m })).areas
        × ((cond b (record l { areas = no_entries; flush = None; moment = m })
        (record l { areas = filtered (lives m) l.areas; moment = m })).limits
        ≡ l.limits)
    go true = (sound_none l.limits, refl)
    go false = (sound_kept l.limits l.areas (lives m) h, refl)

-- where its key's entry is taken out or wasn't there, one more makes one
pub once_put : (limits : Limits) (e : Entry) (a : Areas Entry) → AreSound limits a → (key : List ℕ)
    → count_under key (put_in limits e a) ≤ 1
once_put limits e a h key = go (held e.key a) refl (has_key key e) refl
  where
    go : (o : Option Entry) → held e.key a ≡ o → (b : Bool) → has_key key e ≡ b
        → count_under key (cond (is_some o) (accessed weight limits (has_key e.key) e a) (at_front e a)) ≤ 1
    go None n true t =
        let c : Entry → ℕ = λ x. cond (has_key key x) 1 0 in
        let own : c e ≡ 1 = rw t refl in
        let same : e.key ≡ key = (bytes_eq-Decides e.key key).0 t in
        let off : EveryIn (λ x. has_key key x ≡ false) a =
        in_areas (λ x. has_key key x ≡ false) a
        (missed (IsLight limits) (λ x. has_key key x ≡ false) (has_key e.key) (entries_of a) n
        (λ x q w. subst (λ y. has_key y x ≡ false) same q) (every_of_all (IsLight limits) (entries_of a) h.light)) in
        omega (
          arith,
          sum_by-cons c e a.window,
          own,
          none_under key a.window off.window,
          none_under key a.probation off.probation,
          none_under key a.protected off.protected,
        )
    go None n false t =
        let c : Entry → ℕ = λ x. cond (has_key key x) 1 0 in
        let own : c e ≡ 0 = rw t refl in
        omega (arith, sum_by-cons c e a.window, own, h.once key)
    go (Some x) n true t =
        let c : Entry → ℕ = λ x. cond (has_key key x) 1 0 in
        let own : c e ≡ 1 = rw t refl in
        let same : e.key ≡ key = (bytes_eq-Decides e.key key).0 t in
        let l = light_in limits a h in
        let off : (xs : List Entry) → Every (IsLight limits) xs
        → Every (λ x. has_key key x ≡ false) (without (has_key e.key) xs) =
        λ xs w. Every-filter (IsLight limits) (λ x. has_key key x ≡ false) (λ x. not (has_key e.key x))
        (λ x q v. subst (λ y. has_key y x ≡ false) same (not_false (has_key e.key x) q)) xs w in
        omega (
          arith,
          total-accessed c weight limits (has_key e.key) e a,
          own,
          none_under key (without (has_key e.key) a.window) (off a.window l.window),
          none_under key (without (has_key e.key) a.probation) (off a.probation l.probation),
          none_under key (without (has_key e.key) a.protected) (off a.protected l.protected),
        )
    go (Some x) n false t =
        let c : Entry → ℕ = λ x. cond (has_key key x) 1 0 in
        let own : c e ≡ 0 = rw t refl in
        let p : Entry → Bool = λ x. not (has_key e.key x) in
        omega (
          arith,
          total-accessed c weight limits (has_key e.key) e a,
          own,
          h.once key,
          sum-filter-le c p a.window,
          sum-filter-le c p a.probation,
          sum-filter-le c p a.protected,
        )

light_put : (limits : Limits) (e : Entry) (a : Areas Entry) → IsLight limits e → EveryIn (IsLight limits) a
    → EveryIn (IsLight limits) (put_in limits e a)
light_put limits e a w h = go (is_some (held e.key a))
  where
    go : (b : Bool) → EveryIn (IsLight limits) (cond b (accessed weight limits (has_key e.key) e a) (at_front e a))
    go true = EveryIn-accessed (IsLight limits) (IsLight limits) weight limits (has_key e.key) e a (λ y q v. v) w h
    go false = record { window = (w, h.window); probation = h.probation; protected = h.protected }

once_placed : (l : EvictionState) (e : Entry) → AreSound l.limits l.areas → (key : List ℕ) → count_under key (placed l e) ≤ 1
once_placed l e h key = go (lives l.moment e)
  where
    go : (b : Bool) → count_under key (cond b (put_in l.limits e l.areas) (without_key e.key l.areas)) ≤ 1
    go true = once_put l.limits e l.areas h key
    go false = once_kept l.areas (λ x. not (has_key e.key x)) key (h.once key)

light_placed : (l : EvictionState) (e : Entry) → IsLight l.limits e → AreSound l.limits l.areas
    → EveryIn (IsLight l.limits) (placed l e)
light_placed l e w h = go (lives l.moment e)
  where
    go : (b : Bool) → EveryIn (IsLight l.limits) (cond b (put_in l.limits e l.areas) (without_key e.key l.areas))
    go true = light_put l.limits e l.areas w (light_in l.limits l.areas h)
    go false = light_kept l.limits l.areas (λ x. not (has_key e.key x)) (light_in l.limits l.areas h)

-- an entry no heavier than what its key holds leaves the areas within their limits
within_placed : (l : EvictionState) (e old : Entry) → held e.key l.areas ≡ Some old → weight e ≤ weight old
    → AreSound l.limits l.areas → IsWithin weight l.limits (placed l e)
within_placed l e old f lighter h = go (lives l.moment e)
  where
    put : put_in l.limits e l.areas ≡ accessed weight l.limits (has_key e.key) e l.areas
    put = ap (λ o. cond (is_some o) (accessed weight l.limits (has_key e.key) e l.areas) (at_front e l.areas)) f

    go : (b : Bool) → IsWithin weight l.limits (cond b (put_in l.limits e l.areas) (without_key e.key l.areas))
    go true =
        subst (λ a. IsWithin weight l.limits a) (sym put)
        (accessed_within weight l.limits (has_key e.key) e old l.areas f lighter h.within)
    go false = within_kept l.limits l.areas (λ x. not (has_key e.key x)) h.within

-- a hit may be used
pub sound_hit : (l : EvictionState) (e old : Entry) → held e.key l.areas ≡ Some old → weight e ≤ weight old
    → AreSound l.limits l.areas → AreSound l.limits (used e l).areas
sound_hit l e old f lighter h =
    let heavy : IsLight l.limits old = (held_light l.limits e.key l.areas old f h).1 in
    record {
      within = within_placed l e old f lighter h;
      light = all_light l.limits (placed l e) (light_placed l e (omega (arith, lighter, heavy)) h);
      once = λ key. once_placed l e h key;
    }

-- an entry that fits in main may be placed, and the areas settled
pub sound_settled : (l : EvictionState) (e : Entry) (freq : Entry → ℕ) → IsLight l.limits e → AreSound l.limits l.areas
    → AreSound l.limits (settle weight freq l.limits (placed l e)).areas
sound_settled l e freq w h =
    let p = light_placed l e w h in
    record {
      within =
          settles_within Entry weight freq l.limits (placed l e) (all_of_every (IsLight l.limits) (placed l e).window p.window);
      light =
          all_light l.limits (settle weight freq l.limits (placed l e)).areas
          (EveryIn-settle (IsLight l.limits) weight freq l.limits (placed l e) p);
      once =
          λ key. let f : Entry → ℕ = λ e. cond (has_key key e) 1 0 in
          omega (arith, total-settle f weight freq l.limits (placed l e), once_placed l e h key);
    }

pub hit_drops_nothing : HitDropsNothing
hit_drops_nothing k e change h f same =
    let x : Entry = with_item e (change e.item) in
    let l : EvictionState = used x k.live in
    settles_once Entry weight (frequency l) l.limits l.areas (sound_hit k.live x e f (omega (arith, same)) h.areas).within
