-- Entries put back into areas: the last of them, and all that areas hold into areas that hold nothing.
use Rattle.std.specs.Prelude.{◌^◌, find, sum_by}
use Rattle.std.proofs.Common.{◌≡◌, ℕ, ◌+◌, ◌<◌, ◌≤◌, Bool, true, false, cond, List, [], ◌∷◌, ◌++◌, Some, None, refl, sym, ◌∙◌}
use Rattle.std.proofs.Common.{ap, subst, arith}
use Rattle.std.proofs.lemmas.List.{append-nil, append_assoc}
use Rattle.std.proofs.lemmas.List.Sums.{sum_by-append, sum_by-cons}
use Rattle.std.proofs.lemmas.Slice.Eq.{bytes_eq-Decides}
use Rattle.tc_model.specs.Areas.{Areas, Limits, total}
use Rattle.tc_model.proofs.Every.{Every, every_of_all, all_of_every}
use Rattle.tc_slru.specs.InAreas.{fronted_in, with_list}
use Rattle.tc_slru.specs.declared.area.Area.{Area}
use Rattle.tc_slru.specs.declared.area.Area.TheVariants.{Window, Probation, Protected}
use Rattle.tc_plain.specs.declared.shared.entry.Entry.{Entry}
use Rattle.tc_plain.specs.Entries.{weight, has_key}
use Rattle.tc_plain.specs.EvictionState.{held, entries_of, no_entries}
use Rattle.tc_plain.specs.Soundness.{AreSound, count_under}
use Rattle.tc_slots.specs.Rebuilt.{Fit, put_back}
use Rattle.tc_slots.proofs.Away.{three_same}
use Rattle.tc_slots.proofs.Filling.{total-fronted_in}

-- one for an entry under a key
abbrev under : List ℕ → Entry → ℕ
under key e = cond (has_key key e) 1 0

none_found : (p : Entry → Bool) (es : List Entry) → sum_by (λ e. cond (p e) 1 0) es ≡ 0 → find p es ≡ None
none_found p [] h = refl
none_found p (e ∷ es) h = go (p e) (sym (sum_by-cons (λ x. cond (p x) 1 0) e es) ∙ h) (none_found p es)
  where
    go : (b : Bool) → cond b 1 0 + sum_by (λ x. cond (p x) 1 0) es ≡ 0
        → (sum_by (λ x. cond (p x) 1 0) es ≡ 0 → find p es ≡ None) → cond b (Some e) (find p es) ≡ None
    go true k rest = absurd (omega (arith, k))
    go false k rest = rest (omega (arith, k))

-- nothing is held under a key under which nothing is counted
none_held : (key : List ℕ) (a : Areas Entry) → count_under key a ≡ 0 → held key a ≡ None
none_held key a h =
    none_found (has_key key) (entries_of a)
    (omega (arith, h, sum_by-append (under key) a.window (a.probation ++ a.protected), sum_by-append (under key) a.probation a.protected))

last_counted : (f : Entry → ℕ) (es : List Entry) (e : Entry) → sum_by f (es ++ e ∷ []) ≡ sum_by f es + f e
last_counted f es e =
    let none : sum_by f [] ≡ 0 = refl in
    omega (arith, sum_by-append f es (e ∷ []), sum_by-cons f e [], none)

every_front : (P : Entry → Type 0) (xs ys : List Entry) → Every P (xs ++ ys) → Every P xs
every_front P [] ys h = tt
every_front P (x ∷ xs) ys h = (h.0, every_front P xs ys h.1)

every_back : (P : Entry → Type 0) (xs ys : List Entry) → Every P (xs ++ ys) → Every P ys
every_back P [] ys h = h
every_back P (x ∷ xs) ys h = every_back P xs ys h.1

pub fit_same : (limits : Limits) (xs ys : List Entry) (a b : Areas Entry) → xs ≡ ys → b ≡ a → Fit limits xs a
    → Fit limits ys b
fit_same limits xs ys a b p q h = subst (λ zs. Fit limits zs b) p (subst (λ z. Fit limits xs z) (sym q) h)

pub fit_there : (l m : Limits) (es : List Entry) (a b : Areas Entry) → m ≡ l → b ≡ a → Fit l es a → Fit m es b
fit_there l m es a b p q h = subst (λ k. Fit k es b) (sym p) (subst (λ z. Fit l es z) (sym q) h)

-- the last of entries that may come into areas, and those before it
module _ (limits : Limits) (es : List Entry) (e : Entry) (a : Areas Entry) (h : Fit limits (es ++ e ∷ []) a) where
  own : under e.key e ≡ 1
  own = ap (λ b. cond b 1 0) ((bytes_eq-Decides e.key e.key).1 refl)

  light : Every (λ x. weight x ≤ limits.main) (es ++ e ∷ [])
  light = every_of_all _ (es ++ e ∷ []) h.light

  pub last_free : held e.key a ≡ None
  last_free = none_held e.key a (omega (arith, h.once e.key, last_counted (under e.key) es e, own))

  pub last_light : weight e ≤ limits.main
  last_light = (every_back (λ x. weight x ≤ limits.main) es (e ∷ []) light).0

  pub last_sum : total weight a + weight e < 2 ^ 64
  last_sum = omega (arith, h.sum, last_counted weight es e)

  pub rest_fit : (area : Area) → Fit limits es (fronted_in area e a)
  rest_fit area = record {
    once = λ key. omega (arith, h.once key, last_counted (under key) es e, total-fronted_in area (under key) e a);
    light = all_of_every (λ x. weight x ≤ limits.main) es (every_front (λ x. weight x ≤ limits.main) es (e ∷ []) light);
    sum = omega (arith, h.sum, last_counted weight es e, total-fronted_in area weight e a);
  }

pub put_back-nil : (area : Area) (a : Areas Entry) → put_back area [] a ≡ a
put_back-nil Window a = refl
put_back-nil Probation a = refl
put_back-nil Protected a = refl

pub put_back-last : (area : Area) (es : List Entry) (e : Entry) (a : Areas Entry)
    → put_back area es (fronted_in area e a) ≡ put_back area (es ++ e ∷ []) a
put_back-last Window es e a = ap (λ (l : List Entry). with_list Window l a) (sym (append_assoc es (e ∷ []) a.window))
put_back-last Probation es e a = ap (λ (l : List Entry). with_list Probation l a) (sym (append_assoc es (e ∷ []) a.probation))
put_back-last Protected es e a = ap (λ (l : List Entry). with_list Protected l a) (sym (append_assoc es (e ∷ []) a.protected))

-- all that areas hold may come into areas that hold nothing, list by list
module _ (limits : Limits) (a : Areas Entry) (sound : AreSound limits a) (sum : total weight a < 2 ^ 64) where
  all : Every (λ x. weight x ≤ limits.main) (a.window ++ (a.probation ++ a.protected))
  all = every_of_all _ (entries_of a) sound.light

  main : Every (λ x. weight x ≤ limits.main) (a.probation ++ a.protected)
  main = every_back _ a.window (a.probation ++ a.protected) all

  first : (f : Entry → ℕ) → total f (put_back Window a.window no_entries) ≡ sum_by f a.window
  first f = let none : sum_by f [] ≡ 0 = refl in omega (arith, sum_by-append f a.window [], none)

  second : (f : Entry → ℕ) → total f (put_back Probation a.probation (put_back Window a.window no_entries))
      ≡ sum_by f a.window + sum_by f a.probation
  second f =
      let none : sum_by f [] ≡ 0 = refl in
      omega (arith, sum_by-append f a.window [], sum_by-append f a.probation [], none)

  pub fit_window : Fit limits a.window no_entries
  fit_window = record {
    once = λ key. (let none : total (under key) no_entries ≡ 0 = refl in omega (arith, sound.once key, none));
    light = all_of_every _ a.window (every_front _ a.window (a.probation ++ a.protected) all);
    sum = let none : total weight no_entries ≡ 0 = refl in omega (arith, sum, none);
  }

  pub fit_probation : Fit limits a.probation (put_back Window a.window no_entries)
  fit_probation = record {
    once = λ key. omega (arith, sound.once key, first (under key));
    light = all_of_every _ a.probation (every_front _ a.probation a.protected main);
    sum = omega (arith, sum, first weight);
  }

  pub fit_protected : Fit limits a.protected (put_back Probation a.probation (put_back Window a.window no_entries))
  fit_protected = record {
    once = λ key. omega (arith, sound.once key, second (under key));
    light = all_of_every _ a.protected (every_back _ a.probation a.protected main);
    sum = omega (arith, sum, second weight);
  }

pub all_back : (a : Areas Entry)
    → put_back Protected a.protected (put_back Probation a.probation (put_back Window a.window no_entries)) ≡ a
all_back a = three_same _ _ _ _ _ _ (append-nil a.window) (append-nil a.probation) (append-nil a.protected)
