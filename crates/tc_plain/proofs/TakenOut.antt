-- What a key holds among three lists, by what it holds in each.
use Rattle.std.specs.Prelude.{find, ◌||◌}
use Rattle.std.proofs.Common.{◌≡◌, ℕ, Bool, true, false, cond, List, [], ◌∷◌, ◌++◌, Some, None, refl, sym, ◌∙◌, arith}
use Rattle.tc_model.specs.Areas.{Areas, is_in}
use Rattle.tc_plain.specs.declared.shared.entry.Entry.{Entry}
use Rattle.tc_plain.specs.Entries.{has_key}
use Rattle.tc_plain.specs.EvictionState.{held}

-- found in front
pub find-front : {A : Type 0} (p : A → Bool) (xs ys : List A) (e : A) → find p xs ≡ Some e → find p (xs ++ ys) ≡ Some e
find-front p [] ys e h = grind (arith, h)
find-front {A} p (x ∷ xs) ys e h = go (p x) h (λ g. find-front p xs ys e g)
  where
    go : (b : Bool) → cond b (Some x) (find p xs) ≡ Some e → (find p xs ≡ Some e → find p (xs ++ ys) ≡ Some e)
        → cond b (Some x) (find p (xs ++ ys)) ≡ Some e
    go true g later = g
    go false g later = later g

-- not found in front
pub find-behind : {A : Type 0} (p : A → Bool) (xs ys : List A) → find p xs ≡ None → find p (xs ++ ys) ≡ find p ys
find-behind p [] ys h = refl
find-behind {A} p (x ∷ xs) ys h = go (p x) h (λ g. find-behind p xs ys g)
  where
    go : (b : Bool) → cond b (Some x) (find p xs) ≡ None → (find p xs ≡ None → find p (xs ++ ys) ≡ find p ys)
        → cond b (Some x) (find p (xs ++ ys)) ≡ find p ys
    go true g later = grind (arith, g)
    go false g later = later g

pub is_in-found : {A : Type 0} (p : A → Bool) (xs : List A) (e : A) → find p xs ≡ Some e → is_in p xs ≡ true
is_in-found p [] e h = grind (arith, h)
is_in-found {A} p (x ∷ xs) e h = go (p x) h (λ g. is_in-found p xs e g)
  where
    go : (b : Bool) → cond b (Some x) (find p xs) ≡ Some e → (find p xs ≡ Some e → is_in p xs ≡ true) → (b || is_in p xs) ≡ true
    go true g later = refl
    go false g later = later g

pub is_in-missed : {A : Type 0} (p : A → Bool) (xs : List A) → find p xs ≡ None → is_in p xs ≡ false
is_in-missed p [] h = refl
is_in-missed {A} p (x ∷ xs) h = go (p x) h (λ g. is_in-missed p xs g)
  where
    go : (b : Bool) → cond b (Some x) (find p xs) ≡ None → (find p xs ≡ None → is_in p xs ≡ false) → (b || is_in p xs) ≡ false
    go true g later = grind (arith, g)
    go false g later = later g

-- where a key's entry stands
module _ (key : List ℕ) (a : Areas Entry) where
  abbrev HeldFrom : Bool → Entry → Type 0
  HeldFrom in_window e = (held key a ≡ Some e) × (in_window ≡ is_in (has_key key) a.window)

  pub held_in_window : (e : Entry) → find (has_key key) a.window ≡ Some e → HeldFrom true e
  held_in_window e h =
      (find-front (has_key key) a.window (a.probation ++ a.protected) e h, sym (is_in-found (has_key key) a.window e h))

  pub held_in_probation : (e : Entry) → find (has_key key) a.window ≡ None → find (has_key key) a.probation ≡ Some e
      → HeldFrom false e
  held_in_probation e none h = (
    find-behind (has_key key) a.window (a.probation ++ a.protected) none
        ∙ find-front (has_key key) a.probation a.protected e h,
    sym (is_in-missed (has_key key) a.window none),
  )

  pub held_in_protected : (e : Entry) → find (has_key key) a.window ≡ None → find (has_key key) a.probation ≡ None
      → find (has_key key) a.protected ≡ Some e → HeldFrom false e
  held_in_protected e none off h = (
    find-behind (has_key key) a.window (a.probation ++ a.protected) none
        ∙ find-behind (has_key key) a.probation a.protected off ∙ h,
    sym (is_in-missed (has_key key) a.window none),
  )

  pub held_nowhere : find (has_key key) a.window ≡ None → find (has_key key) a.probation ≡ None
      → find (has_key key) a.protected ≡ None → held key a ≡ None
  held_nowhere none off h =
      find-behind (has_key key) a.window (a.probation ++ a.protected) none ∙ find-behind (has_key key) a.probation a.protected off
      ∙ h
