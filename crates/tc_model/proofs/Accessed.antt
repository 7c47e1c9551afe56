-- An access of what is held changes no weight, so nothing is dropped.
use Rattle.std.specs.Prelude.{sum_by, find, not, ◌||◌}
use Rattle.std.proofs.Common.{◌≡◌, ℕ, ◌+◌, ◌≤◌, Bool, true, false, cond, List, [], ◌∷◌, ◌++◌, Some, refl, sym, ◌∙◌, ap, arith}
use Rattle.std.proofs.lemmas.List.Sums.{sum_by-cons, sum_by-append}
use Rattle.std.proofs.lemmas.List.Elements.{filter-append}
use Rattle.tc_model.specs.Areas.{Areas, Limits, beyond, main_weight, demoted, is_in, without, accessed}
use Rattle.tc_model.specs.Within.{IsWithin, AccessDropsNothing}
use Rattle.tc_model.proofs.Within.{sum-fitting, settles_once}
use Rattle.tc_model.proofs.Totals.{parts, sum-filter-le}

-- what is found, and the others, weigh no more than all
found-without : {A : Type 0} (f : A → ℕ) (is : A → Bool) (x : A) (xs : List A) → find is xs ≡ Some x
    → f x + sum_by f (without is xs) ≤ sum_by f xs
found-without f is x [] e = absurd (grind (arith, e))
found-without {A} f is x (y ∷ ys) e = go (is y) e (λ g. found-without f is x ys g)
  where
    go : (b : Bool) → cond b (Some y) (find is ys) ≡ Some x → (find is ys ≡ Some x → f x + sum_by f (without is ys) ≤ sum_by f ys)
        → f x + sum_by f (cond (not b) (y ∷ without is ys) (without is ys)) ≤ sum_by f (y ∷ ys)
    go true g later =
        let same : y ≡ x = cc in
        let own : f y ≡ f x = ap f same in
        omega (arith, own, sum_by-cons f y ys, sum-filter-le f (λ z. not (is z)) ys)
    go false g later = omega (arith, later g, sum_by-cons f y (without is ys), sum_by-cons f y ys)

find-front : {A : Type 0} (is : A → Bool) (xs ys : List A) → is_in is xs ≡ true → find is (xs ++ ys) ≡ find is xs
find-front is [] ys e = absurd (grind (arith, e))
find-front {A} is (x ∷ xs) ys e = go (is x) e (λ g. find-front is xs ys g)
  where
    go : (b : Bool) → (b || is_in is xs) ≡ true → (is_in is xs ≡ true → find is (xs ++ ys) ≡ find is xs)
        → cond b (Some x) (find is (xs ++ ys)) ≡ cond b (Some x) (find is xs)
    go true g later = refl
    go false g later = later g

find-behind : {A : Type 0} (is : A → Bool) (xs ys : List A) → is_in is xs ≡ false → find is (xs ++ ys) ≡ find is ys
find-behind is [] ys e = refl
find-behind {A} is (x ∷ xs) ys e = go (is x) e (λ g. find-behind is xs ys g)
  where
    go : (b : Bool) → (b || is_in is xs) ≡ false → (is_in is xs ≡ false → find is (xs ++ ys) ≡ find is ys)
        → cond b (Some x) (find is (xs ++ ys)) ≡ find is ys
    go true g later = absurd (grind (arith, g))
    go false g later = later g

-- window and main within their limits, and protected after it was held to its own
demoted_within : {A : Type 0} (weigh : A → ℕ) (limits : Limits) (a : Areas A) → sum_by weigh a.window ≤ limits.window
    → main_weight weigh a ≤ limits.main → IsWithin weigh limits (demoted weigh limits a)
demoted_within weigh limits a w m = record {
  window = w;
  main =
      omega (
        arith,
        parts weigh weigh limits.protected a.protected,
        sum_by-append weigh (beyond weigh limits.protected a.protected) a.probation,
      );
  protected = sum-fitting weigh limits.protected a.protected;
}

-- what is held may be accessed as something no heavier: the areas stay within their limits
pub accessed_within : {A : Type 0} (weigh : A → ℕ) (limits : Limits) (is : A → Bool) (x y : A) (a : Areas A)
    → find is (a.window ++ (a.probation ++ a.protected)) ≡ Some y
    → weigh x ≤ weigh y → IsWithin weigh limits a → IsWithin weigh limits (accessed weigh limits is x a)
accessed_within {A} weigh limits is x y a e lighter h = go (is_in is a.window) refl
  where
    left : (xs : List A) → sum_by weigh (without is xs) ≤ sum_by weigh xs
    left xs = sum-filter-le weigh (λ z. not (is z)) xs

    go : (b : Bool) → is_in is a.window ≡ b → IsWithin weigh limits (demoted weigh limits (cond b
        (record { window = x ∷ without is a.window; probation = without is a.probation; protected = without is a.protected })
        (record { window = without is a.window; probation = without is a.probation; protected = x ∷ without is a.protected })))
    go true t =
        let here = found-without weigh is y a.window (sym (find-front is a.window (a.probation ++ a.protected) t) ∙ e) in
        let main = h.main in
        demoted_within weigh limits
        (record { window = x ∷ without is a.window; probation = without is a.probation; protected = without is a.protected })
        (omega (arith, lighter, here, h.window, sum_by-cons weigh x (without is a.window)))
        (omega (arith, left a.probation, left a.protected))
    go false t =
        let there = found-without weigh is y (a.probation ++ a.protected)
        (sym (find-behind is a.window (a.probation ++ a.protected) t) ∙ e) in
        let main = h.main in
        let split : sum_by weigh (without is (a.probation ++ a.protected))
        ≡ sum_by weigh (without is a.probation) + sum_by weigh (without is a.protected) =
        ap (sum_by weigh) (filter-append (λ z. not (is z)) a.probation a.protected)
        ∙ sum_by-append weigh (without is a.probation) (without is a.protected) in
        demoted_within weigh limits
        (record { window = without is a.window; probation = without is a.probation; protected = x ∷ without is a.protected })
        (omega (arith, left a.window, h.window))
        (omega (
          arith,
          lighter,
          there,
          split,
          sum_by-append weigh a.probation a.protected,
          sum_by-cons weigh x (without is a.protected),
        ))

pub access_drops_nothing : AccessDropsNothing
access_drops_nothing A weigh freq limits is x a e h =
    settles_once A weigh freq limits (accessed weigh limits is x a) (accessed_within weigh limits is x x a e (omega arith) h)
