-- As many entries stand in the lists as slots hold one.
use Rattle.std.specs.Prelude.{◌==◌, map, sum_by, count_by, is_some, slice_index_or}
use Rattle.std.proofs.Common.{◌≡◌, ℕ, zero, suc, ◌+◌, ◌<◌, true, cond, List, [], ◌∷◌, ◌++◌, length, Option, Some, None, refl, sym}
use Rattle.std.proofs.Common.{◌∙◌, ap, arith, length-append}
use Rattle.std.proofs.Math.Dec.{eqb-suc-zero, eqb-zero-suc, eqb-suc-suc}
use Rattle.std.proofs.lemmas.List.Sums.{sum_by-cons}
use Rattle.tc_item.specs.declared.slot.Slot.{Slot}
use Rattle.tc_model.specs.Areas.{Areas, total}
use Rattle.tc_plain.specs.declared.shared.entry.Entry.{Entry}
use Rattle.tc_plain.specs.EvictionState.{entries_of}
use Rattle.tc_slru.specs.Slots.{Placed}
use Rattle.tc_slots.specs.Agreement.{count_of, at_slot, Agree}
use Rattle.tc_plain.specs.BySlot.{stray, stray_by, entry_at, areas_by}
use Rattle.tc_slots.proofs.Moves.{fun_same}

-- the sum of a function's first values
abbrev sum_below : ℕ → (ℕ → ℕ) → ℕ
sum_below zero f = 0
sum_below (suc n) f = f 0 + sum_below n (λ k. f (suc k))

below_add : (n : ℕ) (f g : ℕ → ℕ) → sum_below n (λ k. f k + g k) ≡ sum_below n f + sum_below n g
below_add zero f g = refl
below_add (suc n) f g = omega (arith, below_add n (λ k. f (suc k)) (λ k. g (suc k)))

below_none : (n : ℕ) → sum_below n (λ k. 0) ≡ 0
below_none zero = refl
below_none (suc n) = omega (arith, below_none n)

-- one number below n is s
below_one : (n s : ℕ) → s < n → sum_below n (λ k. cond (s == k) 1 0) ≡ 1
below_one zero s h = absurd (omega (arith, h))
below_one (suc n) zero h =
    let rest : sum_below n (λ k. cond (0 == suc k) 1 0) ≡ 0 =
    ap (λ f. sum_below n f)
    (fun_same (λ k. cond (0 == suc k) 1 0) (λ k. 0) (λ k. ap (λ b. cond {A = ℕ} b 1 0) (eqb-zero-suc k)))
    ∙ below_none n in
    omega (arith, rest)
below_one (suc n) (suc s) h =
    let first : cond {A = ℕ} (suc s == 0) 1 0 ≡ 0 = ap (λ b. cond {A = ℕ} b 1 0) (eqb-suc-zero s) in
    let rest : sum_below n (λ k. cond (suc s == suc k) 1 0) ≡ 1 =
    ap (λ f. sum_below n f)
    (fun_same (λ k. cond (suc s == suc k) 1 0) (λ k. cond (s == k) 1 0) (λ k. ap (λ b. cond {A = ℕ} b 1 0) (eqb-suc-suc s k)))
    ∙ below_one n s (omega (arith, h)) in
    omega (arith, first, rest)

-- each place is counted at its slot
places_below : (S : ℕ → Option Entry) (n : ℕ) → ((k : ℕ) → is_some (S k) ≡ true → k < n) → (ps : List Placed)
    → sum_by (stray S) ps ≡ 0 → sum_below n (λ k. sum_by (at_slot k) ps) ≡ length ps
places_below S n h [] e = below_none n
places_below S n h (p ∷ ps) e =
    let split = sum_by-cons (stray S) p ps in
    let right : stray S p ≡ 0 = omega (arith, e, split) in
    let own : sum_below n (λ k. at_slot k p) ≡ 1 = below_one n p.slot (h p.slot (held (S p.slot) right)) in
    ap (λ f. sum_below n f)
    (fun_same (λ k. sum_by (at_slot k) (p ∷ ps)) (λ k. at_slot k p + sum_by (at_slot k) ps) (λ k. sum_by-cons (at_slot k) p ps))
    ∙ below_add n (λ k. at_slot k p) (λ k. sum_by (at_slot k) ps)
    ∙ omega (arith, own, places_below S n h ps (omega (arith, e, split)))
  where
    held : (o : Option Entry) → stray_by p.weight o ≡ 0 → is_some o ≡ true
    held None k = absurd (omega (arith, k))
    held (Some d) k = refl

-- and each slot that holds something
slots_below : (xs : List (Option Entry)) → sum_below (length xs) (λ k. count_of (slice_index_or xs k None)) ≡ count_by is_some xs
slots_below [] = refl
slots_below (x ∷ xs) =
    ap (λ t. count_of x + t) (slots_below xs) ∙ ap (λ t. t + count_by is_some xs) (one x)
    ∙ sym (sum_by-cons (λ o. cond (is_some o) 1 0) x xs)
  where
    one : (o : Option Entry) → count_of o ≡ cond (is_some o) 1 0
    one None = refl
    one (Some e) = refl

pub length_map : {A B : Type 0} (f : A → B) (xs : List A) → length (map f xs) ≡ length xs
length_map f [] = refl
length_map f (x ∷ xs) = ap suc (length_map f xs)

held_short : (xs : List (Option Entry)) (k : ℕ) → is_some (slice_index_or xs k None) ≡ true → k < length xs
held_short [] k h = absurd (cc)
held_short (x ∷ xs) zero h = omega arith
held_short (x ∷ xs) (suc k) h = omega (arith, held_short xs k h)

pub as_many : (I : List ℕ → Option Slot) (xs : List (Option Entry)) (D : ℕ → Option ℕ) (a : Areas Placed)
    → Agree I (λ k. slice_index_or xs k None) D a
    → count_by is_some xs ≡ length (entries_of (areas_by (λ k. slice_index_or xs k None) a))
as_many I xs D a h =
    let S : ℕ → Option Entry = λ k. slice_index_or xs k None in
    let n = length xs in
    let w = h.weighed in
    let window = places_below S n (held_short xs) a.window (omega (arith, w)) in
    let probation = places_below S n (held_short xs) a.probation (omega (arith, w)) in
    let protected = places_below S n (held_short xs) a.protected (omega (arith, w)) in
    let all : sum_below n (λ k. total (at_slot k) a) ≡ count_by is_some xs =
    ap (λ f. sum_below n f) (fun_same (λ k. total (at_slot k) a) (λ k. count_of (S k)) h.listed) ∙ slots_below xs in
    let outer = below_add n (λ k. sum_by (at_slot k) a.window)
    (λ k. sum_by (at_slot k) a.probation + sum_by (at_slot k) a.protected) in
    let inner = below_add n (λ k. sum_by (at_slot k) a.probation) (λ k. sum_by (at_slot k) a.protected) in
    let e = entry_at S in
    omega (
      arith,
      all,
      outer,
      inner,
      window,
      probation,
      protected,
      length_map e a.window,
      length_map e a.probation,
      length_map e a.protected,
      length-append (map e a.window) (map e a.probation ++ map e a.protected),
      length-append (map e a.probation) (map e a.protected),
    )
