-- What is known of the slots under a tag as they are looked through.
use Rattle.std.specs.Prelude.{slice_index_or, count_by}
use Rattle.std.proofs.Common.{◌≡◌, ◌==◌, ℕ, ◌+◌, ◌<◌, Bool, true, false, cond, ◌&&◌, List, length, take, Option, Some, None, refl, sym, ◌∙◌, ap, subst, arith, eq-eqb}
use Rattle.std.proofs.lemmas.Bool.{eqb-true}
use Rattle.std.proofs.lemmas.List.Sums.{get_or-le-sum_by, count_by_more_no}
use Rattle.tc_item.specs.declared.slot.Slot.{Slot}
use Rattle.tc_index.specs.Tags.{is_place, is_first, IsRight}

-- a place is of its own slot and tag alone
place_is : (tag slot : ℕ) (p : ℕ × ℕ) → is_place tag slot p ≡ true → (p.0 ≡ tag) × (p.1 ≡ slot)
place_is tag slot p h = go (p.0 == tag) refl h
  where
    go : (b : Bool) → (p.0 == tag) ≡ b → (b && (p.1 == slot)) ≡ true → (p.0 ≡ tag) × (p.1 ≡ slot)
    go true e f = (eqb-true p.0 tag e, eqb-true p.1 slot f)
    go false e f = absurd (cc (f))

pub place_own : (p : ℕ × ℕ) → is_place p.0 p.1 p ≡ true
place_own p = ap (λ b. b && (p.1 == p.1)) (eq-eqb p.0 p.0 refl) ∙ eq-eqb p.1 p.1 refl

abbrev at : List (ℕ × ℕ) → ℕ → ℕ × ℕ
at places i = slice_index_or places i (0, 0)

-- a slot that was seen stands there
pub stands_seen : (tag i : ℕ) (places : List (ℕ × ℕ)) → i < length places → (at places i).0 ≡ tag
    → 0 < count_by (is_place tag (at places i).1) places
stands_seen tag i places lt own =
    let here : is_place tag (at places i).1 (at places i) ≡ true =
    subst (λ t. is_place t (at places i).1 (at places i) ≡ true) own (place_own (at places i)) in
    omega (
      arith,
      ap (λ b. cond {A = ℕ} b 1 0) here,
      get_or-le-sum_by (λ p. cond (is_place tag (at places i).1 p) 1 0) places i (0, 0) lt,
    )

-- one more slot was seen that is not right
pub passed_on : (right : ℕ → Bool) (tag slot i : ℕ) (places : List (ℕ × ℕ)) → i < length places
    → ((at places i).0 ≡ tag → right (at places i).1 ≡ false)
    → (0 < count_by (is_place tag slot) (take i places) → right slot ≡ false)
    → 0 < count_by (is_place tag slot) (take (i + 1) places) → right slot ≡ false
passed_on right tag slot i places lt miss before some = go (is_place tag slot (at places i)) refl
  where
    go : (b : Bool) → is_place tag slot (at places i) ≡ b → right slot ≡ false
    go true e =
        let own = place_is tag slot (at places i) e in
        ap right (sym own.1) ∙ miss own.0
    go false e = before (omega (arith, some, count_by_more_no (is_place tag slot) places i (0, 0) lt e))

-- what the map has is not right, and so is what is right behind it
pub behind : (found : Option Slot) (right : ℕ → Bool) (first : Option ℕ) (often : ℕ → ℕ)
    → ((slot : ℕ) → is_first first slot ≡ true → right slot ≡ false) → IsRight found right often
    → IsRight found right (λ slot. cond (is_first first slot) 1 0 + often slot)
behind None right first often miss h = λ slot some. go slot (is_first first slot) refl some
  where
    go : (slot : ℕ) (b : Bool) → is_first first slot ≡ b → 0 < cond b 1 0 + often slot → right slot ≡ false
    go slot true e some = miss slot e
    go slot false e some = h slot (omega (arith, some))
behind (Some slot) right first often miss h = (omega (arith, h.0), h.1)

-- what is the map's is what the closure was asked
pub first_is : (right : ℕ → Bool) (first : ℕ) → right first ≡ false → (slot : ℕ) → is_first (Some first) slot ≡ true
    → right slot ≡ false
first_is right first miss slot own = ap right (sym (eqb-true first slot own)) ∙ miss
