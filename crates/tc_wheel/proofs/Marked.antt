-- The marks alone, and more room.
use Rattle.std.specs.Prelude.{Option, None, Some, ◌-◌, replicate}
use Rattle.std.proofs.Common.{◌≡◌, ℕ, zero, suc, true, false, List, [], ◌∷◌, ◌++◌, length, refl, sym, ◌∙◌, ap, arith}
use Rattle.std.proofs.Common.{length-append}
use Rattle.std.proofs.lemmas.List.{length-replicate}
use Rattle.tc_model.specs.Chains.{marked, AreChained, is_among}
use Rattle.tc_model.proofs.Chained.{ring_grown}
use Rattle.tc_ring.specs.Links.{AreMarks}
use Rattle.tc_ring.proofs.Alone.{chained_alone}
use Rattle.tc_wheel.specs.Dues.{due_at, is_due}
use Rattle.tc_wheel.specs.Links.{Links, grown}
use Rattle.tc_wheel.specs.Kept.{list_at, stands_in, AreKept, IsSwept}
use Rattle.tc_wheel.proofs.Held.{stands_none}

list_at-alone : (i n : ℕ) → list_at i (replicate n []) ≡ []
list_at-alone i zero = refl
list_at-alone zero (suc n) = refl
list_at-alone (suc i) (suc n) = list_at-alone i n

kept_alone : (k moment left m : ℕ) (l : Links) → AreMarks (suc k) m None l → AreKept k moment left l (replicate (suc k) [])
kept_alone k moment left m l h = record {
  count = length-replicate (suc k) [];
  ring = chained_alone k m None l h;
  dues_long = h.notes_long ∙ sym h.next_long;
  marks = λ n small. h.notes n;
  kept =
      λ i n small. none_at n i
      ∙ sym (ap (λ o. stands_in k i (is_among n (list_at k (replicate (suc k) []))) o) (h.notes n)
      ∙ stands_none k i (is_among n (list_at k (replicate (suc k) []))));
  late = λ n among. absurd (let f : false ≡ true = sym (none_at n k) ∙ among in cc);
  rest = λ n d out noted_is early. absurd (let f : None ≡ Some d = sym (h.notes n) ∙ noted_is in cc);
}
  where
    none_at : (n i : ℕ) → is_among n (list_at i (replicate (suc k) [])) ≡ false
    none_at n i = ap (λ xs. is_among n xs) (list_at-alone i (suc k))

pub swept_alone : (k moment left m : ℕ) (l : Links) → AreMarks (suc k) m None l → IsSwept k moment left l
swept_alone k moment left m l h = record { lists = replicate (suc k) []; kept = kept_alone k moment left m l h }

-- more room

due_at-none : (n i : ℕ) → due_at (replicate n None) i ≡ None
due_at-none zero i = refl
due_at-none (suc n) zero = refl
due_at-none (suc n) (suc i) = due_at-none n i

due_at-grown : (dues : List (Option ℕ)) (n i : ℕ) → due_at (dues ++ replicate n None) i ≡ due_at dues i
due_at-grown [] n i = due_at-none n i
due_at-grown (d ∷ dues) n zero = refl
due_at-grown (d ∷ dues) n (suc i) = due_at-grown dues n i

chained_grown : (next prev : List ℕ) (n : ℕ) (lists : List (List ℕ)) → AreChained next prev lists
    → AreChained (next ++ replicate n 0) (prev ++ replicate n 0) lists
chained_grown next prev n [] h = tt
chained_grown next prev n (xs ∷ xss) h = ring_grown next prev (replicate n 0) (replicate n 0) 0 (xs ++ marked 1 xss) refl h

pub swept_grown : (k moment left all : ℕ) (l : Links) → IsSwept k moment left l → IsSwept k moment left (grown all l)
swept_grown k moment left all l s =
    let a : AreKept k moment left l s.lists = s.kept in
    let n : ℕ = all - length l.next in
    let same : (i : ℕ) → due_at (l.notes ++ replicate n None) i ≡ due_at l.notes i = λ i. due_at-grown l.notes n i in
    record {
      lists = s.lists;
      kept = record {
        count = a.count;
        ring = chained_grown l.next l.prev n s.lists a.ring;
        dues_long =
            omega (
              arith,
              a.dues_long,
              length-append l.notes (replicate n None),
              length-append l.next (replicate n 0),
              length-replicate {A = Option ℕ} n None,
              length-replicate {A = ℕ} n 0,
            );
        marks = λ i small. same i ∙ a.marks i small;
        kept = λ i m small. a.kept i m small ∙ sym (ap (λ o. stands_in k i (is_among m (list_at k s.lists)) o) (same m));
        late = λ m among. ap (λ o. is_due moment o) (same m) ∙ a.late m among;
        rest = λ m d out noted_is early. a.rest m d out (sym (same m) ∙ noted_is) early;
      };
    }
