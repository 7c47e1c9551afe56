-- A slot is held, or held no longer: what the lists become.
use Rattle.std.specs.Prelude.{Option, Some, None, ◌==◌, ◌||◌, ◌%◌, map, slice_set, slice_index}
use Rattle.std.proofs.Common.{◌≡◌, ◌≢◌, ◌⊎◌, inl, inr, ℕ, zero, suc, ◌<◌, ◌≤◌, Bool, true, false, List, [], ◌∷◌, length, refl}
use Rattle.std.proofs.Common.{sym, ◌∙◌, ap, subst, arith}
use Rattle.std.proofs.lemmas.Bool.{eq-eqb, ne_eqb, cases_lt}
use Rattle.std.proofs.lemmas.Bool.Decides.{eqb_tells}
use Rattle.std.proofs.lemmas.Bool.{le-leb}
use Rattle.std.proofs.lemmas.List.{get_or-set_other, get_or-set_same, length-set}
use Rattle.tc_model.specs.Ring.{HasPlace, put_next, cut_next}
use Rattle.tc_model.specs.Chains.{fronted, without_node, is_among}
use Rattle.tc_model.proofs.Rings.{length-slice_set}
use Rattle.tc_model.proofs.Chained.{chained_put}
use Rattle.tc_wheel.specs.Dues.{due_at, is_due}
use Rattle.tc_ring.specs.Links.{linked_behind, unlinked}
use Rattle.tc_wheel.specs.Links.{Links, noted, freed}
use Rattle.tc_wheel.specs.Kept.{list_at, in_bucket, stands_in, Awaits, AreKept}
use Rattle.tc_wheel.proofs.Listed.{fronted_here, fronted_there, length-fronted, list_at-without, length-without_all, among_own}
use Rattle.tc_wheel.proofs.Listed.{among_other, away_marked, cut_at, place_at}

-- it is the other number, or it is not
abbrev Compared : ℕ → ℕ → Type 0
Compared n m = (((n == m) ≡ true) × (n ≡ m)) ⊎ (((n == m) ≡ false) × (n ≢ m))

-- writes to the dues

pub due_own : (dues : List (Option ℕ)) (at : ℕ) (x : Option ℕ) → at < length dues → due_at (slice_set dues at x) at ≡ x
due_own dues at x h = get_or-set_same dues at x None h

pub due_freed : (dues : List (Option ℕ)) (at : ℕ) → due_at (slice_set dues at None) at ≡ None
due_freed [] at = refl
due_freed (d ∷ dues) zero = refl
due_freed (d ∷ dues) (suc at) = due_freed dues at

pub due_other : (dues : List (Option ℕ)) (at n : ℕ) (x : Option ℕ) → n ≢ at → due_at (slice_set dues at x) n ≡ due_at dues n
due_other dues at n x ne = get_or-set_other dues at n x None ne

-- a due that is noted again
due_again : (dues : List (Option ℕ)) (at : ℕ) (x : Option ℕ) → at < length dues → due_at dues at ≡ x
    → slice_set (slice_set dues at None) at x ≡ dues
due_again [] at x h e = absurd (omega arith)
due_again (d ∷ dues) zero x h e = ap (λ y. y ∷ dues) (sym e)
due_again (d ∷ dues) (suc at) x h e = ap (λ t. d ∷ t) (due_again dues at x (omega arith) e)

pub length-put : (next : List ℕ) (m n : ℕ) → length (put_next next m n) ≡ length next
length-put next m n = length-slice_set (slice_set next m n) n (slice_index next m) ∙ length-slice_set next m n

pub length-cut : (next prev : List ℕ) (n : ℕ) → length (cut_next next prev n) ≡ length next
length-cut next prev n = length-slice_set next (slice_index prev n) (slice_index next n)

-- membership of a longer list

among_first : (n : ℕ) (xs : List ℕ) → is_among n (n ∷ xs) ≡ true
among_first n xs = ap (λ b. b || is_among n xs) (eq-eqb n n refl)

among_behind : (n m : ℕ) (xs : List ℕ) → n ≢ m → is_among n (m ∷ xs) ≡ is_among n xs
among_behind n m xs ne = ap (λ b. b || is_among n xs) (ne_eqb m n (λ e. ne (sym e)))

-- what the lists say of one node

pub stands_none : (k i : ℕ) (b : Bool) → stands_in k i b None ≡ false
stands_none k i true = refl
stands_none k i false = refl

pub not_late : (k moment left : ℕ) (l : Links) (lists : List (List ℕ)) (n : ℕ) → AreKept k moment left l lists
    → is_due moment (due_at l.notes n) ≡ false → is_among n (list_at k lists) ≡ false
not_late k moment left l lists n a e = go (is_among n (list_at k lists)) refl
  where
    go : (b : Bool) → is_among n (list_at k lists) ≡ b → b ≡ false
    go true h = absurd (let f : false ≡ true = sym e ∙ a.late n h in cc)
    go false h = refl

-- a node without a due stands in no list
pub free_at : (k moment left : ℕ) (l : Links) (lists : List (List ℕ)) (n i : ℕ) → AreKept k moment left l lists
    → due_at l.notes n ≡ None → i < suc k → is_among n (list_at i lists) ≡ false
free_at k moment left l lists n i a e h = go (cases_lt i k)
  where
    go : (i < k) ⊎ (k ≤ i) → is_among n (list_at i lists) ≡ false
    go (inl small) =
        a.kept i n small ∙ ap (λ o. stands_in k i (is_among n (list_at k lists)) o) e
        ∙ stands_none k i (is_among n (list_at k lists))
    go (inr big) =
        let same : k ≡ i = omega arith in
        subst (λ j. is_among n (list_at j lists) ≡ false) same (not_late k moment left l lists n a (ap (λ o. is_due moment o) e))

-- the list in which a held node stands
pub record Home (k n : ℕ) (lists : List (List ℕ)) : Type 0 where
  pub list : ℕ
  pub within : list < suc k
  pub stands : is_among n (list_at list lists) ≡ true

pub home_of : (k moment left : ℕ) (l : Links) (lists : List (List ℕ)) (n due : ℕ) → 0 < k → AreKept k moment left l lists
    → due_at l.notes n ≡ Some due → Home k n lists
home_of k moment left l lists n due some a e = go (is_among n (list_at k lists)) refl
  where
    go : (b : Bool) → is_among n (list_at k lists) ≡ b → Home k n lists
    go true h = record { list = k; within = omega arith; stands = h }
    go false h =
        let small : due % k < k = omega arith in
        record {
          list = due % k;
          within = omega arith;
          stands =
              a.kept (due % k) n small ∙ ap (λ b. stands_in k (due % k) b (due_at l.notes n)) h
              ∙ ap (λ o. in_bucket k (due % k) o) e ∙ eq-eqb (due % k) (due % k) refl;
        }

-- marks are not held
pub behind_marks : (k moment left : ℕ) (l : Links) (lists : List (List ℕ)) (n due : ℕ) → AreKept k moment left l lists
    → due_at l.notes n ≡ Some due → k < n
behind_marks k moment left l lists n due a e = go (cases_lt k n)
  where
    go : (k < n) ⊎ (n ≤ k) → k < n
    go (inl h) = h
    go (inr h) = absurd (let f : None ≡ Some due = sym (a.marks n h) ∙ e in cc)

pub held_place : (k moment left : ℕ) (l : Links) (lists : List (List ℕ)) (n due : ℕ) → 0 < k → AreKept k moment left l lists
    → due_at l.notes n ≡ Some due → HasPlace l.next l.prev n
held_place k moment left l lists n due some a e =
    let h : Home k n lists = home_of k moment left l lists n due some a e in
    place_at l.next l.prev n h.list lists (omega (arith, a.count, behind_marks k moment left l lists n due a e)) h.stands a.ring

-- a slot is held no longer
pub kept_removed : (k moment left : ℕ) (l : Links) (lists : List (List ℕ)) (at due : ℕ) → 0 < k → due_at l.notes at ≡ Some due
    → AreKept k moment left l lists
    → AreKept k moment left (freed at (unlinked at l)) (map (without_node at) lists)
kept_removed k moment left l lists at due some e a =
    let h : Home k at lists = home_of k moment left l lists at due some a e in
    let big : k < at = behind_marks k moment left l lists at due a e in
    record {
      count = length-without_all at lists ∙ a.count;
      ring = cut_at l.next l.prev at h.list lists (omega (arith, a.count)) h.stands a.ring;
      dues_long = length-set l.notes at None ∙ a.dues_long ∙ sym (length-cut l.next l.prev at);
      marks = λ n small. due_other l.notes at n None (omega arith) ∙ a.marks n small;
      kept = λ i n small. kept_one i n small (eqb_tells n at);
      late = λ n among. late_one n among (eqb_tells n at);
      rest = λ n d out noted_is early. rest_one n d out noted_is early (eqb_tells n at);
    }
  where
    D : List (Option ℕ)
    D = slice_set l.notes at None

    M : List (List ℕ)
    M = map (without_node at) lists

    own : (i : ℕ) → is_among at (list_at i M) ≡ false
    own i = ap (λ xs. is_among at xs) (list_at-without i at lists) ∙ among_own at (list_at i lists)

    other : (i n : ℕ) → n ≢ at → is_among n (list_at i M) ≡ is_among n (list_at i lists)
    other i n ne = ap (λ xs. is_among n xs) (list_at-without i at lists) ∙ among_other at n (list_at i lists) ne

    kept_one : (i n : ℕ) → i < k → Compared n at
        → is_among n (list_at i M) ≡ stands_in k i (is_among n (list_at k M)) (due_at D n)
    kept_one i n small (inl p) =
        subst (λ z. is_among z (list_at i M) ≡ stands_in k i (is_among z (list_at k M)) (due_at D z)) (sym p.1)
        (own i
        ∙ sym (ap (λ o. stands_in k i (is_among at (list_at k M)) o) (due_freed l.notes at)
        ∙ stands_none k i (is_among at (list_at k M))))
    kept_one i n small (inr p) =
        other i n p.1 ∙ a.kept i n small
        ∙ sym (ap (λ b. stands_in k i b (due_at D n)) (other k n p.1)
        ∙ ap (λ o. stands_in k i (is_among n (list_at k lists)) o) (due_other l.notes at n None p.1))

    late_one : (n : ℕ) → is_among n (list_at k M) ≡ true → Compared n at → is_due moment (due_at D n) ≡ true
    late_one n among (inl p) =
        absurd (let f : false ≡ true = sym (own k) ∙ sym (ap (λ z. is_among z (list_at k M)) p.1) ∙ among in cc)
    late_one n among (inr p) =
        ap (λ o. is_due moment o) (due_other l.notes at n None p.1) ∙ a.late n (sym (other k n p.1) ∙ among)

    rest_one : (n d : ℕ) → is_among n (list_at k M) ≡ false → due_at D n ≡ Some d → d ≤ moment → Compared n at
        → Awaits k moment left d
    rest_one n d out noted_is early (inl p) =
        absurd (let f : None ≡ Some d = sym (due_freed l.notes at) ∙ sym (ap (λ z. due_at D z) p.1) ∙ noted_is in cc)
    rest_one n d out noted_is early (inr p) =
        a.rest n d (sym (other k n p.1) ∙ out) (sym (due_other l.notes at n None p.1) ∙ noted_is) early

-- a slot whose due has come is held
pub kept_come : (k moment left : ℕ) (l : Links) (lists : List (List ℕ)) (at due : ℕ) → k < at → at < length l.next
    → due_at l.notes at ≡ None → due ≤ moment → AreKept k moment left l lists
    → AreKept k moment left (linked_behind k at (noted at due l)) (fronted k at lists)
kept_come k moment left l lists at due big within none early a = record {
  count = length-fronted k at lists ∙ a.count;
  ring =
      chained_put l.next l.prev k at lists (omega (arith, a.count)) within
      (away_marked at 0 lists (omega (arith, a.count))
      (λ i h. free_at k moment left l lists at i a none (omega (arith, a.count)))) a.ring;
  dues_long = length-set l.notes at (Some due) ∙ a.dues_long ∙ sym (length-put l.next k at);
  marks = λ n small. due_other l.notes at n (Some due) (omega arith) ∙ a.marks n small;
  kept = λ i n small. kept_one i n small (eqb_tells n at);
  late = λ n among. late_one n among (eqb_tells n at);
  rest = λ n d out noted_is early. rest_one n d out noted_is early (eqb_tells n at);
}
  where
    D : List (Option ℕ)
    D = slice_set l.notes at (Some due)

    F : List (List ℕ)
    F = fronted k at lists

    here : list_at k F ≡ at ∷ list_at k lists
    here = fronted_here k at lists (omega (arith, a.count))

    there : (i : ℕ) → i < k → list_at i F ≡ list_at i lists
    there i small = fronted_there i k at lists (omega arith)

    own : is_among at (list_at k F) ≡ true
    own = ap (λ xs. is_among at xs) here ∙ among_first at (list_at k lists)

    other : (n : ℕ) → n ≢ at → is_among n (list_at k F) ≡ is_among n (list_at k lists)
    other n ne = ap (λ xs. is_among n xs) here ∙ among_behind n at (list_at k lists) ne

    kept_one : (i n : ℕ) → i < k → Compared n at
        → is_among n (list_at i F) ≡ stands_in k i (is_among n (list_at k F)) (due_at D n)
    kept_one i n small (inl p) =
        subst (λ z. is_among z (list_at i F) ≡ stands_in k i (is_among z (list_at k F)) (due_at D z)) (sym p.1)
        (ap (λ xs. is_among at xs) (there i small) ∙ free_at k moment left l lists at i a none (omega arith)
        ∙ sym (ap (λ b. stands_in k i b (due_at D at)) own))
    kept_one i n small (inr p) =
        ap (λ xs. is_among n xs) (there i small) ∙ a.kept i n small
        ∙ sym (ap (λ b. stands_in k i b (due_at D n)) (other n p.1)
        ∙ ap (λ o. stands_in k i (is_among n (list_at k lists)) o) (due_other l.notes at n (Some due) p.1))

    late_one : (n : ℕ) → is_among n (list_at k F) ≡ true → Compared n at → is_due moment (due_at D n) ≡ true
    late_one n among (inl p) =
        subst (λ z. is_due moment (due_at D z) ≡ true) (sym p.1)
        (ap (λ o. is_due moment o) (due_own l.notes at (Some due) (omega (arith, a.dues_long))) ∙ le-leb due moment early)
    late_one n among (inr p) =
        ap (λ o. is_due moment o) (due_other l.notes at n (Some due) p.1) ∙ a.late n (sym (other n p.1) ∙ among)

    rest_one : (n d : ℕ) → is_among n (list_at k F) ≡ false → due_at D n ≡ Some d → d ≤ moment → Compared n at
        → Awaits k moment left d
    rest_one n d out noted_is early (inl p) =
        absurd (let f : true ≡ false = sym own ∙ sym (ap (λ z. is_among z (list_at k F)) p.1) ∙ out in cc)
    rest_one n d out noted_is early (inr p) =
        a.rest n d (sym (other n p.1) ∙ out) (sym (due_other l.notes at n (Some due) p.1) ∙ noted_is) early

-- a slot that is due later is held
pub kept_later : (k moment left : ℕ) (l : Links) (lists : List (List ℕ)) (at due : ℕ) → 0 < k → k < at → at < length l.next
    → due_at l.notes at ≡ None → moment < due → AreKept k moment left l lists
    → AreKept k moment left (linked_behind (due % k) at (noted at due l)) (fronted (due % k) at lists)
kept_later k moment left l lists at due some big within none later a = record {
  count = length-fronted (due % k) at lists ∙ a.count;
  ring =
      chained_put l.next l.prev (due % k) at lists (omega (arith, a.count)) within
      (away_marked at 0 lists (omega (arith, a.count))
      (λ i h. free_at k moment left l lists at i a none (omega (arith, a.count)))) a.ring;
  dues_long = length-set l.notes at (Some due) ∙ a.dues_long ∙ sym (length-put l.next (due % k) at);
  marks = λ n small. due_other l.notes at n (Some due) (omega arith) ∙ a.marks n small;
  kept = λ i n small. kept_one i n small (eqb_tells n at);
  late = λ n among. late_one n among (eqb_tells n at);
  rest = λ n d out noted_is early. rest_one n d out noted_is early (eqb_tells n at);
}
  where
    low : due % k < k
    low = omega arith

    D : List (Option ℕ)
    D = slice_set l.notes at (Some due)

    F : List (List ℕ)
    F = fronted (due % k) at lists

    here : list_at (due % k) F ≡ at ∷ list_at (due % k) lists
    here = fronted_here (due % k) at lists (omega (arith, a.count, low))

    there : (i : ℕ) → i ≢ due % k → list_at i F ≡ list_at i lists
    there i ne = fronted_there i (due % k) at lists ne

    last : list_at k F ≡ list_at k lists
    last = there k (omega (arith, low))

    new_due : due_at D at ≡ Some due
    new_due = due_own l.notes at (Some due) (omega (arith, a.dues_long))

    out_of_last : is_among at (list_at k F) ≡ false
    out_of_last = ap (λ xs. is_among at xs) last ∙ free_at k moment left l lists at k a none (omega arith)

    own : (i : ℕ) → i < k → Compared i (due % k) → is_among at (list_at i F) ≡ (due % k == i)
    own i small (inl p) =
        subst (λ z. is_among at (list_at z F) ≡ (due % k == z)) (sym p.1)
        (ap (λ xs. is_among at xs) here ∙ among_first at (list_at (due % k) lists) ∙ sym (eq-eqb (due % k) (due % k) refl))
    own i small (inr p) =
        ap (λ xs. is_among at xs) (there i p.1) ∙ free_at k moment left l lists at i a none (omega arith)
        ∙ sym (ne_eqb (due % k) i (λ e. p.1 (sym e)))

    other : (i n : ℕ) → n ≢ at → Compared i (due % k) → is_among n (list_at i F) ≡ is_among n (list_at i lists)
    other i n ne (inl p) =
        subst (λ z. is_among n (list_at z F) ≡ is_among n (list_at z lists)) (sym p.1)
        (ap (λ xs. is_among n xs) here ∙ among_behind n at (list_at (due % k) lists) ne)
    other i n ne (inr p) = ap (λ xs. is_among n xs) (there i p.1)

    kept_one : (i n : ℕ) → i < k → Compared n at
        → is_among n (list_at i F) ≡ stands_in k i (is_among n (list_at k F)) (due_at D n)
    kept_one i n small (inl p) =
        subst (λ z. is_among z (list_at i F) ≡ stands_in k i (is_among z (list_at k F)) (due_at D z)) (sym p.1)
        (own i small (eqb_tells i (due % k))
        ∙ sym (ap (λ b. stands_in k i b (due_at D at)) out_of_last ∙ ap (λ o. in_bucket k i o) new_due))
    kept_one i n small (inr p) =
        other i n p.1 (eqb_tells i (due % k)) ∙ a.kept i n small
        ∙ sym (ap (λ b. stands_in k i b (due_at D n)) (ap (λ xs. is_among n xs) last)
        ∙ ap (λ o. stands_in k i (is_among n (list_at k lists)) o) (due_other l.notes at n (Some due) p.1))

    late_one : (n : ℕ) → is_among n (list_at k F) ≡ true → Compared n at → is_due moment (due_at D n) ≡ true
    late_one n among (inl p) =
        absurd (let f : false ≡ true = sym out_of_last ∙ sym (ap (λ z. is_among z (list_at k F)) p.1) ∙ among in cc)
    late_one n among (inr p) =
        ap (λ o. is_due moment o) (due_other l.notes at n (Some due) p.1) ∙ a.late n (sym (ap (λ xs. is_among n xs) last) ∙ among)

    rest_one : (n d : ℕ) → is_among n (list_at k F) ≡ false → due_at D n ≡ Some d → d ≤ moment → Compared n at
        → Awaits k moment left d
    rest_one n d out noted_is early (inl p) =
        absurd (let f : Some due ≡ Some d = sym new_due ∙ sym (ap (λ z. due_at D z) p.1) ∙ noted_is in
        let same : due ≡ d = cc in omega arith)
    rest_one n d out noted_is early (inr p) =
        a.rest n d (sym (ap (λ xs. is_among n xs) last) ∙ out) (sym (due_other l.notes at n (Some due) p.1) ∙ noted_is) early

-- a node whose due has come moves to the list of what is due
pub kept_moved : (k moment left : ℕ) (l : Links) (lists : List (List ℕ)) (at due : ℕ) → 0 < k → due_at l.notes at ≡ Some due
    → due ≤ moment → AreKept k moment left l lists
    → AreKept k moment left (linked_behind k at (unlinked at l)) (fronted k at (map (without_node at) lists))
kept_moved k moment left l lists at due some e early a =
    let own : HasPlace l.next l.prev at = held_place k moment left l lists at due some a e in
    let cut : AreKept k moment left (freed at (unlinked at l)) (map (without_node at) lists) =
    kept_removed k moment left l lists at due some e a in
    let again : slice_set (slice_set l.notes at None) at (Some due) ≡ l.notes =
    due_again l.notes at (Some due) (omega (arith, a.dues_long, own.own)) e in
    let put : AreKept k moment left (linked_behind k at (noted at due (freed at (unlinked at l))))
    (fronted k at (map (without_node at) lists))
    = kept_come k moment left (freed at (unlinked at l)) (map (without_node at) lists) at due
    (behind_marks k moment left l lists at due a e) (omega (arith, own.own, length-cut l.next l.prev at))
    (due_freed l.notes at) early cut in
    subst (λ ds. AreKept k moment left
    (record { next = (linked_behind k at (unlinked at l)).next; prev = (linked_behind k at (unlinked at l)).prev; notes = ds })
    (fronted k at (map (without_node at) lists))) again put
