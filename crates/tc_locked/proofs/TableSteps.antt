-- Each step of the table keeps the rule.
use Rattle.std.proofs.Common.{◌≡◌, ◌≢◌, ◌⊎◌, ℕ, zero, suc, ◌+◌, ◌<◌, ◌==◌, cond, List, [], ◌∷◌, ◌++◌, length, set, Bool, true}
use Rattle.std.proofs.Common.{false, true≢false, refl, sym, ap, ◌∙◌, subst, ⊎_elim, inl, inr, arith, eqb, eq-eqb, ne_eqb}
use Rattle.std.specs.List.{filter}
use Rattle.std.proofs.lemmas.List.Elements.{filter-append}
use Rattle.std.proofs.lemmas.List.{append-nil}
use mathlib.Core.Option.{none, some, some-ne-none, some-injective}
use lib.ListN.{get_elem?}
use Rattle.atomic_table.specs.Table.{Me, step, keeps, Allows, Splits, Joins, opening}
use Rattle.atomic_table.proofs.Lists.{at_set, set_again, set_here}
use Rattle.tc_locked.specs.declared.call_entry.CallEntry.{CallEntry}
use Rattle.tc_locked.specs.declared.view.Note.{Note}
use Rattle.tc_locked.specs.declared.view.Face.{Face}
use Rattle.tc_locked.specs.declared.view.View.{View}
use Rattle.tc_locked.specs.Views.{note, of_user, by_seat, blank, first_view, joined_view, both_of, seats_of, books_of, with_book}
use Rattle.tc_locked.specs.Views.{new_book, with_seat, new_seat}
use Rattle.tc_locked.specs.Rule.{Each, Apart, One, Truth, FitsMint, FitsBooks, FitsSeats, Fits, Bounded, AllFit, Holds, Adds, Tied}
use Rattle.tc_locked.specs.Rule.{Ties}

off : false ≡ true → ⊥
off e = true≢false (sym e)

-- ---- lists of faces
pub each_map : {P Q : Face → Type 0} (fs : List Face) → ((f : Face) → P f → Q f) → Each P fs → Each Q fs
each_map [] h e = tt
each_map (f ∷ fs) h e = (h f e.0, each_map fs h e.1)

pub each_append : (P : Face → Type 0) (fs gs : List Face) → Each P fs → Each P gs → Each P (fs ++ gs)
each_append P [] gs e k = k
each_append P (f ∷ fs) gs e k = (e.0, each_append P fs gs e.1 k)

pub apart_append : (fs gs : List Face) → Apart fs → Apart gs → Each (λ f. Each (λ g. g.number ≢ f.number) gs) fs
    → Apart (fs ++ gs)
apart_append [] gs a b c = b
apart_append (f ∷ fs) gs a b c = (each_append (λ g. g.number ≢ f.number) fs gs a.0 c.0, apart_append fs gs a.1 b c.1)

-- ---- two filters
swap_step : {A : Type 0} (p q : A → Bool) (x : A) (xs : List A) (a b : Bool) → p x ≡ a → q x ≡ b
    → filter p (filter q xs) ≡ filter q (filter p xs) → filter p (filter q (x ∷ xs)) ≡ filter q (filter p (x ∷ xs))
swap_step p q x xs true true is is' h = simp (is, is') (ap (λ l. x ∷ l) h)
swap_step p q x xs true false is is' h = simp (is, is') h
swap_step p q x xs false true is is' h = simp (is, is') h
swap_step p q x xs false false is is' h = simp (is, is') h

pub filters_swap : {A : Type 0} (p q : A → Bool) (xs : List A) → filter p (filter q xs) ≡ filter q (filter p xs)
filters_swap p q [] = refl
filters_swap p q (x ∷ xs) = swap_step p q x xs (p x) (q x) refl refl (filters_swap p q xs)

-- a note of another user, or another seat, adds nothing
pub of_other_user : (u : ℕ) (log : List Note) (n : Note) → n.user ≢ u → of_user u (log ++ n ∷ []) ≡ of_user u log
of_other_user u log n apart =
    filter-append (λ (x : Note). x.user == u) log (n ∷ [])
    ∙ ap (λ (b : Bool). of_user u log ++ cond b (n ∷ []) []) (ne_eqb n.user u apart) ∙ append-nil (of_user u log)

pub of_same_user : (u : ℕ) (log : List Note) (n : Note) → n.user ≡ u → of_user u (log ++ n ∷ []) ≡ of_user u log ++ n ∷ []
of_same_user u log n same =
    filter-append (λ (x : Note). x.user == u) log (n ∷ [])
    ∙ ap (λ (b : Bool). of_user u log ++ cond b (n ∷ []) []) (eq-eqb n.user u same)

pub by_other_seat : (s : ℕ) (log : List Note) (n : Note) → n.entry.seat ≢ s → by_seat s (log ++ n ∷ []) ≡ by_seat s log
by_other_seat s log n apart =
    filter-append (λ (x : Note). x.entry.seat == s) log (n ∷ [])
    ∙ ap (λ (b : Bool). by_seat s log ++ cond b (n ∷ []) []) (ne_eqb n.entry.seat s apart) ∙ append-nil (by_seat s log)

pub by_same_seat : (s : ℕ) (log : List Note) (n : Note) → n.entry.seat ≡ s → by_seat s (log ++ n ∷ []) ≡ by_seat s log ++ n ∷ []
by_same_seat s log n same =
    filter-append (λ (x : Note). x.entry.seat == s) log (n ∷ [])
    ∙ ap (λ (b : Bool). by_seat s log ++ cond b (n ∷ []) []) (eq-eqb n.entry.seat s same)

-- ---- views
pub fits_set : (t : Truth) (views : List View) (by : ℕ) (w : View)
    → ((j : ℕ) (v : View) → j ≢ by → get_elem? views j ≡ some v → Fits t j v) → Fits t by w → (j : ℕ) (v : View)
    → get_elem? (set views by w) j ≡ some v → Fits t j v
fits_set t views by w others mine j u e =
    ⊎_elim
    (λ (x : (j ≡ by) × (w ≡ u)). subst (λ (y : ℕ × View). Fits t y.0 y.1) (λ i. (sym x.0 i, x.1 i)) mine)
    (λ (x : (j ≢ by) × (get_elem? views j ≡ some u)). others j u x.0 x.1)
    (at_set views by j w u e)

-- the table at the start
pub begins : (words : List ℕ) → Holds (opening words [] (first_view 1 0))
begins words =
    (record { log = []; books = 1; seats = 0; book_at = λ k. k; seat_at = λ k. k }, ((λ u le. refl), (λ s le. refl)), one)
  where
    one : (by : ℕ) (v : View) → get_elem? (first_view 1 0 ∷ []) by ≡ some v
        → Fits (record { log = []; books = 1; seats = 0; book_at = λ k. k; seat_at = λ k. k }) by v
    one zero v e =
        subst (Fits (record { log = []; books = 1; seats = 0; book_at = λ k. k; seat_at = λ k. k }) 0) (some-injective _ _ e)
        ((λ m. (refl, refl, refl)), tt, tt, tt)
    one (suc by) v e = absurd (some-ne-none v (sym e))

-- ---- a note goes into a book's list and a seat's list at once
abbrev longer : Truth → Note → Truth
longer t n = record { log = t.log ++ n ∷ []; books = t.books; seats = t.seats; book_at = t.book_at; seat_at = t.seat_at }

-- the others know nothing of it
still_fits : (t : Truth) (n : Note) (id : ℕ) → t.book_at n.user ≡ id → t.seat_at n.entry.seat ≡ id → (j : ℕ) (v : View) → j ≢ id
    → Fits t j v → Fits (longer t n) j v
still_fits t n id b s j v apart h = (
  h.0,
  each_map v.books
      (λ f x. (x.0, x.1, x.2 ∙ sym (of_other_user f.number t.log n (λ same. apart (sym x.1 ∙ ap t.book_at (sym same) ∙ b))))) h.1,
  each_map v.seats
      (λ f x. (x.0, x.1, x.2 ∙ sym (by_other_seat f.number t.log n (λ same. apart (sym x.1 ∙ ap t.seat_at (sym same) ∙ s))))) h.2,
  h.3,
)

still_bounded : (t : Truth) (n : Note) → n.user < t.books → n.entry.seat < t.seats → Bounded t → Bounded (longer t n)
still_bounded t n b s h = (
  (λ u le. of_other_user u t.log n (λ same. omega arith) ∙ h.0 u le),
  (λ u le. by_other_seat u t.log n (λ same. omega arith) ∙ h.1 u le),
)

pub adds : (views : List View) (id u s : ℕ) (xs ys : List Note) (p : ℕ) (e : CallEntry) → e.seat ≡ s → AllFit views
    → get_elem? views id ≡ some (joined_view u xs s ys)
    → AllFit (set views id (joined_view u (xs ++ note u p e ∷ []) s (ys ++ note u p e ∷ [])))
adds views id u s xs ys p e by h at =
    let t = h.0 in
    let n = note u p e in
    let mine = h.2 id (joined_view u xs s ys) at in
    let b = mine.1.0 in
    let c = mine.2.0 in
    let seat : t.seat_at e.seat ≡ id = ap t.seat_at by ∙ c.1 in
    let below : e.seat < t.seats = subst (λ (k : ℕ). k < t.seats) (sym by) c.0 in (
      longer t n,
      still_bounded t n b.0 below h.1,
      fits_set (longer t n) views id (joined_view u (xs ++ n ∷ []) s (ys ++ n ∷ []))
          (λ j v apart e'. still_fits t n id b.1 seat j v apart (h.2 j v e')) (
            (λ m. absurd (off m)),
            ((b.0, b.1, ap (λ l. l ++ n ∷ []) b.2 ∙ sym (of_same_user u t.log n refl)), tt),
            ((c.0, c.1, ap (λ l. l ++ n ∷ []) c.2 ∙ sym (by_same_seat s t.log n by)), tt),
            (tt, tt),
          ),
    )

-- ---- two views become one
moved : (at : ℕ) (other id j : ℕ) → at ≡ j → j ≢ other → cond (eqb at other) id at ≡ j
moved at other id j is apart = ap (λ (b : Bool). cond b id at) (ne_eqb at other (λ same. apart (sym is ∙ same))) ∙ is

moved_here : (at other id : ℕ) → at ≡ other → cond (eqb at other) id at ≡ id
moved_here at other id is = ap (λ (b : Bool). cond b id at) (eq-eqb at other is)

abbrev gathered : Truth → ℕ → ℕ → Truth
gathered t other id = record {
  log = t.log;
  books = t.books;
  seats = t.seats;
  book_at = λ k. cond (eqb (t.book_at k) other) id (t.book_at k);
  seat_at = λ k. cond (eqb (t.seat_at k) other) id (t.seat_at k);
}

fits_gathered : (t : Truth) (other id j : ℕ) (v : View) → j ≢ other → Fits t j v → Fits (gathered t other id) j v
fits_gathered t other id j v apart h = (
  h.0,
  each_map v.books (λ f x. (x.0, moved (t.book_at f.number) other id j x.1 apart, x.2)) h.1,
  each_map v.seats (λ f x. (x.0, moved (t.seat_at f.number) other id j x.1 apart, x.2)) h.2,
  h.3,
)

pub joins : (id : ℕ) (v : View) (other : ℕ) (w : View) → Joins {S = CallEntry} Holds id v other w (both_of v w) blank
joins id v other w s h at apart there =
    let t = h.0 in
    let to = gathered t other id in
    let was = ⊎_elim (λ (x : (other ≡ id) × (both_of v w ≡ w)). absurd (apart x.0))
    (λ (x : (other ≢ id) × (get_elem? s.views other ≡ some w)). x.1) (at_set s.views id other (both_of v w) w there) in
    let mine = fits_gathered t other id id v (λ same. apart (sym same)) (h.2 id v at) in
    let theirs = h.2 other w was in
    let both : Fits to id (both_of v w) = (
      mine.0,
      each_append (One to.book_at (λ u. of_user u to.log) to.books id) v.books w.books mine.1
          (each_map w.books (λ f x. (x.0, moved_here (t.book_at f.number) other id x.1, x.2)) theirs.1),
      each_append (One to.seat_at (λ u. by_seat u to.log) to.seats id) v.seats w.seats mine.2
          (each_map w.seats (λ f x. (x.0, moved_here (t.seat_at f.number) other id x.1, x.2)) theirs.2),
      apart_append v.books w.books mine.3 theirs.3
          (each_map v.books (λ f x. each_map w.books (λ g y. λ same. apart (sym y.1 ∙ ap t.book_at same ∙ x.1)) theirs.1)
          (h.2 id v at).1),
    ) in (
      to,
      h.1,
      fits_set to (set s.views id (both_of v w)) other blank
          (λ j u off_other e. ⊎_elim
          (λ (x : (j ≡ id) × (both_of v w ≡ u)). subst (λ (y : ℕ × View). Fits to y.0 y.1) (λ i. (sym x.0 i, x.1 i)) both)
          (λ (x : (j ≢ id) × (get_elem? s.views j ≡ some u)). fits_gathered t other id j u off_other (h.2 j u x.1))
          (at_set s.views id j (both_of v w) u e))
          ((λ m. absurd (off m)), tt, tt, tt),
    )

-- ---- one view becomes two
pub at_end : (l : List View) (a b : View) (j : ℕ) → get_elem? (l ++ a ∷ []) j ≡ some b
    → ((j ≢ length l) × (get_elem? l j ≡ some b)) ⊎ ((j ≡ length l) × (a ≡ b))
at_end [] a b zero e = inr (refl, some-injective a b e)
at_end [] a b (suc j) e = absurd (some-ne-none b (sym e))
at_end (x ∷ xs) a b zero e = inl ((λ h. omega arith), e)
at_end (x ∷ xs) a b (suc j) e =
    ⊎_elim (λ t. let n = t.0 in inl ((λ h. n (omega arith)), t.1)) (λ t. let n = t.0 in inr (omega arith, t.1))
    (at_end xs a b j e)

below_length : (l : List View) (j : ℕ) (v : View) → get_elem? l j ≡ some v → j < length l
below_length [] j v e = absurd (some-ne-none v (sym e))
below_length (x ∷ xs) zero v e = omega arith
below_length (x ∷ xs) (suc j) v e = let h = below_length xs j v e in omega arith

same_length : (l : List View) (j : ℕ) (v : View) → length (set l j v) ≡ length l
same_length [] j v = refl
same_length (x ∷ xs) zero v = refl
same_length (x ∷ xs) (suc j) v = ap suc (same_length xs j v)

-- what a split owes, of the views
pub split_fits : (t to : Truth) (views : List View) (id : ℕ) (v left right : View) → get_elem? views id ≡ some v
    → ((j : ℕ) (u : View) → get_elem? views j ≡ some u → Fits t j u)
    → ((j : ℕ) (u : View) → j ≢ id → j < length views → Fits t j u → Fits to j u) → Fits to id left → Fits to (length views) right
    → (j : ℕ) (u : View) → get_elem? (set views id left ++ right ∷ []) j ≡ some u → Fits to j u
split_fits t to views id v left right at h others mine new j u e =
    ⊎_elim
    (λ (x : (j ≢ length (set views id left)) × (get_elem? (set views id left) j ≡ some u)). fits_set to views id left
    (λ i y apart e'. others i y apart (below_length views i y e') (h i y e')) mine j u x.1)
    (λ (x : (j ≡ length (set views id left)) × (right ≡ u)). subst (λ (y : ℕ × View). Fits to y.0 y.1)
    (λ i. (sym (x.0 ∙ same_length views id left) i, x.1 i)) new)
    (at_end (set views id left) right u j e)

abbrev parted : Truth → ℕ → ℕ → Truth
parted t id new = record {
  log = t.log;
  books = t.books;
  seats = t.seats;
  book_at = λ k. cond (eqb (t.book_at k) id) new (t.book_at k);
  seat_at = t.seat_at;
}

pub parts : (id : ℕ) (v : View) → Splits {S = CallEntry} Holds id v (seats_of v) (books_of v)
parts id v s h at =
    let t = h.0 in
    let new = length s.views in
    let to = parted t id new in
    let mine = h.2 id v at in (
      to,
      h.1,
      split_fits t to s.views id v (seats_of v) (books_of v) at h.2
          (λ j u apart below f. (
            f.0,
            each_map u.books (λ g x. (x.0, moved (t.book_at g.number) id new j x.1 apart, x.2)) f.1,
            f.2,
            f.3,
          ))
          (mine.0, tt, mine.2, tt) (
            (λ m. absurd (off m)),
            each_map v.books (λ g x. (x.0, moved_here (t.book_at g.number) id new x.1, x.2)) mine.1,
            tt,
            mine.3,
          ),
    )

-- ---- the first view hands out a book's seat, or a caller's
one_mint : (t : Truth) (to : Truth) (id j : ℕ) (v u : View) → v.mints ≡ true → FitsMint t id v → j ≢ id → FitsMint t j u
    → FitsMint to j u
one_mint t to id j v u is mine apart theirs m = absurd (apart ((theirs m).0 ∙ sym (mine is).0))

abbrev more_books : Truth → ℕ → Truth
more_books t new = record {
  log = t.log;
  books = t.books + 1;
  seats = t.seats;
  book_at = λ k. cond (eqb k t.books) new (t.book_at k);
  seat_at = t.seat_at;
}

old_book : (k n new at : ℕ) → k < n → cond (eqb k n) new at ≡ at
old_book k n new at lt = ap (λ (b : Bool). cond b new at) (ne_eqb k n (λ same. omega arith))

pub adds_book : (id : ℕ) (v : View) → v.mints ≡ true → Splits {S = CallEntry} Holds id v (with_book v) (new_book v)
adds_book id v is s h at =
    let t = h.0 in
    let new = length s.views in
    let to = more_books t new in
    let mine = h.2 id v at in
    let made = (mine.0 is).1 in
    let more : (j : ℕ) (fs : List Face) → FitsBooks t j fs → FitsBooks to j fs =
    λ j fs f. each_map fs (λ g x. let lt = x.0 in
    (omega arith, old_book g.number t.books new (t.book_at g.number) lt ∙ x.1, x.2)) f in (
      to,
      ((λ u le. h.1.0 u (omega arith)), h.1.1),
      split_fits t to s.views id v (with_book v) (new_book v) at h.2
          (λ j u apart below f. (one_mint t to id j v u is mine.0 apart f.0, more j u.books f.1, f.2, f.3))
          ((λ m. ((mine.0 is).0, ap (λ k. k + 1) made, (mine.0 is).2)), more id v.books mine.1, mine.2, mine.3) (
            (λ m. absurd (off m)),
            (
              (
                subst (λ (k : ℕ). k < t.books + 1) (sym made) (omega arith),
                ap (λ (b : Bool). cond b new (t.book_at v.books_made)) (eq-eqb v.books_made t.books made),
                sym (h.1.0 v.books_made (omega arith)),
              ),
              tt,
            ),
            tt,
            (tt, tt),
          ),
    )

abbrev more_seats : Truth → ℕ → Truth
more_seats t new = record {
  log = t.log;
  books = t.books;
  seats = t.seats + 1;
  book_at = t.book_at;
  seat_at = λ k. cond (eqb k t.seats) new (t.seat_at k);
}

pub adds_seat : (id : ℕ) (v : View) → v.mints ≡ true → Splits {S = CallEntry} Holds id v (with_seat v) (new_seat v)
adds_seat id v is s h at =
    let t = h.0 in
    let new = length s.views in
    let to = more_seats t new in
    let mine = h.2 id v at in
    let made = (mine.0 is).2 in
    let more : (j : ℕ) (fs : List Face) → FitsSeats t j fs → FitsSeats to j fs =
    λ j fs f. each_map fs (λ g x. let lt = x.0 in
    (omega arith, old_book g.number t.seats new (t.seat_at g.number) lt ∙ x.1, x.2)) f in (
      to,
      (h.1.0, (λ u le. h.1.1 u (omega arith))),
      split_fits t to s.views id v (with_seat v) (new_seat v) at h.2
          (λ j u apart below f. (one_mint t to id j v u is mine.0 apart f.0, f.1, more j u.seats f.2, f.3))
          ((λ m. ((mine.0 is).0, (mine.0 is).1, ap (λ k. k + 1) made)), mine.1, more id v.seats mine.2, mine.3) (
            (λ m. absurd (off m)),
            tt,
            (
              (
                subst (λ (k : ℕ). k < t.seats + 1) (sym made) (omega arith),
                ap (λ (b : Bool). cond b new (t.seat_at v.seats_made)) (eq-eqb v.seats_made t.seats made),
                sym (h.1.1 v.seats_made (omega arith)),
              ),
              tt,
            ),
            tt,
          ),
    )

-- ---- what is tied
pub tied : (views : List View) (id : ℕ) (v : View) → AllFit views → get_elem? views id ≡ some v → Tied v
tied views id v h at =
    let t = h.0 in
    let mine = h.2 id v at in
    each_map v.books (λ f x. each_map v.seats (λ g y.
    ap (by_seat g.number) x.2 ∙ filters_swap (λ (n : Note). n.entry.seat == g.number) (λ (n : Note). n.user == f.number) t.log
    ∙ sym (ap (of_user f.number) y.2)) mine.2) mine.1

-- ---- as the table asks
pub adds_allows : (id u s : ℕ) (xs ys : List Note) (p n i k : ℕ) (e : CallEntry) (f : ℕ → ℕ) → e.seat ≡ s
    → Allows Holds n id (joined_view u xs s ys, []) i f (Adds (step n i p k (some e)) (joined_view u xs s ys, []))
adds_allows id u s xs ys p n i k e f by st h len at fits =
    let w = joined_view u (xs ++ note u p e ∷ []) s (ys ++ note u p e ∷ []) in
    let after = adds st.views id u s xs ys p e by h at in (
      w,
      keeps,
      tt,
      after,
      (refl, tied (set st.views id w) id w after (set_here st.views id w (below_length st.views id (joined_view u xs s ys) at))),
    )

pub ties_allows : (n id : ℕ) (me : Me CallEntry View) (i : ℕ) → Allows Holds n id me i (λ x. x) (Ties (step n i 0 0 none) me)
ties_allows n id me i st h len at fits =
    let mine = h.2 id me.0 at in (
      me.0,
      keeps,
      tt,
      subst AllFit (sym (set_again st.views id me.0 at)) h,
      (
        refl,
        tied st.views id me.0 h at,
        mine.3,
        λ is. each_map me.0.books (λ f x. subst (λ k. f.number < k) (sym (mine.0 is).1) x.0) mine.1,
      ),
    )

pub adds_allows_at : (id u s : ℕ) (me : Me CallEntry View) (xs ys : List Note) (p n i k : ℕ) (e : CallEntry) (f : ℕ → ℕ)
    → me ≡ (joined_view u xs s ys, []) → e.seat ≡ s → Allows Holds n id me i f (Adds (step n i p k (some e)) me)
adds_allows_at id u s me xs ys p n i k e f is by =
    subst (λ (m : Me CallEntry View). Allows Holds n id m i f (Adds (step n i p k (some e)) m)) (sym is)
    (adds_allows id u s xs ys p n i k e f by)
