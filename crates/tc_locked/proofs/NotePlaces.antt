-- Where the entry of a note stands.
use Rattle.std.proofs.Common.{◌==◌, eq-eqb, ◌⊎◌, ⊎_elim, inl, inr, true, false, Bool, Some, ◌≡◌, ℕ, zero, suc, ◌+◌, ◌<◌, List, []}
use Rattle.std.proofs.Common.{◌∷◌, ◌++◌, map, length, refl, sym, ap, ◌∙◌, subst, arith, length-append}
use Rattle.std.specs.Prelude.{slice_get, slice_set, replicate, IfSome, IfNone, Option, None, IfOk, Result, Ok, Err}
use Rattle.std.specs.List.{filter}
use Rattle.std.proofs.lemmas.List.{length-map}
use Rattle.tc_locked.specs.declared.call_entry.CallEntry.{CallEntry}
use Rattle.tc_locked.specs.declared.view.Note.{Note}
use Rattle.tc_locked.specs.Views.{note, by_seat, of_user}
use Rattle.tc_locked.specs.Books.{AreNumbered}
use Rattle.tc_locked.specs.Closing.{ShutState, AreHallBooks, AllTied, TiedTo, IsBookOf, HasNote}
use Rattle.tc_locked.proofs.HallBooks.{AllBefore, pages_before}
use Rattle.tc_locked.proofs.ClosedHalls.{tied_at, kept_at}
use Rattle.tc_locked.specs.HallBooks.{Terms, HallBookState, SeatState, IsHallBook, entries_in, on_page}

pub numbers : (number : ℕ) (counts : List ℕ) (es : List CallEntry) (p : ℕ) (e : CallEntry) → AreNumbered number counts es
    → slice_get es p ≡ Some e → e.number ≡ number + p + 1
numbers number counts [] p e l at = absurd (cc)
numbers number counts (x ∷ es) zero e l at =
    let same : x ≡ e = cc in let n = l.0.number_is in let k = ap (λ (y : CallEntry). y.number) same in omega arith
numbers number counts (x ∷ es) (suc p) e l at =
    let r = numbers (number + 1) (slice_set counts x.seat x.tally) es p e l.1 at in omega arith

at_mapped : {A B : Type 0} (f : A → B) (xs : List A) (p : ℕ) (x : A) → slice_get xs p ≡ Some x
    → slice_get (map f xs) p ≡ Some (f x)
at_mapped f [] p x at = absurd (cc)
at_mapped f (y ∷ xs) zero x at = let same : y ≡ x = cc in ap (λ z. Some (f z)) same
at_mapped f (y ∷ xs) (suc p) x at = at_mapped f xs p x at

before_at : (t : ℕ) (ns : List Note) (p : ℕ) (n : Note) → AllBefore t ns → slice_get ns p ≡ Some n → n.page < t
before_at t [] p n h at = absurd (cc)
before_at t (x ∷ ns) zero n h at = let same : x ≡ n = cc in subst (λ (y : Note). y.page < t) same h.0
before_at t (x ∷ ns) (suc p) n h at = before_at t ns p n h.1 at

on_page_at : (u t : ℕ) (es : List CallEntry) (j : ℕ) (n : Note) → slice_get (on_page u t es) j ≡ Some n
    → (slice_get es j ≡ Some n.entry) × (n.page ≡ t)
on_page_at u t [] j n at = absurd (cc)
on_page_at u t (e ∷ es) zero n at =
    let same : note u t e ≡ n = cc in (ap (λ (y : Note). Some y.entry) same, sym (ap (λ (y : Note). y.page) same))
on_page_at u t (e ∷ es) (suc j) n at = on_page_at u t es j n at

parts_at : (u t : ℕ) (older : List Note) (es : List CallEntry) (p : ℕ) (n : Note) → slice_get (older ++ on_page u t es) p ≡ Some n
    → (slice_get older p ≡ Some n) ⊎ ((j : ℕ) × (p ≡ length older + j) × (slice_get es j ≡ Some n.entry) × (n.page ≡ t))
parts_at u t [] es p n at = let h = on_page_at u t es p n at in inr (p, omega arith, h.0, h.1)
parts_at u t (x ∷ older) es zero n at = inl at
parts_at u t (x ∷ older) es (suc p) n at =
    ⊎_elim (λ h. inl h) (λ h. let e = h.1 in inr (h.0, omega arith, h.2, h.3)) (parts_at u t older es p n at)

-- a note of the book stands on an earlier page, or its entry stands on the page at the place that its number names
pub where_is : (terms : Terms) (k : HallBookState) (p : ℕ) (n : Note) → IsHallBook terms k → slice_get k.log p ≡ Some n
    → (n.page < k.book.turns)
    ⊎ ((j : ℕ) × (n.page ≡ k.book.turns) × (slice_get k.book.entries j ≡ Some n.entry)
    × (n.entry.number + length k.book.entries ≡ k.book.number + j + 1))
where_is terms k p n h at =
    let w = h.whole in
    let number = numbers 0 (replicate terms.seats 0) (entries_in k.log) p n.entry w.numbered
    (at_mapped (λ (x : Note). x.entry) k.log p n at) in
    let all = w.number in
    let len : length (entries_in k.log) ≡ length k.log = length-map k.log (λ (x : Note). x.entry) in
    let lens : length k.log ≡ length h.older + length k.book.entries =
    ap length h.page ∙ length-append h.older (on_page k.user k.book.turns k.book.entries)
    ∙ ap (λ m. length h.older + m) (length-map k.book.entries (λ (x : CallEntry). note k.user k.book.turns x)) in
    ⊎_elim
    (λ (o : slice_get h.older p ≡ Some n). inl (before_at k.book.turns h.older p n
    (pages_before k.user terms.journal k.book.turns h.older h.turned) o))
    (λ o. let at' = o.1 in inr (o.0, o.3, o.2, omega arith))
    (parts_at k.user k.book.turns h.older k.book.entries p n (subst (λ (l : List Note). slice_get l p ≡ Some n) h.page at))

-- what a filter keeps stood in the list, and what passes is kept
from_more : {A : Type 0} (t : A → Bool) (y : A) (xs : List A) (x : A)
    → ((i : ℕ) → slice_get (filter t xs) i ≡ Some x → (p : ℕ) × (slice_get xs p ≡ Some x)) → (b : Bool) → t y ≡ b → (i : ℕ)
    → slice_get (filter t (y ∷ xs)) i ≡ Some x → (p : ℕ) × (slice_get (y ∷ xs) p ≡ Some x)
from_more t y xs x h true is zero at = (0, simp is at at)
from_more t y xs x h true is (suc i) at = let r = h i (simp is at at) in (suc r.0, r.1)
from_more t y xs x h false is i at = let r = h i (simp is at at) in (suc r.0, r.1)

pub filter_from : {A : Type 0} (t : A → Bool) (xs : List A) (i : ℕ) (x : A) → slice_get (filter t xs) i ≡ Some x
    → (p : ℕ) × (slice_get xs p ≡ Some x)
filter_from t [] i x at = absurd (cc)
filter_from t (y ∷ xs) i x at = from_more t y xs x (λ j e. filter_from t xs j x e) (t y) refl i at

into_more : {A : Type 0} (t : A → Bool) (y : A) (xs : List A) (x : A) → ((i : ℕ) × (slice_get (filter t xs) i ≡ Some x))
    → (b : Bool) → t y ≡ b → (i : ℕ) × (slice_get (filter t (y ∷ xs)) i ≡ Some x)
into_more t y xs x h true is = (suc h.0, simp is h.1)
into_more t y xs x h false is = (h.0, simp is h.1)

pub filter_into : {A : Type 0} (t : A → Bool) (xs : List A) (p : ℕ) (x : A) → slice_get xs p ≡ Some x → t x ≡ true
    → (i : ℕ) × (slice_get (filter t xs) i ≡ Some x)
filter_into t [] p x at is = absurd (cc)
filter_into t (y ∷ xs) zero x at is = let same : x ≡ y = cc in let is' : t y ≡ true = ap t (sym same) ∙ is in (0, simp is' at)
filter_into t (y ∷ xs) (suc p) x at is = into_more t y xs x (filter_into t xs p x at is) (t y) refl

-- a seat's note of a user stands in the user's book
pub in_book : (k : HallBookState) (s : SeatState) (i : ℕ) (n : Note) → by_seat s.number k.log ≡ of_user k.user s.notes
    → slice_get s.notes i ≡ Some n → n.user ≡ k.user → (p : ℕ) × (slice_get k.log p ≡ Some n)
in_book k s i n tied at is =
    let kept = filter_into (λ (x : Note). x.user == k.user) s.notes i n at (eq-eqb n.user k.user is) in
    filter_from (λ (x : Note). x.entry.seat == s.number) k.log kept.0 n (ap (λ l. slice_get l kept.0) tied ∙ kept.1)

-- ---- the entry of a receipt
pub record Placed (user : ℕ) (books : List HallBookState) (x : ShutState) (n : Note) : Type 0 where
  pub is : (n.page < x.book.turns)
      ⊎ ((j : ℕ) × (n.page ≡ x.book.turns) × (slice_get x.book.entries j ≡ Some n.entry)
      × (n.entry.number + length x.book.entries ≡ x.book.number + j + 1))

note_tied : (k : HallBookState) (ss : List SeatState) (n : Note) → TiedTo k ss → HasNote ss n → n.user ≡ k.user
    → (p : ℕ) × (slice_get k.log p ≡ Some n)
note_tied k [] n t h is = absurd h
note_tied k (s ∷ ss) n t h is =
    ⊎_elim (λ (o : (i : ℕ) × (slice_get s.notes i ≡ Some n)). in_book k s o.0 n t.0 o.1 is)
    (λ (r : HasNote ss n). note_tied k ss n t.1 r is) h

pub placed : (terms : Terms) (user : ℕ) (ks : List HallBookState) (ss : List SeatState) (x : ShutState) (n : Note) → AreHallBooks terms ks
    → AllTied ks ss → IsBookOf user ks x → HasNote ss n → n.user ≡ user → Placed user ks x n
placed terms user ks ss x n kept tied b has is =
    let k = b.kept in
    let at = note_tied k ss n (tied_at ks ss b.at k tied b.there) has (is ∙ sym b.is) in
    record {
      is = subst
          (λ (s : ShutState). (n.page < s.book.turns)
          ⊎ ((j : ℕ) × (n.page ≡ s.book.turns) × (slice_get s.book.entries j ≡ Some n.entry)
          × (n.entry.number + length s.book.entries ≡ s.book.number + j + 1)))
          (sym b.left) (where_is terms k at.0 n (kept_at terms ks b.at k kept b.there) at.1);
    }

pub both_ok : {A E : Type 0} (P Q R : A → Type 0) (r : Result A E) → ((x : A) → P x → Q x → R x) → IfOk r P → IfOk r Q → IfOk r R
both_ok P Q R (Ok x) f p q = f x p q
both_ok P Q R (Err e) f p q = tt

pub if_some_map : {A : Type 0} (P Q : A → Type 0) (o : Option A) → ((x : A) → P x → Q x) → IfSome o P → IfSome o Q
if_some_map P Q None f h = tt
if_some_map P Q (Some x) f h = f x h

pub if_none_map : {A : Type 0} (P Q : Type 0) (o : Option A) → (P → Q) → IfNone o P → IfNone o Q
if_none_map P Q None f h = f h
if_none_map P Q (Some x) f h = tt

pub if_none_of : {A : Type 0} (Q : Type 0) (o : Option A) → Q → IfNone o Q
if_none_of Q None q = q
if_none_of Q (Some x) q = tt
