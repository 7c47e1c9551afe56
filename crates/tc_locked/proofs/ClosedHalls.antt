-- The end of a hall.
use Rattle.std.proofs.Common.{Bool, cond, take, None, ◌≢◌, inl, inr, ◌⊎◌, ⊎_elim, true, false, true≢false, eq-eqb, ◌==◌, get_or}
use Rattle.std.proofs.Common.{Some, ◌≡◌, ℕ, zero, suc, ◌<◌, ◌≤◌, List, [], ◌∷◌, ◌++◌, map, length, refl, sym, ap, ◌∙◌, subst}
use Rattle.std.proofs.Common.{arith, append_assoc}
use Rattle.std.proofs.lemmas.List.{append-nil, map-append, length-map}
use Rattle.std.specs.Prelude.{slice_index_or, slice_index, slice_get}
use Rattle.std.specs.List.{remove}
use Rattle.tc_locked.specs.declared.view.Face.{Face}
use Rattle.tc_locked.specs.declared.view.View.{View}
use Rattle.tc_locked.specs.Views.{book_view, seat_view, both_of, of_user, by_seat}
use native.Mathlib.Decide.{ℕ_discrete}
use Rattle.tc_model.specs.Ring.{IsAway, AreDistinct, AreBelow}
use Rattle.tc_model.specs.Connection.{user_at}
use Rattle.tc_model.proofs.Counted.{distinct_below}
use Rattle.tc_locked.specs.Calls.{IsUser}
use Rattle.tc_locked.specs.Rule.{Each, Apart, Tied}
use Rattle.tc_locked.specs.HallBooks.{Terms, HallBookState, SeatState, IsHallBook}
use Rattle.tc_locked.proofs.HallBooks.{kept_count}
use Rattle.tc_locked.specs.Closing.{book_face, seat_face, seat_of, add_seats, ShutState, shut_of, with_log, with_logs, AreHallBooks}
use Rattle.tc_locked.specs.Closing.{TiedTo, AllTied, TookBooks, EachSeat, HasUser, IsBookOf, AllThere, book_of}

pub all_kept_push : (terms : Terms) (ks : List HallBookState) (k : HallBookState) → AreHallBooks terms ks → IsHallBook terms k
    → AreHallBooks terms (ks ++ k ∷ [])
all_kept_push terms [] k h is = (is, tt)
all_kept_push terms (x ∷ ks) k h is = (h.0, all_kept_push terms ks k h.1 is)

pub took_none : (terms : Terms) (v : View) (shut : List ShutState) → shut ≡ [] → TookBooks terms v shut v
took_none terms v shut is = record {
  books = [];
  left = is;
  kept = tt;
  view = ap
      (λ (fs : List Face). record {
        mints = v.mints;
        books_made = v.books_made;
        seats_made = v.seats_made;
        books = fs;
        seats = v.seats;
      })
      (sym (append-nil v.books));
}

pub took_more : (terms : Terms) (v w u : View) (shut more : List ShutState) (k : HallBookState) → TookBooks terms v shut w
    → IsHallBook terms k → more ≡ shut ++ shut_of k ∷ [] → u ≡ both_of w (book_view k.user k.log) → TookBooks terms v more u
took_more terms v w u shut more k h is longer view =
    let both : (v.books ++ map book_face h.books) ++ book_face k ∷ [] ≡ v.books ++ map book_face (h.books ++ k ∷ []) =
    append_assoc v.books (map book_face h.books) (book_face k ∷ [])
    ∙ ap (λ l. v.books ++ l) (sym (map-append book_face h.books (k ∷ []))) in record {
      books = h.books ++ k ∷ [];
      left = longer ∙ ap (λ l. l ++ shut_of k ∷ []) h.left ∙ sym (map-append shut_of h.books (k ∷ []));
      kept = all_kept_push terms h.books k h.kept is;
      view =
          view ∙ ap (λ x. both_of x (book_view k.user k.log)) h.view
          ∙ (λ i. record {
            mints = v.mints;
            books_made = v.books_made;
            seats_made = v.seats_made;
            books = both i;
            seats = append-nil v.seats i;
          });
    }

-- ---- what the one view says of books and seats
seats_back : (ss : List SeatState) → map seat_of (map seat_face ss) ≡ ss
seats_back [] = refl
seats_back (s ∷ ss) = ap (λ l. s ∷ l) (seats_back ss)

books_back : (ks : List HallBookState) → with_logs (map shut_of ks) (map book_face ks) ≡ ks
books_back [] = refl
books_back (k ∷ ks) = ap (λ l. k ∷ l) (books_back ks)

tied_one : (k : HallBookState) (ss : List SeatState) → Each (λ g. by_seat g.number k.log ≡ of_user k.user g.notes) (map seat_face ss)
    → TiedTo k ss
tied_one k [] h = tt
tied_one k (s ∷ ss) h = (h.0, tied_one k ss h.1)

tied_all : (ks : List HallBookState) (ss : List SeatState)
    → Each (λ f. Each (λ g. by_seat g.number f.notes ≡ of_user f.number g.notes) (map seat_face ss)) (map book_face ks)
    → AllTied ks ss
tied_all [] ss h = tt
tied_all (k ∷ ks) ss h = (tied_one k ss h.0, tied_all ks ss h.1)

-- ---- each user has a book: n distinct numbers of 1 to n
slice_get-within : {A : Type 0} (xs : List A) (i : ℕ) (x : A) → slice_get xs i ≡ Some x → i < length xs
slice_get-within [] i x at = absurd (cc)
slice_get-within (y ∷ xs) zero x at = omega arith
slice_get-within (y ∷ xs) (suc i) x at = let lt = slice_get-within xs i x at in omega arith

pub user_at-within : {A : Type 0} (xs : List A) (u : ℕ) (x : A) → user_at xs u ≡ Some x → IsUser (length xs) u
user_at-within xs zero x at = absurd (cc)
user_at-within xs (suc i) x at = (omega arith, let lt = slice_get-within xs i x at in omega arith)

abbrev users_of : List HallBookState → List ℕ
users_of [] = []
users_of (k ∷ ks) = k.user ∷ users_of ks

kept_user : (terms : Terms) (k : HallBookState) → IsHallBook terms k → IsUser (length terms.begins) k.user
kept_user terms k h = user_at-within terms.begins k.user h.begins h.begins_at

users_below : (terms : Terms) (ks : List HallBookState) → AreHallBooks terms ks → AreBelow (suc (length terms.begins)) (users_of ks)
users_below terms [] h = tt
users_below terms (k ∷ ks) h = (let u = kept_user terms k h.0 in let le = u.1 in omega arith, users_below terms ks h.1)

users_positive : (terms : Terms) (ks : List HallBookState) → AreHallBooks terms ks → IsAway 0 (users_of ks)
users_positive terms [] h = tt
users_positive terms (k ∷ ks) h =
    ((λ same. let u = kept_user terms k h.0 in let lt = u.0 in omega arith), users_positive terms ks h.1)

users_away : (u : ℕ) (ks : List HallBookState) → Each (λ g. g.number ≢ u) (map book_face ks) → IsAway u (users_of ks)
users_away u [] h = tt
users_away u (k ∷ ks) h = ((λ same. h.0 (sym same)), users_away u ks h.1)

users_distinct : (ks : List HallBookState) → Apart (map book_face ks) → AreDistinct (users_of ks)
users_distinct [] h = tt
users_distinct (k ∷ ks) h = (users_away k.user ks h.0, users_distinct ks h.1)

length-users_of : (ks : List HallBookState) → length (users_of ks) ≡ length ks
length-users_of [] = refl
length-users_of (k ∷ ks) = ap suc (length-users_of ks)

has_or_away : (u : ℕ) (ks : List HallBookState) → HasUser u ks ⊎ IsAway u (users_of ks)
has_or_away u [] = inr tt
has_or_away u (k ∷ ks) = go (ℕ_discrete k.user u) (has_or_away u ks)
  where
    go : Dec (k.user ≡ u) → HasUser u ks ⊎ IsAway u (users_of ks) → HasUser u (k ∷ ks) ⊎ IsAway u (users_of (k ∷ ks))
    go (yes same) rest = inl (inl same)
    go (no apart) rest =
        ⊎_elim (λ (h : HasUser u ks). inl (inr h)) (λ (h : IsAway u (users_of ks)). inr ((λ same. apart (sym same)), h)) rest

pub all_there : (terms : Terms) (ks : List HallBookState) → AreHallBooks terms ks → Apart (map book_face ks)
    → length ks ≡ length terms.begins → AllThere terms ks
all_there terms ks kept apart count u is =
    ⊎_elim (λ (h : HasUser u ks). h)
    (λ (away : IsAway u (users_of ks)).
    let some = is.0 in
    let most = is.1 in
    let same = length-users_of ks in
    let few : length (0 ∷ u ∷ users_of ks) ≤ suc (length terms.begins) =
    distinct_below (suc (length terms.begins)) (0 ∷ u ∷ users_of ks) (omega arith, (omega arith, users_below terms ks kept))
    (((λ zero_is. omega arith), users_positive terms ks kept), (away, users_distinct ks apart)) in
    absurd (omega arith))
    (has_or_away u ks)

pub record Ended (terms : Terms) (ss : List SeatState) (shut : List ShutState) (v : View) : Type 0 where
  pub seats : map seat_of v.seats ≡ ss
  pub count : length (with_logs shut v.books) ≡ length shut
  pub kept : AreHallBooks terms (with_logs shut v.books)
  pub tied : AllTied (with_logs shut v.books) (map seat_of v.seats)
  pub there : AllThere terms (with_logs shut v.books)

ended_at : (terms : Terms) (ks : List HallBookState) (ss : List SeatState) (v : View) (shut : List ShutState)
    → v.books ≡ map book_face ks → v.seats ≡ map seat_face ss → shut ≡ map shut_of ks → AreHallBooks terms ks → Tied v → Apart v.books
    → length shut ≡ length terms.begins → Ended terms ss shut v
ended_at terms ks ss v shut b s left kept tied apart all =
    let books : with_logs shut v.books ≡ ks = (λ i. with_logs (left i) (b i)) ∙ books_back ks in
    let seats : map seat_of v.seats ≡ ss = ap (map seat_of) s ∙ seats_back ss in record {
      seats = seats;
      count = ap length books ∙ sym (ap length left ∙ length-map ks shut_of);
      kept = subst (AreHallBooks terms) (sym books) kept;
      tied = subst (λ (x : List HallBookState × List SeatState). AllTied x.0 x.1) (λ i. (sym books i, sym seats i))
          (tied_all ks ss (subst
          (λ (x : List Face × List Face). Each (λ f. Each (λ g. by_seat g.number f.notes ≡ of_user f.number g.notes) x.1) x.0)
          (λ i. (b i, s i)) tied));
      there =
          subst (AllThere terms) (sym books)
          (all_there terms ks kept (subst Apart b apart) (sym (length-map ks shut_of) ∙ sym (ap length left) ∙ all));
    }

pub ended : (terms : Terms) (first w v : View) (s : SeatState) (ss : List SeatState) (shut : List ShutState)
    → first ≡ seat_view s.number s.notes → w ≡ add_seats first (map seat_face ss) → TookBooks terms w shut v → Tied v
    → Apart v.books → length shut ≡ length terms.begins
    → Ended terms (s ∷ ss) shut v
ended terms first w v s ss shut is seated took tied apart all =
    ended_at terms took.books (s ∷ ss) v shut
    (ap (λ x. x.books) took.view ∙ ap (λ (x : View). x.books ++ map book_face took.books) seated
    ∙ ap (λ (x : View). x.books ++ map book_face took.books) is)
    (ap (λ x. x.seats) took.view ∙ ap (λ (x : View). x.seats) seated ∙ ap (λ (x : View). x.seats ++ map seat_face ss) is)
    took.left took.kept tied apart all

-- the first and the others
pub first_and_rest : (xs : List SeatState) (x : SeatState) (ys : List SeatState) → 0 < length xs → x ≡ slice_index_or xs 0 x
    → ys ≡ remove xs 0 → x ∷ ys ≡ xs
first_and_rest [] x ys lt is rest = absurd (omega arith)
first_and_rest (z ∷ zs) x ys lt is rest = λ i. is i ∷ rest i

-- ---- one book of a closed hall
at_shut : (ss : List ShutState) (fs : List Face) (i : ℕ) (d : ShutState) → length (with_logs ss fs) ≡ length ss → i < length ss
    → (k : HallBookState) × (slice_get (with_logs ss fs) i ≡ Some k) × (get_or ss i d ≡ shut_of k)
at_shut [] fs i d same lt = absurd (omega arith)
at_shut (s ∷ ss) [] i d same lt = absurd (omega arith)
at_shut (s ∷ ss) (f ∷ fs) zero d same lt = (with_log s f, refl, refl)
at_shut (s ∷ ss) (f ∷ fs) (suc i) d same lt = at_shut ss fs i d (omega arith) (omega arith)

pub book_found : (user : ℕ) (ss : List ShutState) (fs : List Face) (i : ℕ) (x : ShutState) → length (with_logs ss fs) ≡ length ss
    → i < length ss → x ≡ get_or ss i x → x.user ≡ user → IsBookOf user (with_logs ss fs) x
book_found user ss fs i x same lt is mine =
    let k = at_shut ss fs i x same lt in
    record { at = i; kept = k.0; there = k.1; is = sym (ap (λ (s : ShutState). s.user) (is ∙ k.2)) ∙ mine; left = is ∙ k.2 }

pub none_found : (user : ℕ) (ss : List ShutState) (fs : List Face)
    → ((k : ℕ) (d : ShutState) → k < length ss → ((get_or ss k d).user == user) ≡ false) → HasUser user (with_logs ss fs) → ⊥
none_found user [] fs h has = has
none_found user (s ∷ ss) [] h has = has
none_found user (s ∷ ss) (f ∷ fs) h has =
    ⊎_elim (λ (e : s.user ≡ user). true≢false (sym (eq-eqb s.user user e) ∙ h 0 s (omega arith)))
    (λ (r : HasUser user (with_logs ss fs)). none_found user ss fs (λ k d lt. h (suc k) d (omega arith)) r) has

pub kept_at : (terms : Terms) (ks : List HallBookState) (i : ℕ) (k : HallBookState) → AreHallBooks terms ks → slice_get ks i ≡ Some k
    → IsHallBook terms k
kept_at terms [] i k h at = absurd (cc)
kept_at terms (x ∷ ks) zero k h at = let same : x ≡ k = cc in subst (IsHallBook terms) same h.0
kept_at terms (x ∷ ks) (suc i) k h at = kept_at terms ks i k h.1 at

pub tied_at : (ks : List HallBookState) (ss : List SeatState) (i : ℕ) (k : HallBookState) → AllTied ks ss → slice_get ks i ≡ Some k
    → TiedTo k ss
tied_at [] ss i k h at = absurd (cc)
tied_at (x ∷ ks) ss zero k h at = let same : x ≡ k = cc in subst (λ y. TiedTo y ss) same h.0
tied_at (x ∷ ks) ss (suc i) k h at = tied_at ks ss i k h.1 at

counted : (user n seat : ℕ) (k : HallBookState) (ss : List SeatState) → k.user ≡ user → n ≡ length (by_seat seat k.log) → TiedTo k ss
    → EachSeat (λ s. s.number ≡ seat → n ≡ length (of_user user s.notes)) ss
counted user n seat k [] is count h = tt
counted user n seat k (s ∷ ss) is count h = (
  (λ e. count ∙ ap (λ (m : ℕ). length (by_seat m k.log)) (sym e) ∙ ap length h.0
      ∙ ap (λ (u : ℕ). length (of_user u s.notes)) is),
  counted user n seat k ss is count h.1,
)

pub count_is : (terms : Terms) (user n seat : ℕ) (ks : List HallBookState) (ss : List SeatState) (x : ShutState) → seat < terms.seats
    → IsBookOf user ks x → n ≡ slice_index x.book.counts seat → AreHallBooks terms ks → AllTied ks ss
    → EachSeat (λ s. s.number ≡ seat → n ≡ length (of_user user s.notes)) ss
count_is terms user n seat ks ss x lt b count kept tied =
    counted user n seat b.kept ss b.is
    (count ∙ ap (λ (s : ShutState). slice_index s.book.counts seat) b.left
    ∙ kept_count terms b.kept seat lt (kept_at terms ks b.at b.kept kept b.there))
    (tied_at ks ss b.at b.kept tied b.there)

pub counts_of : (terms : Terms) (user : ℕ) (ks : List HallBookState) (x : ShutState) → IsBookOf user ks x → AreHallBooks terms ks
    → length x.book.counts ≡ terms.seats
counts_of terms user ks x b kept =
    ap (λ (s : ShutState). length s.book.counts) b.left ∙ (kept_at terms ks b.at b.kept kept b.there).counts

pub keeps_of : (terms : Terms) (user : ℕ) (ks : List HallBookState) (x : ShutState) → IsBookOf user ks x → AreHallBooks terms ks
    → x.book.keeps ≡ terms.keeps
keeps_of terms user ks x b kept =
    ap (λ (s : ShutState). s.book.keeps) b.left ∙ (kept_at terms ks b.at b.kept kept b.there).keeps

-- ---- the first book of a user
pub book_of-found : (user : ℕ) (ss : List ShutState) (fs : List Face) (i : ℕ) (x : ShutState)
    → length (with_logs ss fs) ≡ length ss → i < length ss → x ≡ get_or ss i x → x.user ≡ user
    → ((k : ℕ) (d : ShutState) → k < length (take i ss) → ((get_or (take i ss) k d).user == user) ≡ false)
    → Some x.book ≡ book_of user (with_logs ss fs)
book_of-found user [] fs i x same lt is mine h = absurd (omega arith)
book_of-found user (s ∷ ss) [] i x same lt is mine h = absurd (omega arith)
book_of-found user (s ∷ ss) (f ∷ fs) zero x same lt is mine h =
    let found : (s.user == user) ≡ true = eq-eqb s.user user (ap (λ (y : ShutState). y.user) (sym is) ∙ mine) in
    ap (λ (y : ShutState). Some y.book) is ∙ sym (ap (λ (b : Bool). cond b (Some s.book) (book_of user (with_logs ss fs))) found)
book_of-found user (s ∷ ss) (f ∷ fs) (suc i) x same lt is mine h =
    book_of-found user ss fs i x (omega arith) (omega arith) is mine (λ k d l. h (suc k) d (omega arith))
    ∙ sym (ap (λ (b : Bool). cond b (Some s.book) (book_of user (with_logs ss fs))) (h 0 s (omega arith)))

pub book_of-none : (user : ℕ) (ss : List ShutState) (fs : List Face)
    → ((k : ℕ) (d : ShutState) → k < length ss → ((get_or ss k d).user == user) ≡ false) → None ≡ book_of user (with_logs ss fs)
book_of-none user [] fs h = refl
book_of-none user (s ∷ ss) [] h = refl
book_of-none user (s ∷ ss) (f ∷ fs) h =
    book_of-none user ss fs (λ k d l. h (suc k) d (omega arith))
    ∙ sym (ap (λ (b : Bool). cond b (Some s.book) (book_of user (with_logs ss fs))) (h 0 s (omega arith)))

pub user_known : (terms : Terms) (user : ℕ) (ks : List HallBookState) (x : ShutState) → IsBookOf user ks x → AreHallBooks terms ks
    → IsUser (length terms.begins) user
user_known terms user ks x b kept =
    subst (IsUser (length terms.begins)) b.is (kept_user terms b.kept (kept_at terms ks b.at b.kept kept b.there))
