-- A closed hall: all books with the notes of all pages, and all seats. Source: this project's own.
use Rattle.std.specs.Prelude.{◌≡◌, ◌⊎◌, ℕ, ◌<◌, List, [], ◌∷◌, ◌++◌, length, map, cond, ◌==◌, slice_get, Option, Some, None, All}
use Rattle.tc_locked.specs.declared.view.Note.{Note}
use Rattle.tc_locked.specs.declared.view.Face.{Face}
use Rattle.tc_locked.specs.declared.view.View.{View}
use Rattle.tc_locked.specs.Views.{face, of_user, by_seat}
use Rattle.tc_model.specs.Caching.{Replays}
use Rattle.tc_plain.specs.Laws.{user_caching}
use Rattle.tc_plain.specs.Freshness.{IsCell, hits_in}
use Rattle.tc_locked.specs.declared.audit.Audit.{Audit}
use Rattle.tc_locked.specs.declared.call_entry.CallEntry.{CallEntry}
use Rattle.tc_locked.specs.declared.call_entry.Slip.{Slip}
use Rattle.tc_locked.specs.Books.{BookState, events_of}
use Rattle.tc_locked.specs.Calls.{IsUser}
use Rattle.tc_locked.specs.HallBooks.{Terms, HallBookState, SeatState, IsHallBook, entries_in}

-- what a view has of a book
abbrev pub book_face : HallBookState → Face
book_face k = face k.user k.log

-- what a view has of a seat
abbrev pub seat_face : SeatState → Face
seat_face s = face s.number s.notes

-- the seat of which a view has this
abbrev pub seat_of : Face → SeatState
seat_of f = record { number = f.number; notes = f.notes }

-- a view that took these books in
abbrev pub add_books : View → List Face → View
add_books v fs = record {
  mints = v.mints;
  books_made = v.books_made;
  seats_made = v.seats_made;
  books = v.books ++ fs;
  seats = v.seats;
}

-- a view that took these seats in
abbrev pub add_seats : View → List Face → View
add_seats v fs = record {
  mints = v.mints;
  books_made = v.books_made;
  seats_made = v.seats_made;
  books = v.books;
  seats = v.seats ++ fs;
}

-- a book that has left its lock and its seat
pub record ShutState : Type 0 where
  pub user : ℕ
  pub book : BookState

-- what is left of what lay under a lock
abbrev pub shut_of : HallBookState → ShutState
shut_of k = record { user = k.user; book = k.book }

-- what lay under the lock, from what is left of it and what the view took in
abbrev pub with_log : ShutState → Face → HallBookState
with_log s f = record { user = s.user; book = s.book; log = f.notes }

-- the same of all
abbrev pub with_logs : List ShutState → List Face → List HallBookState
with_logs [] fs = []
with_logs (s ∷ ss) [] = []
with_logs (s ∷ ss) (f ∷ fs) = with_log s f ∷ with_logs ss fs

-- a closed hall: its books with their notes, and its seats
pub record ClosedState : Type 0 where
  pub books : List HallBookState
  pub seats : List SeatState

-- each book is legal, over all pages
abbrev pub AreHallBooks : Terms → List HallBookState → Type 0
AreHallBooks terms [] = Unit {0}
AreHallBooks terms (k ∷ ks) = IsHallBook terms k × AreHallBooks terms ks

-- the notes of the seat in the book are the seat's notes of the book
abbrev pub TiedTo : HallBookState → List SeatState → Type 0
TiedTo k [] = Unit {0}
TiedTo k (s ∷ ss) = (by_seat s.number k.log ≡ of_user k.user s.notes) × TiedTo k ss

-- the same of each book and each seat
abbrev pub AllTied : List HallBookState → List SeatState → Type 0
AllTied [] ss = Unit {0}
AllTied (k ∷ ks) ss = TiedTo k ss × AllTied ks ss

-- the books that a view has taken in, with what is left of them
pub record TookBooks (terms : Terms) (before : View) (shut : List ShutState) (after : View) : Type 0 where
  pub books : List HallBookState
  pub left : shut ≡ map shut_of books
  pub kept : AreHallBooks terms books
  pub view : after ≡ add_books before (map book_face books)

-- each seat has this
abbrev pub EachSeat : (SeatState → Type 0) → List SeatState → Type 0
EachSeat P [] = Unit {0}
EachSeat P (s ∷ ss) = P s × EachSeat P ss

-- so many entries does a seat of this number show for the user
abbrev pub IsCountOf : ℕ → ℕ → List SeatState → ℕ → Type 0
IsCountOf seat_no user seats count = EachSeat (λ seat. seat.number ≡ seat_no → count ≡ length (of_user user seat.notes)) seats

-- some book is this user's
abbrev pub HasUser : ℕ → List HallBookState → Type 0
HasUser u [] = ⊥
HasUser u (k ∷ ks) = (k.user ≡ u) ⊎ HasUser u ks

-- a book of the hall, by what is left of it
pub record IsBookOf (user : ℕ) (books : List HallBookState) (shut : ShutState) : Type 0 where
  pub at : ℕ
  pub kept : HallBookState
  pub there : slice_get books at ≡ Some kept
  pub is : kept.user ≡ user
  pub left : shut ≡ shut_of kept

-- the user has a book, whose page is this one
abbrev pub OnPage : ℕ → List HallBookState → ℕ → Type 0
OnPage user books page = (shut : ShutState) × IsBookOf user books shut × (page ≡ shut.book.turns)

-- the user has a book, in which this page was turned
abbrev pub TurnedPage : ℕ → List HallBookState → ℕ → Type 0
TurnedPage user books page = (shut : ShutState) × IsBookOf user books shut × (page < shut.book.turns)

-- the note is one of a seat's
abbrev pub HasNote : List SeatState → Note → Type 0
HasNote [] n = ⊥
HasNote (s ∷ ss) n = ((i : ℕ) × (slice_get s.notes i ≡ Some n)) ⊎ HasNote ss n

-- the note is of the entry that a slip of this user tells of
abbrev pub IsNoteOf : ℕ → Slip → Note → Type 0
IsNoteOf user slip n = (n.user ≡ user) × (n.page ≡ slip.page) × (n.entry.number ≡ slip.number)

-- each user of the hall has a book
abbrev pub AllThere : Terms → List HallBookState → Type 0
AllThere terms books = (u : ℕ) → IsUser (length terms.begins) u → HasUser u books

-- the book of a user
abbrev pub book_of : ℕ → List HallBookState → Option BookState
book_of user [] = None
book_of user (k ∷ ks) = cond (k.user == user) (Some k.book) (book_of user ks)

-- the audit of a page each of whose calls comes to its outcome again
abbrev pub all_agree : BookState → Audit
all_agree b = record { compared = length b.entries; difference = None }

-- from what the page began with, the commands of its entries give the outcomes that are kept
abbrev pub HasLegalPage : BookState → Type 0
HasLegalPage b = Replays user_caching 0 b.opening (events_of b.entries)

-- each hit of the user is what the entries before it last left under its key, at
-- its moment: never an item expired, deleted or flushed
abbrev pub ShowsFresh : HallBookState → Type 0
ShowsFresh k =
    (before after : List CallEntry) (e : CallEntry) → entries_in k.log ≡ before ++ e ∷ after
    → All (IsCell (events_of before) e.moment) (hits_in e.outcome)

-- the same of all books
abbrev pub AllFresh : List HallBookState → Type 0
AllFresh [] = Unit {0}
AllFresh (k ∷ ks) = ShowsFresh k × AllFresh ks
