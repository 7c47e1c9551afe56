-- What seats know: lists of notes, each the part of one history that has one user, or one seat. Source: this project's own.
use Rattle.std.specs.Prelude.{ℕ, ◌==◌, ◌+◌, true, false, List, [], ◌∷◌, ◌++◌}
use Rattle.std.specs.List.{filter}
use mathlib.Core.Option.{Option, none, some}
use Rattle.tc_locked.specs.declared.call_entry.CallEntry.{CallEntry}
use Rattle.tc_locked.specs.declared.view.Note.{Note}
use Rattle.tc_locked.specs.declared.view.Face.{Face}
use Rattle.tc_locked.specs.declared.view.View.{View}

-- how many words a hall's table has: 64 lines of memory, of 8 words each
abbrev pub table_words : ℕ
table_words = 512

-- an entry in a user's book, on a page
abbrev pub note : ℕ → ℕ → CallEntry → Note
note u p e = record { user = u; page = p; entry = e }

-- the notes in this user's book
abbrev pub of_user : ℕ → List Note → List Note
of_user u log = filter (λ n. n.user == u) log

-- the notes that this seat wrote
abbrev pub by_seat : ℕ → List Note → List Note
by_seat s log = filter (λ n. n.entry.seat == s) log

-- the notes of a book or of a seat, by its number
abbrev pub face : ℕ → List Note → Face
face n notes = record { number = n; notes = notes }

-- the view of a seat that was taken in
abbrev pub blank : View
blank = record { mints = false; books_made = 0; seats_made = 0; books = []; seats = [] }

-- the first view, which hands out the others
abbrev pub first_view : ℕ → ℕ → View
first_view b s = record { mints = true; books_made = b; seats_made = s; books = []; seats = [] }

-- the view of a book's seat
abbrev pub book_view : ℕ → List Note → View
book_view u notes = record { mints = false; books_made = 0; seats_made = 0; books = face u notes ∷ []; seats = [] }

-- the view of a caller's seat
abbrev pub seat_view : ℕ → List Note → View
seat_view s notes = record { mints = false; books_made = 0; seats_made = 0; books = []; seats = face s notes ∷ [] }

-- both in one
abbrev pub joined_view : ℕ → List Note → ℕ → List Note → View
joined_view u ns s ms = record { mints = false; books_made = 0; seats_made = 0; books = face u ns ∷ []; seats = face s ms ∷ [] }

-- two views in one
abbrev pub both_of : View → View → View
both_of v w = record {
  mints = v.mints;
  books_made = v.books_made;
  seats_made = v.seats_made;
  books = v.books ++ w.books;
  seats = v.seats ++ w.seats;
}

-- a view without its books
abbrev pub seats_of : View → View
seats_of v = record { mints = v.mints; books_made = v.books_made; seats_made = v.seats_made; books = []; seats = v.seats }

-- its books alone
abbrev pub books_of : View → View
books_of v = record { mints = false; books_made = 0; seats_made = 0; books = v.books; seats = [] }

-- the first view once it handed out a book's
abbrev pub with_book : View → View
with_book v = record {
  mints = v.mints;
  books_made = v.books_made + 1;
  seats_made = v.seats_made;
  books = v.books;
  seats = v.seats;
}

-- the view of the next book
abbrev pub new_book : View → View
new_book v = book_view v.books_made []

-- the first view once it handed out a caller's
abbrev pub with_seat : View → View
with_seat v = record {
  mints = v.mints;
  books_made = v.books_made;
  seats_made = v.seats_made + 1;
  books = v.books;
  seats = v.seats;
}

-- the view of the next caller's seat
abbrev pub new_seat : View → View
new_seat v = seat_view v.seats_made []

-- the user of the first book
abbrev pub user_of : List Face → ℕ
user_of [] = 0
user_of (f ∷ fs) = f.number

-- a note more in the first list
abbrev pub add_first : List Face → Note → List Face
add_first [] n = []
add_first (f ∷ fs) n = face f.number (f.notes ++ n ∷ []) ∷ fs

-- a note goes into both lists
abbrev pub added : View → Option CallEntry → ℕ → View
added v none p = v
added v (some e) p = record {
  mints = v.mints;
  books_made = v.books_made;
  seats_made = v.seats_made;
  books = add_first v.books (note (user_of v.books) p e);
  seats = add_first v.seats (note (user_of v.books) p e);
}
