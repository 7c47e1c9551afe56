-- What lies under a user's lock, and what a seat shows. Source: this project's own.
use Rattle.std.specs.Prelude.{◌≡◌, ℕ, zero, suc, ◌≤◌, List, [], ◌∷◌, ◌++◌, length, map, Some}
use Rattle.atomic_table.specs.Seated.{TableId}
use Rattle.tc_model.specs.Connection.{user_at}
use Rattle.tc_grammar.specs.declared.command.Command.{Command}
use Rattle.tc_plain.specs.declared.shared.journal.Journal.{Journal}
use Rattle.tc_plain.specs.declared.shared.journal.Journal.TheVariants.{Off}
use Rattle.tc_plain.specs.UserCache.{UserCache}
use Rattle.tc_locked.specs.declared.call_entry.CallEntry.{CallEntry}
use Rattle.tc_locked.specs.declared.view.Note.{Note}
use Rattle.tc_locked.specs.declared.view.Face.{Face}
use Rattle.tc_locked.specs.declared.view.View.{View}
use Rattle.tc_locked.specs.Views.{note}
use Rattle.tc_fresh.specs.Beginning.{IsEmptyCache}
use Rattle.tc_locked.specs.Books.{BookState, Stands, first_start, paged, after_call, entry_of}

-- the name of no table
abbrev pub no_table : TableId
no_table = record { words = 0; slots = 0; views_name = 0; atom = 0; block = 0; offset = 0; slot_names = [] }

-- what all books of a hall share: the caches that its users begin with, how many seats there are, how many entries a page
-- has, and whether they are kept
pub record Terms : Type 0 where
  pub begins : List UserCache
  pub seats : ℕ
  pub journal : ℕ
  pub keeps : Journal

-- the terms of no hall
abbrev pub no_terms : Terms
no_terms = record { begins = []; seats = 0; journal = 0; keeps = Off }

-- a caller's seat: its number, and the notes of what it wrote
pub record SeatState : Type 0 where
  pub number : ℕ
  pub notes : List Note

-- a user's book, with the notes of all its pages
pub record HallBookState : Type 0 where
  pub user : ℕ
  pub book : BookState
  pub log : List Note

-- the notes of the one list that a view has
abbrev pub notes_of : List Face → List Note
notes_of [] = []
notes_of (f ∷ fs) = f.notes

-- the notes of the one view that a badge has
abbrev pub log_of : List View → List Note
log_of [] = []
log_of (v ∷ vs) = notes_of v.books

-- the entries of notes
abbrev pub entries_in : List Note → List CallEntry
entries_in log = map (λ n. n.entry) log

-- the notes of a page
abbrev pub on_page : ℕ → ℕ → List CallEntry → List Note
on_page user page es = map (λ e. note user page e) es

-- the notes of so many pages, the first being page 0, each of which has `journal` entries
abbrev pub ArePages : ℕ → ℕ → ℕ → List Note → Type 0
ArePages user journal zero notes = notes ≡ []
ArePages user journal (suc page) notes =
    (before : List Note)
    × (es : List CallEntry)
    × (notes ≡ before ++ on_page user page es)
    × (length es ≡ journal)
    × ArePages user journal page before

-- the book is legal over all pages, from the user's empty cache, and its page is the end of the list
pub record IsHallBook (terms : Terms) (k : HallBookState) : Type 0 where
  pub begins : UserCache
  pub begins_at : user_at terms.begins k.user ≡ Some begins
  pub empty : IsEmptyCache begins
  pub counts : length k.book.counts ≡ terms.seats
  pub keeps : k.book.keeps ≡ terms.keeps
  pub whole : Stands (first_start begins terms.seats) (entries_in k.log) k.book
  -- the notes of the turned pages, each of which had `journal` entries, and behind them those of the page
  pub older : List Note
  pub page : k.log ≡ older ++ on_page k.user k.book.turns k.book.entries
  pub turned : ArePages k.user terms.journal k.book.turns older
  pub room : length k.book.entries ≤ terms.journal

-- what lies under the lock after a call
abbrev pub hall_book_after : ℕ → HallBookState → ℕ → ℕ → ℕ → Command → HallBookState
hall_book_after journal k seat now conn command =
    let e = entry_of k.book seat now conn command in
    let b = paged journal k.book in
    record { user = k.user; book = after_call b e; log = k.log ++ note k.user b.turns e ∷ [] }

-- the caller's seat after it
abbrev pub seat_after : ℕ → HallBookState → SeatState → ℕ → ℕ → Command → SeatState
seat_after journal k s now conn command =
    record {
      number = s.number;
      notes = s.notes ++ note k.user (paged journal k.book).turns (entry_of k.book s.number now conn command) ∷ [];
    }
