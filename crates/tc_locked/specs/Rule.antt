-- The rule of a hall's table: each seat's lists are parts of one history. Source: this project's own.
use Rattle.std.specs.Prelude.{◌≡◌, ◌≢◌, ℕ, ◌<◌, ◌≤◌, true, List, [], ◌∷◌}
use mathlib.Core.Option.{some}
use lib.ListN.{get_elem?}
use Rattle.atomic_table.specs.Table.{State, Me, Step}
use Rattle.tc_locked.specs.declared.call_entry.CallEntry.{CallEntry}
use Rattle.tc_locked.specs.declared.view.Note.{Note}
use Rattle.tc_locked.specs.declared.view.Face.{Face}
use Rattle.tc_locked.specs.declared.view.View.{View}
use Rattle.tc_locked.specs.Views.{of_user, by_seat, added}

-- each of them has this
abbrev pub Each : (Face → Type 0) → List Face → Type 0
Each P [] = Unit {0}
Each P (f ∷ fs) = P f × Each P fs

-- this view alone has the list of that number, and it is that part of the history
abbrev pub One : (ℕ → ℕ) → (ℕ → List Note) → ℕ → ℕ → Face → Type 0
One at part made by f = (f.number < made) × (at f.number ≡ by) × (f.notes ≡ part f.number)

-- the history, how many books and seats there are, and which view has the list of each
pub record Truth : Type 0 where
  pub log : List Note
  pub books : ℕ
  pub seats : ℕ
  pub book_at : ℕ → ℕ
  pub seat_at : ℕ → ℕ

-- who hands out views is the first, and knows how many books and seats there are
abbrev pub FitsMint : Truth → ℕ → View → Type 0
FitsMint t by v = v.mints ≡ true → (by ≡ 0) × (v.books_made ≡ t.books) × (v.seats_made ≡ t.seats)

-- the books' lists of a view are theirs in the history
abbrev pub FitsBooks : Truth → ℕ → List Face → Type 0
FitsBooks t by fs = Each (One t.book_at (λ u. of_user u t.log) t.books by) fs

-- the seats' lists of a view are theirs in the history
abbrev pub FitsSeats : Truth → ℕ → List Face → Type 0
FitsSeats t by fs = Each (One t.seat_at (λ s. by_seat s t.log) t.seats by) fs

-- no number stands twice
abbrev pub Apart : List Face → Type 0
Apart [] = Unit {0}
Apart (f ∷ fs) = Each (λ g. g.number ≢ f.number) fs × Apart fs

-- what a view knows is so
abbrev pub Fits : Truth → ℕ → View → Type 0
Fits t by v = FitsMint t by v × FitsBooks t by v.books × FitsSeats t by v.seats × Apart v.books

-- a book or a seat that is not there yet has no note
abbrev pub Bounded : Truth → Type 0
Bounded t = ((u : ℕ) → t.books ≤ u → of_user u t.log ≡ []) × ((s : ℕ) → t.seats ≤ s → by_seat s t.log ≡ [])

-- there is a history that all views fit
abbrev pub AllFit : List View → Type 0
AllFit views = (t : Truth) × Bounded t × ((by : ℕ) (v : View) → get_elem? views by ≡ some v → Fits t by v)

-- the rule: it asks nothing of the word
abbrev pub Holds : State CallEntry View → Type 0
Holds s = AllFit s.views

-- of each book and each seat that one view has, the book's notes of the seat are the seat's notes of the book
abbrev pub Tied : View → Type 0
Tied v = Each (λ f. Each (λ g. by_seat g.number f.notes ≡ of_user f.number g.notes) v.seats) v.books

-- the step's entry goes into both lists of the seat, under the page that it names
abbrev pub Adds : Step CallEntry → Me CallEntry View → ℕ → Me CallEntry View → Type 0
Adds step me found me' = (me' ≡ (added me.0 step.said step.first, me.1)) × Tied me'.0

-- the view is tied, and of a view that hands out books, no book is twice, and none is past the last
abbrev pub Ties : Step CallEntry → Me CallEntry View → ℕ → Me CallEntry View → Type 0
Ties step me found me' =
    (me' ≡ me) × Tied me.0 × Apart me.0.books × (me.0.mints ≡ true → Each (λ f. f.number < me.0.books_made) me.0.books)
