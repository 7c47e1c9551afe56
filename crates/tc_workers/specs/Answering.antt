-- What a connection was told, by the history of its user. Source: this project's own.
use Rattle.std.specs.Prelude.{◌≡◌, ◌⊎◌, List, [], ◌∷◌, All, Contains}
use Rattle.tc_users.specs.declared.users.UserSpec.{UserSpec}
use Rattle.tc_locked.specs.declared.view.Note.{Note}
use Rattle.tc_locked.specs.Views.{of_user}
use Rattle.tc_locked.specs.HallBooks.{Terms, HallBookState}
use Rattle.tc_locked.specs.Closing.{ClosedState, AreHallBooks, AllTied}
use Rattle.tc_links.specs.Talks.{LinkState, notes_in}
use Rattle.tc_links.specs.Lives.{IsTalk, TalkState}
use Rattle.tc_workers.specs.Crewing.{CrewState, Event, IsNew, AllEvents, IsOf, seats_of}

-- these notes stand among those, in this order, each once
abbrev pub IsPart : List Note → List Note → Type 0
IsPart xs [] = xs ≡ []
IsPart xs (y ∷ ys) = IsPart xs ys ⊎ ((rest : List Note) × (xs ≡ y ∷ rest) × IsPart rest ys)

-- since it was opened a connection made these moves, and their calls of each book's user stand in the book's history: what
-- was said is, byte for byte, what its session says of the bytes that it was given and of the outcomes of those calls
pub record IsAnswered (rows : List UserSpec) (books : List HallBookState) (now : LinkState) : Type 0 where
  pub opened : LinkState
  pub talk : IsTalk rows opened now
  pub part : All (λ book. IsPart (of_user book.user (notes_in talk.moves)) book.log) books

-- a closed hall, as its close gives it: its books are legal and tied to its seats, and each worker's seat is one of these
pub record Closes (terms : Terms) (crew : CrewState) (hall : ClosedState) : Type 0 where
  pub kept : AreHallBooks terms hall.books
  pub tied : AllTied hall.books hall.seats
  pub seats : All (Contains hall.seats) (seats_of crew)

-- whichever workers served it, each connection is answered since it was opened
abbrev pub CrewAnswers : Type 0
CrewAnswers =
    (rows : List UserSpec) (terms : Terms) (events : List Event) (new crew : CrewState) (hall : ClosedState) (talk : TalkState)
    → IsNew new → AllEvents rows new events crew → Closes terms crew hall → IsOf crew talk
    → IsAnswered rows hall.books talk.link
