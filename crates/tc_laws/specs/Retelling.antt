-- What a user's connections were told, told again by the machine of that user alone. Source: this project's own.
use Rattle.std.specs.Prelude.{◌≡◌, ℕ, ◌≤◌, ◌==◌, ◌++◌, true, false, List, [], ◌∷◌, length, map, Some}
use Rattle.std.specs.List.{filter, AllByRecursion}
use Rattle.tc_model.specs.Connection.{Open, user_at, new_endpoint, is_closed}
use Rattle.tc_model.specs.Server.{Step, On, solo, sent, binds, is_of}
use Rattle.tc_users.specs.declared.users.UserSpec.{UserSpec}
use Rattle.tc_session.specs.TextProtocol.{text_protocol}
use Rattle.tc_fresh.specs.Beginning.{fresh_cache}
use Rattle.tc_locked.specs.declared.view.Note.{Note}
use Rattle.tc_locked.specs.Views.{of_user}
use Rattle.tc_locked.specs.Books.{events_of}
use Rattle.tc_locked.specs.HallBooks.{Terms, HallBookState, IsHallBook, entries_in}
use Rattle.tc_links.specs.Talks.{Move, Came, Asked, Did, Undone, Declined, Ended, LinkState, Goes, happening_of, notes_in}
use Rattle.tc_workers.specs.Answering.{IsPart}
use Rattle.tc_core.specs.ServerMachine.{server_machine}
use Rattle.tc_laws.specs.Numbers.{IsAmong, AreDistinct, AreOf}

-- a connection, from where it was opened to what it is now, or was when it was dropped: what its wire took and what waits is
-- all that was said at its moves
pub record Story (rows : List UserSpec) : Type 0 where
  pub opened : LinkState
  pub now : LinkState
  pub moves : List Move
  pub sent : List ℕ
  pub lost : List ℕ
  pub goes : Goes rows moves sent lost opened now
  pub endpoint : opened.session.endpoint ≡ new_endpoint text_protocol
  pub out : opened.session.out ≡ []

-- the numbers of connections
abbrev pub numbers_of : {rows : List UserSpec} → List (Story rows) → List ℕ
numbers_of stories = map (λ s. s.opened.conn) stories

-- a move at which no memory was refused
abbrev pub IsGranted : Move → Type 0
IsGranted (Came piece) = Unit {0}
IsGranted Asked = Unit {0}
IsGranted (Did n unsaid) = unsaid ≡ false
IsGranted (Undone r) = ⊥
IsGranted (Declined d) = ⊥
IsGranted Ended = Unit {0}

-- the steps of the machine that a connection's moves are, once it is opened
abbrev pub own_steps : {rows : List UserSpec} → Story rows → List Step
own_steps s = On s.opened.conn Open ∷ map (λ m. On s.opened.conn (happening_of m)) s.moves

-- the calls of a book that came on a connection of this number
abbrev pub of_conn : ℕ → List Note → List Note
of_conn conn log = filter (λ n. n.entry.conn == conn) log

-- a connection of the book's user: its login is among its moves, it was refused no memory, its calls stand in the book, in order
-- and each once, and the book has no more calls under its number
pub record IsOfBook (rows : List UserSpec) (book : HallBookState) (s : Story rows) : Type 0 where
  pub binds : binds text_protocol rows (own_steps s) book.user s.opened.conn ≡ true
  pub granted : AllByRecursion IsGranted s.moves
  pub part : IsPart (of_user book.user (notes_in s.moves)) book.log
  pub only : length (of_conn s.opened.conn book.log) ≤ length (notes_in s.moves)

-- connections of the book's user, by whom all calls of the book were made
pub record AreAllOfBook (rows : List UserSpec) (book : HallBookState) (stories : List (Story rows)) : Type 0 where
  pub distinct : AreDistinct (numbers_of stories)
  pub each : AllByRecursion (IsOfBook rows book) stories
  pub all : AllByRecursion (λ n. IsAmong n.entry.conn (numbers_of stories)) book.log

-- steps of these connections and of the clock, by which the machine of one user alone sends each connection what its wire took
-- and what waits: the same bytes come on each, and the calls are those of the book, in their order
pub record Retells (rows : List UserSpec) (row : UserSpec) (book : HallBookState) (stories : List (Story rows)) : Type 0 where
  pub steps : List Step
  pub theirs : AreOf (numbers_of stories) steps
  pub own : AllByRecursion (λ s. filter (is_of s.opened.conn) steps ≡ own_steps s) stories
  pub told : AllByRecursion (λ s. sent server_machine (solo server_machine row steps) s.opened.conn
      ≡ Some (is_closed s.now.session.endpoint.phase, s.sent ++ s.now.session.out)) stories
  pub calls : (solo server_machine row steps).history ≡ events_of (entries_in book.log)

-- the connections of a user were told what the machine of that user alone sends them
abbrev pub UserAlone : Type 0
UserAlone =
    (rows : List UserSpec) (terms : Terms) (book : HallBookState) (row : UserSpec) (stories : List (Story rows))
    → terms.begins ≡ map fresh_cache rows → IsHallBook terms book → user_at rows book.user ≡ Some row
    → AreAllOfBook rows book stories → Retells rows row book stories
