-- What the workers' seats noted of a connection stands in the books of a closed hall, in order.
use Rattle.std.proofs.Common.{◌≡◌, ℕ, zero, suc, ◌<◌, true, List, [], ◌∷◌, length, map, replicate, Option}
use Rattle.std.proofs.Common.{sym, ◌∙◌, ap, subst, inl, inr, arith}
use Rattle.std.specs.Prelude.{◌==◌, Contains, IsSome, slice_index_or}
use Rattle.std.specs.List.{AllByRecursion as Each}
use Rattle.std.proofs.lemmas.List.Elements.{All-from_recursion, recursion_from_All}
use Rattle.tc_users.specs.declared.users.UserSpec.{UserSpec}
use Rattle.tc_locked.specs.declared.view.Note.{Note}
use Rattle.tc_locked.specs.Views.{of_user, by_seat}
use Rattle.tc_locked.specs.HallBooks.{Terms, HallBookState, SeatState, IsHallBook}
use Rattle.tc_locked.specs.Closing.{ClosedState, AreHallBooks, AllTied, TiedTo}
use Rattle.tc_links.specs.Talks.{LinkState, last_after, notes_in}
use Rattle.tc_links.specs.Lives.{IsTalk, TalkState}
use Rattle.tc_links.specs.Turns.{WorkerState}
use Rattle.tc_workers.specs.Crewing.{CrewState, Event, IsNew, AllEvents, IsOf, seats_of}
use Rattle.tc_workers.specs.Answering.{IsPart, IsAnswered, Closes}
use Rattle.tc_workers.proofs.Rising.{In, in-filter, of-filter, each-filter, Above, above-filter, rose-above}
use Rattle.tc_workers.proofs.Rising.{numbered-entries, numbered-part}
use Rattle.tc_workers.proofs.Crewing.{Since, Noted, since-crew}

-- the notes of one of these seats in a book are the seat's notes of the book
tied-at : (k : HallBookState) (seats : List SeatState) (at : ℕ) (s : SeatState) → TiedTo k seats → at < length seats
    → slice_index_or seats at s ≡ s → by_seat s.number k.log ≡ of_user k.user s.notes
tied-at k [] at s tied lt is = absurd (omega arith)
tied-at k (x ∷ xs) zero s tied lt is =
    subst (λ (t : SeatState). by_seat t.number k.log ≡ of_user k.user t.notes) is tied.0
tied-at k (x ∷ xs) (suc at) s tied lt is = tied-at k xs at s tied.1 (omega arith) is

-- what a worker's seat noted of a user stands in the user's book
in-book : (k : HallBookState) (seats : List SeatState) (ws : List WorkerState) (n : Note) → TiedTo k seats
    → Each (Contains seats) (map (λ worker. worker.desk.seat) ws) → (n.user == k.user) ≡ true → Noted ws n → In n k.log
in-book k seats [] n tied among is i = absurd i
in-book k seats (w ∷ ws) n tied among is (inl i) =
    let s : SeatState = w.desk.seat in
    let own : by_seat s.number k.log ≡ of_user k.user s.notes = tied-at k seats among.0.0 s tied among.0.1 among.0.2 in
    of-filter (λ (m : Note). m.entry.seat == s.number) n k.log
    (subst (In n) (sym own) (in-filter (λ (m : Note). m.user == k.user) n s.notes is i))
in-book k seats (w ∷ ws) n tied among is (inr i) = in-book k seats ws n tied among.1 is i

-- the calls of a talk have numbers that rise
talk-above : (rows : List UserSpec) (opened now : LinkState) (x : IsTalk rows opened now) → Above 0 (notes_in x.moves)
talk-above rows opened now x =
    rose-above 0 (notes_in x.moves)
    (subst (λ (o : Option ℕ). IsSome o) (x.goes.last ∙ ap (λ (o : Option ℕ). last_after o (notes_in x.moves)) x.last) x.rose)

book-part : (terms : Terms) (k : HallBookState) (seats : List SeatState) (ws : List WorkerState) (ns : List Note) → IsHallBook terms k
    → TiedTo k seats → Each (Contains seats) (map (λ worker. worker.desk.seat) ws) → Above 0 ns → Each (Noted ws) ns
    → IsPart (of_user k.user ns) k.log
book-part terms k seats ws ns kept tied among above noted =
    let test = λ (n : Note). n.user == k.user in
    numbered-part 0 k.log (of_user k.user ns)
    (numbered-entries 0 (replicate terms.seats 0) k.log kept.whole.numbered) (above-filter test 0 ns above)
    (each-filter test (Noted ws) (λ n. In n k.log) ns (λ n. in-book k seats ws n tied among) noted)

books-part : (terms : Terms) (ks : List HallBookState) (seats : List SeatState) (ws : List WorkerState) (ns : List Note)
    → AreHallBooks terms ks → AllTied ks seats → Each (Contains seats) (map (λ worker. worker.desk.seat) ws) → Above 0 ns
    → Each (Noted ws) ns → Each (λ k. IsPart (of_user k.user ns) k.log) ks
books-part terms [] seats ws ns kept tied among above noted = tt
books-part terms (k ∷ ks) seats ws ns kept tied among above noted = (
  book-part terms k seats ws ns kept.0 tied.0 among above noted,
  books-part terms ks seats ws ns kept.1 tied.1 among above noted,
)

pub crew-answers : (rows : List UserSpec) (terms : Terms) (events : List Event) (new crew : CrewState) (hall : ClosedState)
    (talk : TalkState) → IsNew new → AllEvents rows new events crew → Closes terms crew hall → IsOf crew talk
    → IsAnswered rows hall.books talk.link
crew-answers rows terms events new crew hall talk begins went closes is =
    let x : Since rows (Noted crew.workers) talk = since-crew rows events new crew talk begins went is in
    let ns = notes_in x.talk.moves in record {
      opened = x.opened;
      talk = x.talk;
      part =
          All-from_recursion (λ k. IsPart (of_user k.user ns) k.log) hall.books
          (books-part terms hall.books hall.seats crew.workers ns closes.kept closes.tied
          (recursion_from_All (Contains hall.seats) (seats_of crew) closes.seats)
          (talk-above rows x.opened talk.link x.talk) x.calls);
    }
