use Rattle.std.proofs.Common.{ℕ, ◌<◌, ◌≡◌, [], ◌∷◌, ◌++◌, sym, ap, ◌∙◌, List, subst, length}
use Rattle.tc_locked.specs.declared.call_entry.Slip.{Slip}
use Rattle.tc_locked.specs.declared.view.Note.{Note}
use Rattle.tc_locked.specs.Books.{entry_of, paged}
use Rattle.tc_locked.specs.Views.{note, book_view, seat_view, of_user}
use Rattle.tc_locked.specs.HallBooks.{HallBookState, SeatState, IsHallBook, log_of, notes_of, hall_book_after, seat_after}
use Rattle.tc_locked.proofs.HallBooks.{kept_call, tally_is}
use Rattle.tc_locked.proofs.hall_book.HallBook.call.Given.{Over}
use Rattle.tc_locked.proofs.hall_book.HallBook.call.Goals as goal

-- what lay under the lock, and what the seat showed
abbrev kept_before : (g : Over) (c : goal.After-drop-self-inside g) → HallBookState
kept_before g c = record { user = c.self.inside.user; book = c.self.inside.book; log = log_of c.self.inside.badge.views }

abbrev seat_before : (g : Over) (c : goal.After-drop-self-inside g) → SeatState
seat_before g c = record { number = c.seat.inside.number; notes = notes_of c.seat.inside.inner.me.0.seats }

-- the note that the call makes
abbrev noted : (g : Over) (c : goal.After-drop-self-inside g) → Note
noted g c =
    note c.self.inside.user (paged c.args.journal c.self.inside.book).turns
    (entry_of c.self.inside.book c.seat.inside.number c.args.now c.args.conn c.args.command.now)

note_is : (g : Over) (c : goal.After-drop-self-inside g)
    → note c.self.inside.user c.in_ok-called.called.slip.page c.in_ok-called.called.entry ≡ noted g c
note_is g c = λ i. note c.self.inside.user (c.in_ok-called.ensures.slip i).page (c.in_ok-called.ensures.entry i)

kept_is : (g : Over) (c : goal.After-drop-self-inside g)
    → hall_book_after c.args.journal (kept_before g c) c.seat.inside.number c.args.now c.args.conn c.args.command.now
    ≡ record { user = c.self.inside.user; book = c.call_paged.new.self; log = log_of c.note_both.result.views }
kept_is g c =
    let log : log_of c.note_both.result.views ≡ log_of c.self.inside.badge.views ++ noted g c ∷ [] =
    ap log_of c.note_both.ensures.badge.1
    ∙ (λ i. log_of (c.replace-badge.ensures.value i).views ++ note_is g c i ∷ []) in
    λ i. record { user = c.self.inside.user; book = sym c.in_ok-called.ensures.entered i; log = sym log i }

me_is : (g : Over) (c : goal.After-drop-self-inside g)
    → c.note_both.new.seat.me ≡ (seat_view c.seat.inside.number ((seat_before g c).notes ++ noted g c ∷ []), [])
me_is g c =
    c.note_both.ensures.seat.1 ∙ (λ i. (seat_view c.seat.inside.number ((seat_before g c).notes ++ note_is g c i ∷ []), []))

pub invariant_of-seat : goal.invariant_of-seat
invariant_of-seat g c = (
  c.note_both.ensures.seat.0 ∙ c.requires.table.0,
  c.seat.invariant.1,
  me_is g c ∙ (λ i. (seat_view c.seat.inside.number (notes_of (sym (me_is g c) i).0.seats), [])),
)

pub invariant_of-self-2 : goal.invariant_of-self-2
invariant_of-self-2 g c =
    let b = c.note_both.ensures.badge in (
      b.0 ∙ c.requires.table.0,
      b.1 ∙ ap (λ (l : List Note). book_view c.self.inside.user l ∷ []) (sym (ap log_of b.1)),
      subst (IsHallBook g.N.Naming.terms) (kept_is g c)
          (subst
          (λ (n : ℕ). IsHallBook g.N.Naming.terms
          (hall_book_after n (kept_before g c) c.seat.inside.number c.args.now c.args.conn c.args.command.now))
          (sym c.requires.journal.0)
          (kept_call g.N.Naming.terms (kept_before g c) c.seat.inside.number c.args.now c.args.conn c.args.command.now
          (subst (λ (n : ℕ). 0 < n) c.requires.journal.0 c.requires.journal.1) c.seat.invariant.1 c.self.invariant.2)),
    )

pub returns-clause-kept : goal.returns-clause-kept
returns-clause-kept g c =
    sym (kept_is g c)
    ∙ (λ i. hall_book_after c.args.journal (c.self.view_is i) (c.seat.view_is i).number c.args.now c.args.conn c.args.command.now)

pub returns-clause-seat : goal.returns-clause-seat
returns-clause-seat g c =
    (λ i. record { number = c.seat.inside.number; notes = notes_of (me_is g c i).0.seats })
    ∙ (λ i. seat_after c.args.journal (c.self.view_is i) (c.seat.view_is i) c.args.now c.args.conn c.args.command.now)

pub returns-clause-tally : goal.returns-clause-tally
returns-clause-tally g c =
    let tied = c.note_both.ensures.tied in
    let tally = tally_is g.N.Naming.terms (kept_before g c) c.seat.inside.number c.args.now c.args.conn c.args.command.now
    (paged c.args.journal c.self.inside.book).turns (seat_before g c).notes c.seat.invariant.1 c.self.invariant.2
    (rw (c.replace-badge.ensures.value, note_is g c) at tied) in
    ap (λ (s : Slip). s.tally) c.in_ok-called.ensures.slip ∙ tally
    ∙ (λ i. length (of_user (c.self.view_is i).user (notes_of (sym (me_is g c) i).0.seats)))
