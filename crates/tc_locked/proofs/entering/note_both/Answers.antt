use prog.Atomic.{either}
use Rattle.std.proofs.Common.{ℕ, ◌==◌, ◌≡◌, ◌<◌, ◌≤◌, [], ◌∷◌, ap, ◌∙◌, List, arith}
use Rattle.atomic_table.specs.Table.{Me}
use Rattle.tc_locked.specs.declared.call_entry.CallEntry.{CallEntry}
use Rattle.tc_locked.specs.declared.view.View.{View}
use Rattle.tc_locked.specs.Views.{table_words, book_view, seat_view, joined_view, both_of}
use Rattle.tc_locked.specs.HallBooks.{log_of, notes_of}
use Rattle.tc_locked.proofs.TableSteps.{joins, adds_allows_at, parts}
use Rattle.tc_locked.proofs.entering.note_both.Goals as goal

head_is : (xs : List View) (v w : View) → xs ≡ v ∷ [] → xs ≡ w ∷ [] → v ≡ w
head_is xs v w p q = cc

some_words : (n : ℕ) → table_words ≤ n → 0 < n
some_words n h = omega arith

is_word : (w n : ℕ) → w < table_words → table_words ≤ n → w < n
is_word w n h k = omega arith

pub join_seat-requires : goal.join_seat-requires
join_seat-requires c = (
  c.requires.seat.0,
  c.into_seat-own.ensures.0 ∙ c.requires.badge.0,
  c.into_seat-own.ensures.3,
  some_words _ c.requires.words,
  joins c.args.seat.now.id c.args.seat.now.me.0 c.into_seat-own.result.id c.into_seat-own.result.me.0,
)

together : (me : Me CallEntry View) (s u : Me CallEntry View) (number user : _) (xs ys : List _) → me ≡ (both_of s.0 u.0, s.1)
    → s ≡ (seat_view number ys, []) → u.0 ≡ book_view user xs → me ≡ (joined_view user xs number ys, [])
together me s u number user xs ys is seat own =
    is ∙ ap (λ (m : Me CallEntry View). (both_of m.0 u.0, m.1)) seat
    ∙ ap (λ (v : View). let m : Me CallEntry View = (both_of (seat_view number ys) v, []) in m) own

pub compare_exchange_with-requires : goal.compare_exchange_with-requires
compare_exchange_with-requires c =
    let own = head_is _ _ _ c.into_seat-own.ensures.2 c.requires.badge.1 in
    let xs = log_of c.args.badge.views in
    let ys = notes_of c.args.seat.now.me.0.seats in
    let both = together c.join_seat.new.seat.me c.args.seat.now.me c.into_seat-own.result.me c.args.number c.args.user xs ys
    c.join_seat.ensures.2 c.requires.seat.1 own in (
      c.join_seat.ensures.0 ∙ c.requires.seat.0,
      is_word _ _ c.word_of-word.ensures c.requires.words,
      adds_allows_at c.join_seat.new.seat.id c.args.user c.args.number c.join_seat.new.seat.me xs ys c.args.page _ c.word_of-word.result c.args.page
          c.args.entry.now (λ (n : ℕ). either (n == c.args.page) c.args.page n) both c.requires.entry,
    )

pub split_seat-own-requires : goal.split_seat-own-requires
split_seat-own-requires c = (
  c.compare_exchange_with.ensures.0 ∙ c.join_seat.ensures.0 ∙ c.requires.seat.0,
  some_words _ c.requires.words,
  parts c.compare_exchange_with.new.seat.id c.compare_exchange_with.new.seat.me.0,
)
