-- A call keeps what lies under a lock.
use Rattle.std.proofs.Common.{zero, suc, ◌≡◌, ◌==◌, replicate, eq-eqb, ne_eqb, ℕ, ◌+◌, ◌<◌, ◌≤◌, Bool, true, false, cond}
use Rattle.std.proofs.Common.{List, [], ◌∷◌, ◌++◌, length, refl, sym, ap, ◌∙◌, subst, arith, length-append, append_assoc, add-one}
use native.Mathlib.Decide.{ℕ_discrete}
use Rattle.std.specs.List.{filter}
use Rattle.std.specs.Prelude.{slice_index, slice_set, leb}
use Rattle.std.proofs.lemmas.List.{append-nil, map-append, length-set, length-replicate, get_or-set_same, get_or-set_other}
use Rattle.std.proofs.lemmas.Bool.Decides.{nat_tests}
use Rattle.tc_grammar.specs.declared.command.Command.{Command}
use Rattle.tc_locked.specs.declared.call_entry.CallEntry.{CallEntry}
use Rattle.tc_locked.specs.declared.view.Note.{Note}
use Rattle.tc_locked.specs.Views.{note, by_seat, of_user}
use Rattle.tc_locked.specs.Books.{first_start, Stands, AreNumbered, counts_after, entry_of, after_call, after_maintain}
use Rattle.tc_locked.specs.Books.{page_turned}
use Rattle.tc_locked.specs.HallBooks.{Terms, HallBookState, IsHallBook, ArePages, entries_in, on_page, hall_book_after}
use Rattle.tc_locked.proofs.TableSteps.{by_same_seat}
use Rattle.tc_locked.proofs.Books.{index-replicate, stands_call, stands_maintain}

-- each note stands on an earlier page
abbrev pub AllBefore : ℕ → List Note → Type 0
AllBefore page [] = Unit {0}
AllBefore page (n ∷ ns) = (n.page < page) × AllBefore page ns

all_later : (p : ℕ) (ns : List Note) → AllBefore p ns → AllBefore (suc p) ns
all_later p [] h = tt
all_later p (n ∷ ns) h = (let lt = h.0 in omega arith, all_later p ns h.1)

all_on : (u p : ℕ) (es : List CallEntry) → AllBefore (suc p) (on_page u p es)
all_on u p [] = tt
all_on u p (e ∷ es) = (omega arith, all_on u p es)

all_append : (p : ℕ) (xs ys : List Note) → AllBefore p xs → AllBefore p ys → AllBefore p (xs ++ ys)
all_append p [] ys h k = k
all_append p (x ∷ xs) ys h k = (h.0, all_append p xs ys h.1 k)

-- the notes of pages stand on them
pub pages_before : (u journal p : ℕ) (ns : List Note) → ArePages u journal p ns → AllBefore p ns
pages_before u journal zero ns h = subst (AllBefore 0) (sym h) tt
pages_before u journal (suc p) ns h =
    subst (AllBefore (suc p)) (sym h.2)
    (all_append (suc p) h.0 (on_page u p h.1) (all_later p h.0 (pages_before u journal p h.0 h.4)) (all_on u p h.1))

abbrev pushed : HallBookState → ℕ → ℕ → ℕ → Command → HallBookState
pushed k seat now conn c =
    let e = entry_of k.book seat now conn c in
    record { user = k.user; book = after_call k.book e; log = k.log ++ note k.user k.book.turns e ∷ [] }

abbrev turned : HallBookState → HallBookState
turned k = record { user = k.user; book = page_turned k.book; log = k.log }

kept_push : (terms : Terms) (k : HallBookState) (seat now conn : ℕ) (c : Command) → seat < terms.seats
    → length k.book.entries < terms.journal → IsHallBook terms k → IsHallBook terms (pushed k seat now conn c)
kept_push terms k seat now conn c lt few h =
    let e = entry_of k.book seat now conn c in
    let n = note k.user k.book.turns e in
    let is = h.counts in record {
      begins = h.begins;
      begins_at = h.begins_at;
      empty = h.empty;
      counts = length-set k.book.counts seat e.tally ∙ h.counts;
      keeps = h.keeps;
      whole =
          subst (λ es. Stands (first_start h.begins terms.seats) es (after_call k.book e))
          (sym (map-append (λ (x : Note). x.entry) k.log (n ∷ [])))
          (stands_call (first_start h.begins terms.seats) (entries_in k.log) k.book seat now conn c (omega arith) h.whole);
      older = h.older;
      page =
          ap (λ l. l ++ n ∷ []) h.page ∙ append_assoc h.older (on_page k.user k.book.turns k.book.entries) (n ∷ [])
          ∙ ap (λ l. h.older ++ l) (sym (map-append (λ (x : CallEntry). note k.user k.book.turns x) k.book.entries (e ∷ [])));
      turned = h.turned;
      room = omega (arith, length-append k.book.entries (e ∷ []));
    }

kept_turn : (terms : Terms) (k : HallBookState) → terms.journal ≤ length k.book.entries → IsHallBook terms k → IsHallBook terms (turned k)
kept_turn terms k many h =
    let s = h.whole in
    let room = h.room in
    let full : length k.book.entries ≡ terms.journal = omega arith in
    let all : ArePages k.user terms.journal (suc k.book.turns) k.log = (h.older, k.book.entries, h.page, full, h.turned) in
    record {
      begins = h.begins;
      begins_at = h.begins_at;
      empty = h.empty;
      counts = h.counts;
      keeps = h.keeps;
      whole = record {
        replays = s.replays;
        settled = s.settled;
        moment = s.moment;
        numbered = s.numbered;
        number = s.number;
        counts = s.counts;
      };
      older = k.log;
      page = sym (append-nil k.log);
      turned = subst (λ (n : ℕ). ArePages k.user terms.journal n k.log) (sym (add-one k.book.turns)) all;
      room = omega arith;
    }

call_by : (terms : Terms) (k : HallBookState) (seat now conn : ℕ) (c : Command) → 0 < terms.journal → seat < terms.seats
    → IsHallBook terms k → (b : Bool) → leb terms.journal (length k.book.entries) ≡ b
    → IsHallBook terms (let e = entry_of k.book seat now conn c in
    let s = cond b (page_turned k.book) k.book in
    record { user = k.user; book = after_call s e; log = k.log ++ note k.user s.turns e ∷ [] })
call_by terms k seat now conn c some lt h true is =
    kept_push terms (turned k) seat now conn c lt some (kept_turn terms k (grind (arith, nat_tests)) h)
call_by terms k seat now conn c some lt h false is = kept_push terms k seat now conn c lt (grind (arith, nat_tests)) h

pub kept_call : (terms : Terms) (k : HallBookState) (seat now conn : ℕ) (c : Command) → 0 < terms.journal → seat < terms.seats
    → IsHallBook terms k → IsHallBook terms (hall_book_after terms.journal k seat now conn c)
kept_call terms k seat now conn c some lt h =
    call_by terms k seat now conn c some lt h (leb terms.journal (length k.book.entries)) refl

pub kept_maintain : (terms : Terms) (k : HallBookState) (now : ℕ) → IsHallBook terms k
    → IsHallBook terms (record { user = k.user; book = after_maintain k.book now; log = k.log })
kept_maintain terms k now h = record {
  begins = h.begins;
  begins_at = h.begins_at;
  empty = h.empty;
  counts = h.counts;
  keeps = h.keeps;
  whole = stands_maintain (first_start h.begins terms.seats) (entries_in k.log) k.book now h.whole;
  older = h.older;
  page = h.page;
  turned = h.turned;
  room = h.room;
}

-- ---- a seat's count is the number of its entries
abbrev of_seat : ℕ → List CallEntry → List CallEntry
of_seat s es = filter (λ (e : CallEntry). e.seat == s) es

counts_step : (counts : List ℕ) (e : CallEntry) (es : List CallEntry) (s : ℕ) → s < length counts
    → e.tally ≡ slice_index counts e.seat + 1 → (n : ℕ)
    → n ≡ slice_index (slice_set counts e.seat e.tally) s + length (of_seat s es) → Dec (e.seat ≡ s)
    → n ≡ slice_index counts s + length (of_seat s (e ∷ es))
counts_step counts e es s lt tally n is (yes same) =
    let own : slice_index (slice_set counts e.seat e.tally) s ≡ e.tally =
    ap (λ k. slice_index (slice_set counts e.seat e.tally) k) (sym same)
    ∙ get_or-set_same counts e.seat e.tally 0 (subst (λ k. k < length counts) (sym same) lt) in
    let was : slice_index counts e.seat ≡ slice_index counts s = ap (slice_index counts) same in
    let kept : of_seat s (e ∷ es) ≡ e ∷ of_seat s es =
    ap (λ (b : Bool). cond b (e ∷ of_seat s es) (of_seat s es)) (eq-eqb e.seat s same) in
    let more = ap length kept in omega arith
counts_step counts e es s lt tally n is (no apart) =
    let own : slice_index (slice_set counts e.seat e.tally) s ≡ slice_index counts s =
    get_or-set_other counts e.seat s e.tally 0 (λ same. apart (sym same)) in
    let kept : of_seat s (e ∷ es) ≡ of_seat s es =
    ap (λ (b : Bool). cond b (e ∷ of_seat s es) (of_seat s es)) (ne_eqb e.seat s apart) in
    let more = ap length kept in omega arith

counts_in : (number : ℕ) (counts : List ℕ) (es : List CallEntry) (s : ℕ) → AreNumbered number counts es → s < length counts
    → slice_index (counts_after counts es) s ≡ slice_index counts s + length (of_seat s es)
counts_in number counts [] s l lt = omega arith
counts_in number counts (e ∷ es) s l lt =
    counts_step counts e es s lt l.0.tally (slice_index (counts_after counts (e ∷ es)) s)
    (counts_in (number + 1) (slice_set counts e.seat e.tally) es s l.1
    (let same = length-set counts e.seat e.tally in omega arith))
    (ℕ_discrete e.seat s)

entries_by : (s : ℕ) (log : List Note) → length (of_seat s (entries_in log)) ≡ length (by_seat s log)
entries_by s [] = refl
entries_by s (n ∷ log) = both (n.entry.seat == s) refl (entries_by s log)
  where
    both : (b : Bool) → (n.entry.seat == s) ≡ b → length (of_seat s (entries_in log)) ≡ length (by_seat s log)
        → length (of_seat s (entries_in (n ∷ log))) ≡ length (by_seat s (n ∷ log))
    both true is h = simp is (ap suc h)
    both false is h = simp is h

pub kept_count : (terms : Terms) (k : HallBookState) (s : ℕ) → s < terms.seats → IsHallBook terms k
    → slice_index k.book.counts s ≡ length (by_seat s k.log)
kept_count terms k s lt h =
    let w = h.whole in
    let below : s < length (replicate terms.seats 0) =
    subst (λ (n : ℕ). s < n) (sym (length-replicate {A = ℕ} terms.seats 0)) lt in
    ap (λ l. slice_index l s) (sym w.counts) ∙ counts_in 0 (replicate terms.seats 0) (entries_in k.log) s w.numbered below
    ∙ ap (λ n. n + length (of_seat s (entries_in k.log))) (index-replicate terms.seats s) ∙ omega arith ∙ entries_by s k.log

-- a call's tally is the seat's count
pub tally_is : (terms : Terms) (k : HallBookState) (s now conn : ℕ) (c : Command) (p : ℕ) (ys : List Note) → s < terms.seats
    → IsHallBook terms k
    → let n = note k.user p (entry_of k.book s now conn c) in
    by_seat s (k.log ++ n ∷ []) ≡ of_user k.user (ys ++ n ∷ [])
    → (entry_of k.book s now conn c).tally ≡ length (of_user k.user (ys ++ n ∷ []))
tally_is terms k s now conn c p ys lt h tied =
    let n = note k.user p (entry_of k.book s now conn c) in
    let more = ap length (by_same_seat s k.log n refl) ∙ length-append (by_seat s k.log) (n ∷ []) in
    let count = kept_count terms k s lt h in
    let all = ap length tied in omega arith
