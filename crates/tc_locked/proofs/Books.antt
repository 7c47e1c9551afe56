-- What calls, maintenance and page turns keep of a book.
use Rattle.std.proofs.Common.{zero, suc, ◌≡◌, ℕ, ◌+◌, ◌<◌, ◌≤◌, max, List, [], ◌∷◌, ◌++◌, length, refl, sym, ap, ◌∙◌}
use Rattle.std.proofs.Common.{subst, arith, replicate, length-append, Option, Some, None}
use Rattle.std.specs.Prelude.{slice_index, slice_set}
use Rattle.std.proofs.lemmas.List.{length-set, length-replicate, get_or-set_same, get_or-set_other}
use mathlib.Core.Logic.{dite}
use native.Mathlib.Decide.{ℕ_discrete}
use Rattle.tc_model.specs.Caching.{Replays, state_after}
use Rattle.tc_grammar.specs.declared.command.Command.{Command}
use Rattle.tc_plain.specs.declared.shared.journal.Journal.{Journal}
use Rattle.tc_plain.specs.declared.shared.journal.Journal.TheVariants.{On, Off}
use Rattle.tc_stats.specs.declared.outcome.Outcome.{Outcome}
use Rattle.tc_plain.specs.UserCache.{UserCache, advance}
use Rattle.tc_plain.specs.Doing.{act}
use Rattle.tc_plain.specs.Keeping.{kept_by}
use Rattle.tc_plain.specs.Laws.{user_caching}
use Rattle.tc_locked.specs.declared.call_entry.CallEntry.{CallEntry}
use Rattle.tc_fresh.specs.Beginning.{IsEmptyCache}
use Rattle.tc_locked.specs.Books.{BookState, events_of, Start, first_start, moment_after, counts_after, IsNext, AreNumbered}
use Rattle.tc_locked.specs.Books.{Stands, IsBook, entry_of, after_call, after_maintain, page_turned, fresh_book}
use Rattle.tc_locked.specs.Closing.{HasLegalPage}
use Rattle.tc_plain.proofs.Left.{leaves_advanced, advance-earlier, advance-advance, act-advance, advance-empty}

-- ---- one entry more
-- the state that entries leave
abbrev pub left_by : UserCache → List CallEntry → UserCache
left_by k es = state_after user_caching k (events_of es)

replays_push : (from : ℕ) (k : UserCache) (es : List CallEntry) (e : CallEntry) → Replays user_caching from k (events_of es)
    → moment_after from es ≤ e.moment
    → (act (left_by k es) e.moment e.command).0 ≡ e.outcome → Replays user_caching from k (events_of (es ++ e ∷ []))
replays_push from k [] e h le is = (le, is, tt)
replays_push from k (x ∷ es) e h le is = (h.0, h.1, replays_push x.moment (act k x.moment x.command).1 es e h.2 le is)

left_push : (k : UserCache) (es : List CallEntry) (e : CallEntry) → left_by k (es ++ e ∷ []) ≡ (act (left_by k es) e.moment e.command).1
left_push k [] e = refl
left_push k (x ∷ es) e = left_push (act k x.moment x.command).1 es e

moment_push : (from : ℕ) (es : List CallEntry) (e : CallEntry) → moment_after from (es ++ e ∷ []) ≡ e.moment
moment_push from [] e = refl
moment_push from (x ∷ es) e = moment_push x.moment es e

numbered_push : (number : ℕ) (counts : List ℕ) (es : List CallEntry) (e : CallEntry) → AreNumbered number counts es
    → IsNext (number + length es) (counts_after counts es) e → AreNumbered number counts (es ++ e ∷ [])
numbered_push number counts [] e h is =
    (record { number_is = let n = is.number_is in omega arith; seat = is.seat; tally = is.tally }, tt)
numbered_push number counts (x ∷ es) e h is = (
  h.0,
  numbered_push (number + 1) (slice_set counts x.seat x.tally) es e h.1
      (record { number_is = let n = is.number_is in omega arith; seat = is.seat; tally = is.tally }),
)

counts_push : (counts : List ℕ) (es : List CallEntry) (e : CallEntry)
    → counts_after counts (es ++ e ∷ []) ≡ slice_set (counts_after counts es) e.seat e.tally
counts_push counts [] e = refl
counts_push counts (x ∷ es) e = counts_push (slice_set counts x.seat x.tally) es e

-- ---- what leads to the book
-- a call's entry goes on with any entries that led to the book
pub stands_call : (start : Start) (es : List CallEntry) (b : BookState) (seat now conn : ℕ) (command : Command)
    → seat < length b.counts → Stands start es b
    → Stands start (es ++ entry_of b seat now conn command ∷ []) (after_call b (entry_of b seat now conn command))
stands_call start es b seat now conn command lt s =
    let e = entry_of b seat now conn command in
    let t : ℕ = max b.moment now in
    let before : UserCache = left_by start.cache es in
    let was : act b.settled t command ≡ act before t command =
    ap (λ (k : UserCache). act k t command) (sym s.settled) ∙ act-advance before b.moment t command (omega arith) in
    let le = s.moment in
    let same = s.number in
    let next : IsNext (start.number + length es) (counts_after start.counts es) e = record {
      number_is = omega arith;
      seat = subst (λ (l : List ℕ). seat < length l) (sym s.counts) lt;
      tally = ap (λ (l : List ℕ). slice_index l seat + 1) (sym s.counts);
    } in record {
      replays =
          replays_push start.moment start.cache es e s.replays (omega arith) (sym (ap (λ (r : Outcome × UserCache). r.0) was));
      settled =
          ap (λ (k : UserCache). advance k t) (left_push start.cache es e) ∙ leaves_advanced before t command
          ∙ sym (ap (λ (r : Outcome × UserCache). r.1) was);
      moment = let at = moment_push start.moment es e in omega arith;
      numbered = numbered_push start.number start.counts es e s.numbered next;
      number = omega (arith, length-append es (e ∷ []));
      counts = counts_push start.counts es e ∙ ap (λ (l : List ℕ). slice_set l seat (slice_index b.counts seat + 1)) s.counts;
    }

pub stands_maintain : (start : Start) (es : List CallEntry) (b : BookState) (now : ℕ) → Stands start es b
    → Stands start es (after_maintain b now)
stands_maintain start es b now s =
    let le = s.moment in record {
      replays = s.replays;
      settled = sym (advance-advance (left_by start.cache es) b.moment now) ∙ ap (λ (k : UserCache). advance k now) s.settled;
      moment = omega arith;
      numbered = s.numbered;
      number = s.number;
      counts = s.counts;
    }

-- the book's state on a new page
abbrev pub here : BookState → Start
here b = record { cache = b.settled; moment = b.moment; number = b.number; counts = b.counts }

pub is_settled : (start : Start) (es : List CallEntry) (b : BookState) → Stands start es b → advance b.settled b.moment ≡ b.settled
is_settled start es b s =
    ap (λ (k : UserCache). advance k b.moment) (sym s.settled)
    ∙ advance-earlier (left_by start.cache es) b.moment b.moment (omega arith) ∙ s.settled

pub stands_turn : (start : Start) (b : BookState) → Stands start b.entries b → Stands (here b) [] (page_turned b)
stands_turn start b s = record {
  replays = tt;
  settled = is_settled start b.entries b s;
  moment = omega arith;
  numbered = tt;
  number = omega arith;
  counts = refl;
}

pub stands_fresh : (k : UserCache) (seats : ℕ) (keeps : Journal) → IsEmptyCache k
    → Stands (first_start k seats) [] (fresh_book k seats keeps)
stands_fresh k seats keeps h = record {
  replays = tt;
  settled = ap (λ (j : UserCache). advance j 0) h.2 ∙ advance-empty h.0 h.1 ∙ sym h.2;
  moment = omega arith;
  numbered = tt;
  number = refl;
  counts = refl;
}

-- ---- the book
capped_set : (xs : List ℕ) (at n : ℕ) → at < length xs → ((i : ℕ) → i < length xs → slice_index xs i ≤ n) → (i : ℕ)
    → i < length (slice_set xs at (slice_index xs at + 1)) → slice_index (slice_set xs at (slice_index xs at + 1)) i ≤ n + 1
capped_set xs at n lt h i below =
    let len = length-set xs at (slice_index xs at + 1) in
    let own = h at lt in
    dite (ℕ_discrete i at)
    (λ (same : i ≡ at). subst (λ (k : ℕ). slice_index (slice_set xs at (slice_index xs at + 1)) k ≤ n + 1) (sym same)
    (let e = get_or-set_same xs at (slice_index xs at + 1) 0 lt in omega arith))
    (λ apart. let e = get_or-set_other xs at i (slice_index xs at + 1) 0 apart in let g = h i (omega arith) in omega arith)

pub book_call : (b : BookState) (seat now conn : ℕ) (command : Command) → seat < length b.counts → IsBook b
    → IsBook (after_call b (entry_of b seat now conn command))
book_call b seat now conn command lt h =
    let e = entry_of b seat now conn command in
    let same = length-set b.counts seat e.tally in
    let fits = h.turned in record {
      start = h.start;
      opens = h.opens;
      stands = stands_call h.start b.entries b seat now conn command lt h.stands;
      first = λ z. ((h.first z).0, (h.first z).1 ∙ ap (first_start b.opening) (sym same));
      capped = capped_set b.counts seat b.number lt h.capped;
      turned = omega (arith, length-append b.entries (e ∷ []));
    }

pub book_maintain : (b : BookState) (now : ℕ) → IsBook b → IsBook (after_maintain b now)
book_maintain b now h = record {
  start = h.start;
  opens = h.opens;
  stands = stands_maintain h.start b.entries b now h.stands;
  first = h.first;
  capped = h.capped;
  turned = h.turned;
}

pub book_turn : (b : BookState) → 0 < length b.entries → IsBook b → IsBook (page_turned b)
book_turn b some h =
    let fits = h.turned in record {
      start = here b;
      opens = refl;
      stands = stands_turn h.start b h.stands;
      first = λ (z : b.turns + 1 ≡ 0). absurd (omega arith);
      capped = h.capped;
      turned = omega arith;
    }

pub index-replicate : (n s : ℕ) → slice_index (replicate n 0) s ≡ 0
index-replicate zero s = refl
index-replicate (suc n) zero = refl
index-replicate (suc n) (suc s) = index-replicate n s

pub book_fresh : (k : UserCache) (seats : ℕ) (keeps : Journal) → IsEmptyCache k → IsBook (fresh_book k seats keeps)
book_fresh k seats keeps empty = record {
  start = first_start k seats;
  opens = refl;
  stands = stands_fresh k seats keeps empty;
  first = λ z. (empty, ap (first_start k) (sym (length-replicate {A = ℕ} seats 0)));
  capped = λ i lt. let z = index-replicate seats i in omega arith;
  turned = omega arith;
}

-- a turned page and a call on it
pub turned_call : (b : BookState) (seat now conn : ℕ) (command : Command) → 0 < length b.entries → seat < length b.counts
    → IsBook b → IsBook (after_call (page_turned b) (entry_of b seat now conn command))
turned_call b seat now conn command some lt h = book_call (page_turned b) seat now conn command lt (book_turn b some h)

-- ---- the page
-- what is kept as lists is the state, and where nothing is kept the journal is off
pub kept_is : (journal : Journal) (k p : UserCache) (lists : Option UserCache) → lists ≡ kept_by journal k → lists ≡ Some p → p ≡ k
kept_is On k p lists e h = cc
kept_is Off k p lists e h = absurd (cc)

pub none_kept : (journal : Journal) (k : UserCache) (lists : Option UserCache) → lists ≡ kept_by journal k → lists ≡ None
    → journal ≡ Off
none_kept On k lists e h = absurd (cc)
none_kept Off k lists e h = refl

replays_from_zero : (from : ℕ) (k : UserCache) (es : List CallEntry) → Replays user_caching from k (events_of es)
    → Replays user_caching 0 k (events_of es)
replays_from_zero from k [] h = tt
replays_from_zero from k (e ∷ es) h = (omega arith, h.1, h.2)

pub legal_page : (b : BookState) → IsBook b → HasLegalPage b
legal_page b h =
    subst (λ (k : UserCache). Replays user_caching 0 k (events_of b.entries)) h.opens
    (replays_from_zero h.start.moment h.start.cache b.entries h.stands.replays)
