-- What workers did on a user's connections, as deeds of the machine of that user alone.
use Rattle.std.specs.Prelude.{◌==◌, map}
use Rattle.std.specs.List.{filter, AllByRecursion as Each}
use Rattle.std.proofs.Common.{◌≡◌, ℕ, Bool, true, false, cond, List, [], ◌∷◌, ◌++◌, Some, refl, sym}
use Rattle.std.proofs.Common.{◌∙◌, ap, ◌⊎◌, inl, inr, ◌≤◌, length, arith}
use Rattle.std.proofs.Common.{subst, eq-eqb}
use Rattle.tc_model.specs.Caching.{Event, Replays}
use Rattle.tc_model.specs.Connection.{Endpoint, Piece, Act, Shut, Open, user_at, new_endpoint, Want, Nothing, Said, Call, Close}
use Rattle.tc_model.specs.Connection.{turn}
use Rattle.tc_model.specs.Connection.{is_closed, endpoint_after}
use Rattle.std.proofs.lemmas.Bool.{cases_Bool, false≢true}
use Rattle.tc_model.specs.Server.{On, Step, binds_from, solo, sent, is_of}
use Rattle.tc_model.proofs.Isolation.{user_at-fresh}
use Rattle.tc_grammar.specs.declared.command.Command.{Command}
use Rattle.tc_stats.specs.declared.outcome.Outcome.{Outcome}
use Rattle.tc_users.specs.declared.users.UserSpec.{UserSpec}
use Rattle.tc_plain.specs.UserCache.{UserCache}
use Rattle.tc_plain.specs.Laws.{user_caching}
use Rattle.tc_session.specs.TextProtocol.{text_protocol}
use Rattle.tc_fresh.specs.Beginning.{fresh_cache}
use Rattle.tc_locked.specs.declared.view.Note.{Note}
use Rattle.tc_locked.specs.Views.{of_user}
use Rattle.tc_locked.specs.Books.{event_of, events_of}
use Rattle.tc_locked.specs.HallBooks.{HallBookState, entries_in}
use Rattle.tc_links.specs.Talks.{Move, Came, Asked, Did, Undone, Declined, Ended, happening_of, answer_to, NeedsNoCache, Moves}
use Rattle.tc_links.specs.Talks.{AllMoves, notes_of, notes_in}
use Rattle.tc_core.specs.ServerMachine.{server_machine}
use Rattle.tc_workers.specs.Answering.{IsPart}
use Rattle.tc_laws.specs.Numbers.{IsAmong, AreDistinct, AreOf}
use Rattle.tc_laws.specs.Retelling.{Story, numbers_of, IsGranted, own_steps, of_conn, IsOfBook, UserAlone}
use Rattle.tc_laws.proofs.Merging.{Silent, Calls, AllKnown, calls_in, calls_at}
use Rattle.tc_laws.proofs.Running.{DeedOf, happening_at, NeedsNone, Fits, AllFit}
use Rattle.tc_laws.proofs.Opening.{steps_at}
use Rattle.tc_laws.proofs.Alone.{IsAhead, ahead-next, is-ahead, caller-is}
use Rattle.tc_laws.proofs.Telling.{Story as Part, IsStory, conns_of, Retold, retold}

-- the deed that a move is
abbrev deed_of : Move → DeedOf server_machine
deed_of (Came piece) = Silent (Piece piece)
deed_of Asked = Silent Act
deed_of (Did n unsaid) = Calls (event_of n.entry)
deed_of (Undone r) = Silent Act
deed_of (Declined d) = Silent Act
deed_of Ended = Silent Shut

happening-deed : (m : Move) → happening_at server_machine (deed_of m) ≡ happening_of m
happening-deed (Came piece) = refl
happening-deed Asked = refl
happening-deed (Did n unsaid) = refl
happening-deed (Undone r) = refl
happening-deed (Declined d) = refl
happening-deed Ended = refl

-- a call as the machine's, with its connection
abbrev call_of : Note → ℕ × Event Command Outcome
call_of n = (n.entry.conn, event_of n.entry)

calls_in-deeds : (ms : List Move) → calls_in (map deed_of ms) ≡ map (λ n. event_of n.entry) (notes_in ms)
calls_in-deeds [] = refl
calls_in-deeds (Came piece ∷ ms) = calls_in-deeds ms
calls_in-deeds (Asked ∷ ms) = calls_in-deeds ms
calls_in-deeds (Did n unsaid ∷ ms) = ap (λ es. event_of n.entry ∷ es) (calls_in-deeds ms)
calls_in-deeds (Undone r ∷ ms) = calls_in-deeds ms
calls_in-deeds (Declined d ∷ ms) = calls_in-deeds ms
calls_in-deeds (Ended ∷ ms) = calls_in-deeds ms

calls_at-log : (c : ℕ) (log : List Note) → calls_at c (map call_of log) ≡ map (λ n. event_of n.entry) (of_conn c log)
calls_at-log c [] = refl
calls_at-log c (n ∷ log) = go (n.entry.conn == c) (calls_at-log c log)
  where
    go : (b : Bool) → calls_at c (map call_of log) ≡ map (λ n. event_of n.entry) (of_conn c log)
        → cond b (event_of n.entry ∷ calls_at c (map call_of log)) (calls_at c (map call_of log))
        ≡ map (λ n. event_of n.entry) (cond b (n ∷ of_conn c log) (of_conn c log))
    go true e = ap (λ es. event_of n.entry ∷ es) e
    go false e = e

events-log : (log : List Note) → map (λ x. x.1) (map call_of log) ≡ events_of (entries_in log)
events-log [] = refl
events-log (n ∷ log) = ap (λ es. event_of n.entry ∷ es) (events-log log)

known-log : (cs : List ℕ) (log : List Note) → Each (λ n. IsAmong n.entry.conn cs) log → AllKnown cs (map call_of log)
known-log cs [] all = tt
known-log cs (n ∷ log) all = (all.0, known-log cs log all.1)

steps-deeds : (c : ℕ) (ms : List Move) → steps_at server_machine c (map deed_of ms) ≡ map (λ m. On c (happening_of m)) ms
steps-deeds c [] = refl
steps-deeds c (m ∷ ms) =
    ap (λ x. On c x ∷ steps_at server_machine c (map deed_of ms)) (happening-deed m)
    ∙ ap (λ xs. On c (happening_of m) ∷ xs) (steps-deeds c ms)

-- ---- notes
each-append : (P : Note → Type 0) (xs ys : List Note) → Each P xs → Each P ys → Each P (xs ++ ys)
each-append P [] ys a b = b
each-append P (x ∷ xs) ys a b = (a.0, each-append P xs ys a.1 b)

each-split : (P : Note → Type 0) (xs ys : List Note) → Each P (xs ++ ys) → Each P xs × Each P ys
each-split P [] ys a = (tt, a)
each-split P (x ∷ xs) ys a = let rest = each-split P xs ys a.1 in ((a.0, rest.0), rest.1)

each-as : (P Q : Note → Type 0) (xs : List Note) → ((n : Note) → P n → Q n) → Each P xs → Each Q xs
each-as P Q [] f a = tt
each-as P Q (x ∷ xs) f a = (f x a.0, each-as P Q xs f a.1)

filter-all : (p : Note → Bool) (xs : List Note) → Each (λ n. p n ≡ true) xs → filter p xs ≡ xs
filter-all p [] a = refl
filter-all p (x ∷ xs) a = rw a.0 (ap (λ ys. x ∷ ys) (filter-all p xs a.1))

-- a part of all that pass a test is a part of those
part-filter : (p : Note → Bool) (xs ys : List Note) → Each (λ n. p n ≡ true) xs → IsPart xs ys → IsPart xs (filter p ys)
part-filter p xs [] a part = part
part-filter p xs (y ∷ ys) a part = go (cases_Bool (p y)) part (part-filter p xs ys a) (λ rest b. part-filter p rest ys b)
  where
    go : (p y ≡ true) ⊎ (p y ≡ false) → IsPart xs (y ∷ ys) → (IsPart xs ys → IsPart xs (filter p ys))
        → ((rest : List Note) → Each (λ n. p n ≡ true) rest → IsPart rest ys → IsPart rest (filter p ys))
        → IsPart xs (cond (p y) (y ∷ filter p ys) (filter p ys))
    go (inl e) (inl without) same behind = rw e (inl (same without))
    go (inr e) (inl without) same behind = rw e (same without)
    go (inl e) (inr (rest, is, later)) same behind =
        rw e (inr (rest, is, behind rest (subst (Each (λ n. p n ≡ true)) is a).1 later))
    go (inr e) (inr (rest, is, later)) same behind =
        absurd (false≢true (sym e ∙ (subst (Each (λ n. p n ≡ true)) is a).0))

part-length : (xs ys : List Note) → IsPart xs ys → length xs ≤ length ys
part-length xs [] part = subst (λ (zs : List Note). length zs ≤ 0) (sym part) (omega arith)
part-length xs (y ∷ ys) (inl without) = let h = part-length xs ys without in omega arith
part-length xs (y ∷ ys) (inr (rest, is, later)) =
    let h = part-length rest ys later in subst (λ (zs : List Note). length zs ≤ length (y ∷ ys)) (sym is) (omega arith)

-- a part that is as long is the whole
part-whole : (xs ys : List Note) → IsPart xs ys → length ys ≤ length xs → xs ≡ ys
part-whole xs [] part long = part
part-whole xs (y ∷ ys) (inl without) long = let h = part-length xs ys without in absurd (omega arith)
part-whole xs (y ∷ ys) (inr (rest, is, later)) long =
    let h : length ys ≤ length rest =
    (let k : length (y ∷ ys) ≤ length (y ∷ rest) = subst
    (λ (zs : List Note). length (y ∷ ys) ≤ length zs) is long in omega arith) in
    is ∙ ap (λ zs. y ∷ zs) (part-whole rest ys later h)

-- ---- what a connection does
module _ (rows : List UserSpec) (u : ℕ) where
  needs-none : (w : Want Command) → NeedsNoCache w → NeedsNone server_machine rows u w
  needs-none Nothing free = tt
  needs-none Said free = tt
  needs-none (Call user command) free = free
  needs-none Close free = tt

  fit-move : (conn : ℕ) (e next : Endpoint text_protocol) (m : Move) (said : List ℕ) → IsGranted m
      → Each (λ n. n.user ≡ u) (notes_of m) → Moves rows conn e m next said → Fits server_machine rows u e (deed_of m) next said
  fit-move conn e next (Came piece) said granted ours x = record { steps = x.steps; says = x.says }
  fit-move conn e next Asked said granted ours x = record {
    steps = x.steps;
    says = (needs-none (turn text_protocol rows e).want x.says.alone, x.says.says);
  }
  fit-move conn e next (Did n unsaid) said granted ours x =
      let c = x.says in
      record {
        steps = x.steps;
        says = (
          c.wanted ∙ ap (λ v. Call v c.command) (sym c.calls.of ∙ ours.0) ∙ ap (λ (d : Command). Call u d) (sym c.calls.does),
          c.says ∙ ap (λ xs. (turn text_protocol rows e).said ++ xs)
              (c.calls.answers ∙ ap (λ b. answer_to n.entry b) granted),
        );
      }
  fit-move conn e next (Undone r) said granted ours x = absurd granted
  fit-move conn e next (Declined d) said granted ours x = absurd granted
  fit-move conn e next Ended said granted ours x = record { steps = x.steps; says = x.says }

  all-fit : (conn : ℕ) (ms : List Move) (e after : Endpoint text_protocol) (said : List ℕ) → Each IsGranted ms
      → Each (λ n. n.user ≡ u) (notes_in ms) → AllMoves rows conn e ms after said
      → AllFit server_machine rows u e (map deed_of ms) after said
  all-fit conn [] e after said granted ours x = x
  all-fit conn (m ∷ ms) e after said granted ours (next, first, rest, moves, later, whole) =
      let parts = each-split (λ n. n.user ≡ u) (notes_of m) (notes_in ms) ours in (
        next,
        first,
        rest,
        fit-move conn e next m first granted.0 parts.0 moves,
        all-fit conn ms next after rest granted.1 parts.1 later,
        whole,
      )

-- a connection as the machine has it
abbrev part_of : {rows : List UserSpec} → Story rows → Part server_machine
part_of s = record {
  conn = s.opened.conn;
  deeds = map deed_of s.moves;
  endpoint = s.now.session.endpoint;
  said = s.sent ++ s.now.session.out;
}

-- whose calls a connection made, and on which
abbrev IsOn : ℕ → ℕ → Note → Type 0
IsOn u conn n = (n.user ≡ u) × (n.entry.conn ≡ conn)

module _ (rows : List UserSpec) (book : HallBookState) (row : UserSpec) (at : user_at rows book.user ≡ Some row) where
  note-move : (conn : ℕ) (e next : Endpoint text_protocol) (m : Move) (ds : List (DeedOf server_machine)) (said : List ℕ)
      → IsAhead server_machine rows book.user row at e (deed_of m ∷ ds) → Moves rows conn e m next said
      → Each (IsOn book.user conn) (notes_of m)
  note-move conn e next (Came piece) ds said ahead x = tt
  note-move conn e next Asked ds said ahead x = tt
  note-move conn e next (Did n unsaid) ds said ahead x =
      let c = x.says in
      let caller : c.user ≡ book.user =
      caller-is server_machine rows book.user row at e (deed_of (Did n unsaid) ∷ ds) c.user c.command ahead c.wanted in
      ((c.calls.of ∙ caller, c.calls.on), tt)
  note-move conn e next (Undone r) ds said ahead x = tt
  note-move conn e next (Declined d) ds said ahead x = tt
  note-move conn e next Ended ds said ahead x = tt

  note-moves : (conn : ℕ) (ms : List Move) (e after : Endpoint text_protocol) (said : List ℕ)
      → IsAhead server_machine rows book.user row at e (map deed_of ms) → AllMoves rows conn e ms after said
      → Each (IsOn book.user conn) (notes_in ms)
  note-moves conn [] e after said ahead x = tt
  note-moves conn (m ∷ ms) e after said ahead (next, first, rest, moves, later, whole) =
      let ds = map deed_of ms in
      let steps : endpoint_after text_protocol rows (happening_at server_machine (deed_of m)) (Some e) ≡ Some next =
      subst (λ x. endpoint_after text_protocol rows x (Some e) ≡ Some next) (sym (happening-deed m)) moves.steps in
      each-append (IsOn book.user conn) (notes_of m) (notes_in ms) (note-move conn e next m ds first ahead moves)
      (note-moves conn ms next after rest
      (ahead-next server_machine rows book.user row at e (deed_of m) ds next steps ahead) later)

  binds-story : (s : Story rows) → IsOfBook rows book s
      → binds_from text_protocol rows book.user s.opened.conn (Some (new_endpoint text_protocol))
      (steps_at server_machine s.opened.conn (map deed_of s.moves)) ≡ true
  binds-story s x =
      let c = s.opened.conn in
      let fresh : Endpoint text_protocol = new_endpoint text_protocol in
      let own : binds_from text_protocol rows book.user c (Some fresh) (map (λ m. On c (happening_of m)) s.moves) ≡ true =
      rw (eq-eqb c c refl) at x.binds in
      subst (λ (xs : List Step). binds_from text_protocol rows book.user c (Some fresh) xs ≡ true)
      (sym (steps-deeds c s.moves)) own

  moved-story : (s : Story rows)
      → AllMoves rows s.opened.conn (new_endpoint text_protocol) s.moves s.now.session.endpoint s.goes.said
  moved-story s =
      subst (λ (e : Endpoint text_protocol). AllMoves rows s.opened.conn e s.moves s.now.session.endpoint s.goes.said)
      s.endpoint s.goes.moved

  noted-story : (s : Story rows) → IsOfBook rows book s → Each (IsOn book.user s.opened.conn) (notes_in s.moves)
  noted-story s x =
      let c = s.opened.conn in
      let fresh : Endpoint text_protocol = new_endpoint text_protocol in
      note-moves c s.moves fresh s.now.session.endpoint s.goes.said
      (is-ahead server_machine rows book.user row at c fresh (map deed_of s.moves) (binds-story s x)) (moved-story s)

  -- the calls of the book under a connection's number are those that it made
  own-calls : (s : Story rows) → IsOfBook rows book s → notes_in s.moves ≡ of_conn s.opened.conn book.log
  own-calls s x =
      let c = s.opened.conn in
      let ns = notes_in s.moves in
      let noted = noted-story s x in
      let all : of_user book.user ns ≡ ns =
      filter-all (λ n. n.user == book.user) ns
      (each-as (IsOn book.user c) (λ n. (n.user == book.user) ≡ true) ns (λ n h. eq-eqb n.user book.user h.0) noted) in
      let part : IsPart ns book.log = subst (λ (xs : List Note). IsPart xs book.log) all x.part in
      part-whole ns (of_conn c book.log)
      (part-filter (λ n. n.entry.conn == c) ns book.log
      (each-as (IsOn book.user c) (λ n. (n.entry.conn == c) ≡ true) ns (λ n h. eq-eqb n.entry.conn c h.1) noted) part) x.only

  is-story : (s : Story rows) → IsOfBook rows book s → IsStory server_machine rows book.user (part_of s)
  is-story s x =
      let c = s.opened.conn in
      let ds = map deed_of s.moves in
      let fresh : Endpoint text_protocol = new_endpoint text_protocol in
      let ours : Each (λ n. n.user ≡ book.user) (notes_in s.moves) =
      each-as (IsOn book.user c) (λ n. n.user ≡ book.user) (notes_in s.moves) (λ n h. h.0) (noted-story s x) in
      let fits : AllFit server_machine rows book.user fresh ds s.now.session.endpoint s.goes.said =
      all-fit rows book.user c s.moves fresh s.now.session.endpoint s.goes.said x.granted ours (moved-story s) in
      let whole : s.goes.said ≡ s.sent ++ s.now.session.out =
      sym (ap (λ (xs : List ℕ). xs ++ s.goes.said) s.out) ∙ s.goes.whole in
      record {
        fits = subst (λ (xs : List ℕ). AllFit server_machine rows book.user fresh ds s.now.session.endpoint xs) whole fits;
        binds = binds-story s x;
      }

  are-stories : (ss : List (Story rows)) → Each (IsOfBook rows book) ss
      → Each (IsStory server_machine rows book.user) (map part_of ss)
  are-stories [] each = tt
  are-stories (s ∷ ss) each = (is-story s each.0, are-stories ss each.1)

  are-calls : (ss : List (Story rows)) → Each (IsOfBook rows book) ss
      → Each (λ (s : Part server_machine). calls_in s.deeds ≡ calls_at s.conn (map call_of book.log)) (map part_of ss)
  are-calls [] each = tt
  are-calls (s ∷ ss) each = (
    calls_in-deeds s.moves ∙ ap (λ (ns : List Note). map (λ n. event_of n.entry) ns) (own-calls s each.0)
        ∙ sym (calls_at-log s.opened.conn book.log),
    are-calls ss each.1,
  )

numbers-parts : {rows : List UserSpec} (ss : List (Story rows)) → conns_of server_machine (map part_of ss) ≡ numbers_of ss
numbers-parts [] = refl
numbers-parts (s ∷ ss) = ap (λ cs. s.opened.conn ∷ cs) (numbers-parts ss)

each-unmap : {A B : Type 0} (f : A → B) (P : B → Type 0) (Q : A → Type 0) (xs : List A) → ((x : A) → P (f x) → Q x)
    → Each P (map f xs) → Each Q xs
each-unmap f P Q [] g each = tt
each-unmap f P Q (x ∷ xs) g each = (g x each.0, each-unmap f P Q xs g each.1)

some-same : {x y : UserCache} → Some x ≡ Some y → x ≡ y
some-same e = cc

pub user-alone : UserAlone
user-alone rows terms book row stories begins kept at all =
    let parts : List (Part server_machine) = map part_of stories in
    let log : List (ℕ × Event Command Outcome) = map call_of book.log in
    let fresh : kept.begins ≡ fresh_cache row =
    some-same (sym kept.begins_at ∙ ap (λ (ks : List UserCache). user_at ks book.user) begins
    ∙ user_at-fresh server_machine rows book.user row at) in
    let replays : Replays user_caching 0 (fresh_cache row) (map (λ x. x.1) log) =
    subst (λ (es : List (Event Command Outcome)). Replays user_caching 0 (fresh_cache row) es) (sym (events-log book.log))
    (subst (λ (k : UserCache). Replays user_caching 0 k (events_of (entries_in book.log))) fresh kept.whole.replays) in
    let r : Retold server_machine row parts log =
    retold server_machine rows book.user row at parts log (subst AreDistinct (sym (numbers-parts stories)) all.distinct)
    (are-stories rows book row at stories all.each) (are-calls rows book row at stories all.each)
    (known-log (conns_of server_machine parts) book.log
    (subst (λ (cs : List ℕ). Each (λ n. IsAmong n.entry.conn cs) book.log) (sym (numbers-parts stories)) all.all)) replays in
    record {
      steps = r.steps;
      theirs = subst (λ (cs : List ℕ). AreOf cs r.steps) (numbers-parts stories) r.theirs;
      own =
          each-unmap part_of (λ s. filter (is_of s.conn) r.steps ≡ On s.conn Open ∷ steps_at server_machine s.conn s.deeds)
          (λ s. filter (is_of s.opened.conn) r.steps ≡ own_steps s) stories
          (λ s e. e ∙ ap (λ (xs : List Step). On s.opened.conn Open ∷ xs) (steps-deeds s.opened.conn s.moves)) r.own;
      told =
          each-unmap part_of
          (λ s. sent server_machine (solo server_machine row r.steps) s.conn ≡ Some (is_closed s.endpoint.phase, s.said))
          (λ s. sent server_machine (solo server_machine row r.steps) s.opened.conn
          ≡ Some (is_closed s.now.session.endpoint.phase, s.sent ++ s.now.session.out)) stories
          (λ s e. e) r.told;
      calls = r.history ∙ events-log book.log;
    }
