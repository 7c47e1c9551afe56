-- One move at a time, and what it leaves of a connection and its seat.
use Rattle.std.specs.Prelude.{OnOk, OnErr, IsOk, OnSome, IfNone, IsSome}
use Rattle.std.specs.Io.KnownBytes.{Keeps, Appends}
use Rattle.std.proofs.Common.{◌≡◌, ℕ, Bool, true, false, List, [], ◌∷◌, ◌++◌, take, drop}
use Rattle.std.proofs.Common.{Option, Some, None, Result, Ok, Err}
use Rattle.std.proofs.Common.{refl, sym, ◌∙◌, ap, subst, arith, append_assoc}
use Rattle.std.proofs.lemmas.List.{append-nil, take-append-drop}
use Rattle.tc_model.specs.Connection.{Endpoint, endpoint_after, Act, Want, Call, turn, with_piece, shut_endpoint}
use Rattle.tc_item.specs.declared.no_memory.NoMemory.{NoMemory}
use Rattle.tc_grammar.specs.declared.command.Command.{Command}
use Rattle.tc_users.specs.declared.users.UserSpec.{UserSpec}
use Rattle.tc_session.specs.Replies.{render, is_long}
use Rattle.tc_session.specs.Declines.{Decline, Declines, IsAsked as IsAskedOrDeclined}
use Rattle.tc_session.specs.Refusals.{refusal_of}
use Rattle.tc_session.specs.SessionView.{SessionView, want_of}
use Rattle.tc_session.specs.TextProtocol.{text_protocol}
use Rattle.tc_session.specs.declared.want.Want.{Want as WantCode}
use Rattle.tc_locked.specs.declared.call_entry.Slip.{Slip}
use Rattle.tc_locked.specs.Views.{note}
use Rattle.tc_locked.specs.declared.call_fault.CallFault.{CallFault}
use Rattle.tc_locked.specs.Calls.{Wrote}
use Rattle.tc_locked.specs.HallBooks.{SeatState}
use Rattle.tc_locked.specs.Refusals.{Refusal, refusal}
use Rattle.tc_links.specs.Talks.{Move, Came, Asked, Did, Undone, Declined, Ended, happening_of, Calls, NeedsNoCache, Says}
use Rattle.tc_links.specs.Talks.{notes_of, piece_of}
use Rattle.tc_links.specs.Talks.{number_after, last_after}
use Rattle.tc_links.specs.Talks.{LinkState, DeskState, Notes, Talks, Carries, Answers}
use Rattle.tc_links.proofs.Talking.{appends-same, appends-kept, goes-one, notes-silent}

-- a connection that did nothing
pub carries-still : {a b : LinkState} → b.session.endpoint ≡ a.session.endpoint → b.session.out ≡ a.session.out → b.conn ≡ a.conn
    → b.last ≡ a.last → Appends a.gave b.gave [] → Appends a.took b.took [] → Carries [] [] a b
carries-still {a = a} endpoint out conn last gave took = record {
  moves = [];
  silent = refl;
  unrefused = refl;
  undeclined = refl;
  goes = λ rows. record {
    said = [];
    moved = (endpoint, refl);
    whole = append-nil a.session.out ∙ sym out;
    conn = conn;
    gave = gave;
    took = took;
    last = last;
  };
}

pub carries-same : {a b : LinkState} → b ≡ a → Carries [] [] a b
carries-same same =
    carries-still (ap (λ l. l.session.endpoint) same) (ap (λ l. l.session.out) same) (ap (λ l. l.conn) same)
    (ap (λ l. l.last) same) (appends-same (ap (λ l. l.gave) same)) (appends-same (ap (λ l. l.took) same))

-- a connection whose wire took the first of what waited
pub carries-wrote : {a b : LinkState} (n : ℕ) (waits : List ℕ) → waits ≡ a.session.out → b.session.out ≡ drop n a.session.out
    → b.session.endpoint ≡ a.session.endpoint → b.conn ≡ a.conn → b.last ≡ a.last → b.gave ≡ a.gave
    → Appends a.took b.took (take n waits) → (s : List ℕ) × Carries s [] a b
carries-wrote {a} {b} n waits all out endpoint conn last gave took = (
  take n a.session.out,
  record {
    moves = [];
    silent = refl;
    unrefused = refl;
    undeclined = refl;
    goes = λ rows. record {
      said = [];
      moved = (endpoint, refl);
      whole =
          append-nil a.session.out ∙ sym (take-append-drop n a.session.out)
          ∙ ap (λ xs. take n a.session.out ++ xs) (sym out);
      conn = conn;
      gave = appends-same gave;
      took = subst (λ (xs : List ℕ). Appends a.took b.took (take n xs)) all took;
      last = last;
    };
  },
)

-- a connection to which bytes came; they are lost where memory was refused to them
pub carries-came : {T : Type 0} {a b : LinkState} (piece : List ℕ) (r : Option T)
    → OnSome r (b.session.endpoint ≡ with_piece text_protocol a.session.endpoint piece)
    → IfNone r (b.session.endpoint ≡ a.session.endpoint) → b.session.out ≡ a.session.out → b.conn ≡ a.conn
    → b.last ≡ a.last → Appends a.gave b.gave piece → b.took ≡ a.took
    → (lost : List ℕ) × Carries [] lost a b × (IsSome r → lost ≡ [])
carries-came {a = a} piece (Some x) came refused out conn last gave took = (
  [],
  record {
    moves = Came piece ∷ [];
    silent = refl;
    unrefused = refl;
    undeclined = refl;
    goes = λ rows.
        goes-one (Came piece) [] (ap Some (sym came)) refl (out ∙ sym (append-nil a.session.out)) conn last gave
        (appends-same took);
  },
  λ yes. refl,
)
carries-came {a = a} piece None came refused out conn last gave took = (
  piece,
  record {
    moves = [];
    silent = refl;
    unrefused = refl;
    undeclined = refl;
    goes = λ rows. record {
      said = [];
      moved = (refused, refl);
      whole = append-nil a.session.out ∙ sym out;
      conn = conn;
      gave = gave;
      took = appends-same took;
      last = last;
    };
  },
  λ no. cc,
)

-- a connection whose peer ended
pub carries-ended : {a b : LinkState} → b.session.endpoint ≡ shut_endpoint text_protocol a.session.endpoint
    → b.session.out ≡ a.session.out → b.conn ≡ a.conn → b.last ≡ a.last → Keeps a.gave b.gave → b.took ≡ a.took
    → Carries [] [] a b
carries-ended {a} {b} endpoint out conn last gave took = record {
  moves = Ended ∷ [];
  silent = refl;
  unrefused = refl;
  undeclined = refl;
  goes = λ rows.
      goes-one Ended [] (ap Some (sym endpoint)) refl (out ∙ sym (append-nil a.session.out)) conn last
      (appends-kept a.gave b.gave gave) (appends-same took);
}

-- a connection whose request needs no cache
pub talks-asked : {rows : List UserSpec} {a b : LinkState} {from to : DeskState} (w : Want Command)
    → w ≡ (turn text_protocol rows a.session.endpoint).want → NeedsNoCache w
    → b.session.endpoint ≡ (turn text_protocol rows a.session.endpoint).endpoint
    → b.session.out ≡ a.session.out ++ (turn text_protocol rows a.session.endpoint).said → b.conn ≡ a.conn
    → b.last ≡ a.last → b.gave ≡ a.gave → b.took ≡ a.took → to ≡ from → Talks 1 rows [] [] a b from to
talks-asked {rows} {a} w wanted alone endpoint out conn last gave took same = record {
  moves = Asked ∷ [];
  goes =
      goes-one Asked (turn text_protocol rows a.session.endpoint).said (ap Some (sym endpoint))
      (record { alone = subst (λ (v : Want Command). NeedsNoCache v) wanted alone; says = refl }) out conn last
      (appends-same gave) (appends-same took);
  noted = notes-silent refl refl refl same;
}

-- a connection whose request is declined
pub talks-declined : {rows : List UserSpec} {a b : LinkState} {from to : DeskState} (user : ℕ)
    → Declines user (turn text_protocol rows a.session.endpoint) a.session b.session
    → to.declined ≡ from.declined ++ (a.session.endpoint.reader, user) ∷ [] → to.seat ≡ from.seat → to.refused ≡ from.refused
    → b.session.endpoint ≡ (turn text_protocol rows a.session.endpoint).endpoint → b.conn ≡ a.conn → b.last ≡ a.last
    → b.gave ≡ a.gave → b.took ≡ a.took → Talks 1 rows [] [] a b from to
talks-declined {a = a} {from = from} user x declined seat refused endpoint conn last gave took = record {
  moves = Declined (a.session.endpoint.reader, user) ∷ [];
  goes =
      goes-one (Declined (a.session.endpoint.reader, user)) (refusal_of x.command) (ap Some (sym endpoint))
      (record { command = x.command; wanted = x.wanted; unread = refl; says = refl }) x.says conn last
      (appends-same gave) (appends-same took);
  noted = record {
    number = ap (λ s. s.number) seat;
    notes = ap (λ s. s.notes) seat ∙ sym (append-nil from.seat.notes);
    refused = refused ∙ sym (append-nil from.refused);
    declined = declined;
    few = omega arith;
  };
}

abbrev desk_of : SeatState → List Refusal → List Decline → DeskState
desk_of seat refused declined = record { seat = seat; refused = refused; declined = declined }

-- a desk of which each part is as before
pub same-desk : {a b : DeskState} → b.seat ≡ a.seat → b.refused ≡ a.refused → b.declined ≡ a.declined → b ≡ a
same-desk {a} {b} seat refused declined =
    ap (λ s. desk_of s b.refused b.declined) seat ∙ ap (λ r. desk_of a.seat r b.declined) refused
    ∙ ap (λ d. desk_of a.seat a.refused d) declined

-- what was asked for is what the machine has
pub asked-some : (rows : List UserSpec) (a b : SessionView) (from to : List Decline) (o : Option WantCode) (w : WantCode)
    → o ≡ Some w → IsAskedOrDeclined (turn text_protocol rows a.endpoint) a b from to o
    → (want_of w ≡ (turn text_protocol rows a.endpoint).want)
    × (b.out ≡ a.out ++ (turn text_protocol rows a.endpoint).said)
    × (to ≡ from)
asked-some rows a b from to o w same x =
    subst (λ (p : Option WantCode). IsAskedOrDeclined (turn text_protocol rows a.endpoint) a b from to p) same x

-- or it is declined
pub talks-none : {rows : List UserSpec} {a b : LinkState} {from to : DeskState} (o : Option WantCode) → o ≡ None
    → IsAskedOrDeclined (turn text_protocol rows a.session.endpoint) a.session b.session from.declined to.declined o
    → to.seat ≡ from.seat → to.refused ≡ from.refused
    → b.session.endpoint ≡ (turn text_protocol rows a.session.endpoint).endpoint → b.conn ≡ a.conn → b.last ≡ a.last
    → b.gave ≡ a.gave → b.took ≡ a.took → Talks 1 rows [] [] a b from to
talks-none {rows} {a} {b} {from} {to} o same x seat refused endpoint conn last gave took =
    let y =
    subst
    (λ (p : Option WantCode).
    IsAskedOrDeclined (turn text_protocol rows a.session.endpoint) a.session b.session from.declined to.declined p) same x in
    talks-declined y.0 y.1 y.2 seat refused endpoint conn last gave took

-- a connection that memory was refused to ask for
pub talks-unasked : {rows : List UserSpec} {a b : LinkState} {from to : DeskState} → b.session.endpoint ≡ a.session.endpoint
    → b.session.out ≡ a.session.out → b.conn ≡ a.conn → b.last ≡ a.last → b.gave ≡ a.gave → b.took ≡ a.took → to ≡ from
    → Talks 1 rows [] [] a b from to
talks-unasked {rows} endpoint out conn last gave took same =
    let x = carries-still endpoint out conn last (appends-same gave) (appends-same took) in
    record { moves = x.moves; goes = x.goes rows; noted = notes-silent x.silent x.unrefused x.undeclined same }

calls-act : (conn user : ℕ) (command : Command) (m : Move) (answer : List ℕ) → Calls conn user command m answer
    → happening_of m ≡ Act
calls-act conn user command (Did n unsaid) answer c = refl
calls-act conn user command (Undone r) answer c = refl
calls-act conn user command (Came piece) answer c = absurd c
calls-act conn user command Asked answer c = absurd c
calls-act conn user command (Declined d) answer c = absurd c
calls-act conn user command Ended answer c = absurd c

calls-says : (rows : List UserSpec) (conn user : ℕ) (command : Command) (e : Endpoint text_protocol) (m : Move) (answer : List ℕ)
    → (turn text_protocol rows e).want ≡ Call user command → Calls conn user command m answer
    → Says rows conn e m ((turn text_protocol rows e).said ++ answer)
calls-says rows conn user command e (Did n unsaid) answer wanted c =
    record { user = user; command = command; answer = answer; wanted = wanted; calls = c; says = refl }
calls-says rows conn user command e (Undone r) answer wanted c =
    record { user = user; command = command; answer = answer; wanted = wanted; calls = c; says = refl }
calls-says rows conn user command e (Came piece) answer wanted c = absurd c
calls-says rows conn user command e Asked answer wanted c = absurd c
calls-says rows conn user command e (Declined d) answer wanted c = absurd c
calls-says rows conn user command e Ended answer wanted c = absurd c

calls-piece : (conn user : ℕ) (command : Command) (m : Move) (answer : List ℕ) → Calls conn user command m answer
    → piece_of m ≡ []
calls-piece conn user command (Did n unsaid) answer c = refl
calls-piece conn user command (Undone r) answer c = refl
calls-piece conn user command (Came piece) answer c = absurd c
calls-piece conn user command Asked answer c = absurd c
calls-piece conn user command (Declined d) answer c = absurd c
calls-piece conn user command Ended answer c = absurd c

-- a connection whose request's call is made
pub talks-called : {rows : List UserSpec} {a mid b : LinkState} {from to : DeskState} (user : ℕ) (command : Command)
    → (turn text_protocol rows a.session.endpoint).want ≡ Call user command
    → mid.session.endpoint ≡ (turn text_protocol rows a.session.endpoint).endpoint
    → mid.session.out ≡ a.session.out ++ (turn text_protocol rows a.session.endpoint).said → mid.conn ≡ a.conn
    → mid.last ≡ a.last → mid.gave ≡ a.gave → mid.took ≡ a.took → Answers user command mid b from to
    → Talks 1 rows [] [] a b from to
talks-called {rows} {a} {mid} {b} user command wanted endpoint out conn last gave took x =
    let t = turn text_protocol rows a.session.endpoint in
    let calls : Calls a.conn user command x.move x.answer =
    subst (λ (n : ℕ). Calls n user command x.move x.answer) conn x.calls in
    let none : Appends a.gave b.gave (piece_of x.move) =
    subst (λ (xs : List ℕ). Appends a.gave b.gave xs) (sym (calls-piece a.conn user command x.move x.answer calls))
    (appends-same (x.gave ∙ gave)) in
    record {
      moves = x.move ∷ [];
      goes =
          goes-one x.move (t.said ++ x.answer)
          (ap (λ h. endpoint_after text_protocol rows h (Some a.session.endpoint))
          (calls-act a.conn user command x.move x.answer calls)
          ∙ ap Some (sym (x.endpoint ∙ endpoint)))
          (calls-says rows a.conn user command a.session.endpoint x.move x.answer wanted calls)
          (x.said ∙ ap (λ xs. xs ++ x.answer) out ∙ append_assoc a.session.out t.said x.answer) (x.conn ∙ conn)
          (x.last ∙ ap (λ (l : Option ℕ). last_after l (notes_of x.move)) last) none
          (appends-same (x.took ∙ took));
      noted = x.noted;
    }

-- the same at a desk that is this one
pub talks-from : {most : ℕ} {rows : List UserSpec} {s lost : List ℕ} {a b : LinkState} {from mid to : DeskState} → mid ≡ from
    → Talks most rows s lost a b mid to → Talks most rows s lost a b from to
talks-from {most} {rows} {s} {lost} {a} {b} {to = to} same x =
    subst (λ (d : DeskState). Talks most rows s lost a b d to) same x

not-false : (b : Bool) → (b ≡ false → false ≡ true) → b ≡ true
not-false true h = refl
not-false false h = h refl

-- what a desk keeps of a call that is entered
notes-entered : {user now conn : ℕ} {command : Command} {slip : Slip} {from to : DeskState} (unsaid : Bool)
    (w : Wrote user from.seat now conn command slip to.seat) → to.refused ≡ from.refused → to.declined ≡ from.declined
    → Notes 1 (Did (note user slip.page w.entry) unsaid ∷ []) from to
notes-entered {from = from} unsaid w none undeclined = record {
  number = ap (λ s. s.number) w.seat;
  notes = ap (λ s. s.notes) w.seat;
  refused = none ∙ sym (append-nil from.refused);
  declined = undeclined ∙ sym (append-nil from.declined);
  few = omega arith;
}

-- a command whose call is entered, and answered as the session's answer says
pub answers-entered : {user now : ℕ} {command : Command} {slip : Slip} {a b : LinkState} {from to : DeskState} (conn : ℕ)
    → Wrote user from.seat now conn command slip to.seat → to.refused ≡ from.refused → to.declined ≡ from.declined → conn ≡ a.conn
    → (r : Result (Unit {0}) NoMemory)
    → OnOk r (b.session.out ≡ a.session.out ++ render command slip.outcome)
    → OnErr r (b.session.out ≡ a.session.out ++ refusal_of command) → (is_long slip.outcome ≡ false → IsOk r)
    → b.session.endpoint ≡ a.session.endpoint → b.conn ≡ a.conn → b.last ≡ number_after a.last slip.number → b.gave ≡ a.gave
    → b.took ≡ a.took → Answers user command a b from to
answers-entered {user} {command = command} {slip = slip} {a} conn w none undeclined same (Ok x) reply undone short at kept last gave took =
    record {
      move = Did (note user slip.page w.entry) false;
      answer = render command slip.outcome;
      calls = record {
        of = refl;
        on = w.conn_is ∙ same;
        does = w.command_is;
        answers = ap (λ c. render c slip.outcome) (sym w.command_is) ∙ ap (λ s. render w.entry.command s.outcome) w.told;
        long = λ no. cc;
      };
      noted = notes-entered false w none undeclined;
      said = reply;
      endpoint = at;
      conn = kept;
      gave = gave;
      took = took;
      last = last ∙ ap (λ s. number_after a.last s.number) w.told;
    }
answers-entered {user} {command = command} {slip = slip} {a} conn w none undeclined same (Err e) reply undone short at kept last gave took =
    record {
      move = Did (note user slip.page w.entry) true;
      answer = refusal_of command;
      calls = record {
        of = refl;
        on = w.conn_is ∙ same;
        does = w.command_is;
        answers = ap refusal_of (sym w.command_is);
        long = λ yes. ap (λ s. is_long s.outcome) (sym w.told) ∙ not-false (is_long slip.outcome) short;
      };
      noted = notes-entered true w none undeclined;
      said = undone;
      endpoint = at;
      conn = kept;
      gave = gave;
      took = took;
      last = last ∙ ap (λ s. number_after a.last s.number) w.told;
    }

-- a command whose call is refused, and answered so
pub answers-refused : {user : ℕ} {command : Command} {a b : LinkState} {from to : DeskState} (conn : ℕ) (fault : CallFault)
    → to.seat ≡ from.seat → to.refused ≡ from.refused ++ refusal user conn fault command ∷ []
    → to.declined ≡ from.declined → conn ≡ a.conn
    → b.session.out ≡ a.session.out ++ refusal_of command → b.session.endpoint ≡ a.session.endpoint → b.conn ≡ a.conn
    → b.last ≡ a.last → b.gave ≡ a.gave → b.took ≡ a.took → Answers user command a b from to
answers-refused {user} {command} {from = from} conn fault seat refused undeclined same said endpoint kept last gave took = record {
  move = Undone (refusal user conn fault command);
  answer = refusal_of command;
  calls = record { of = refl; on = same; does = refl; answers = refl };
  noted = record {
    number = ap (λ s. s.number) seat;
    notes = ap (λ s. s.notes) seat ∙ sym (append-nil from.seat.notes);
    refused = refused;
    declined = undeclined ∙ sym (append-nil from.declined);
    few = omega arith;
  };
  said = said;
  endpoint = endpoint;
  conn = kept;
  gave = gave;
  took = took;
  last = last;
}
