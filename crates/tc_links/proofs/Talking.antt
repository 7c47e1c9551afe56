-- Moves one after the other, and what they leave of a connection and its seat.
use Rattle.std.specs.Io.KnownBytes.{Keeps, Appends}
use Rattle.std.proofs.Common.{◌≡◌, ℕ, ◌+◌, ◌≤◌, List, [], ◌∷◌, ◌++◌, length, take}
use Rattle.std.proofs.Common.{Option, Some, None}
use Rattle.std.proofs.Common.{refl, sym, ◌∙◌, ap, subst, arith, append_assoc}
use Rattle.std.proofs.lemmas.List.{append-nil, length-append}
use Rattle.tc_model.specs.Connection.{Endpoint, endpoint_after}
use Rattle.tc_users.specs.declared.users.UserSpec.{UserSpec}
use Rattle.tc_session.specs.TextProtocol.{text_protocol}
use Rattle.tc_links.specs.Talks.{Move, happening_of, Says, AllMoves}
use Rattle.tc_links.specs.Talks.{notes_of, notes_in, refusals_of, refusals_in, declined_of, declined_in, piece_of, pieces_in}
use Rattle.tc_links.specs.Talks.{last_after}
use Rattle.tc_links.specs.Talks.{LinkState, DeskState, Goes, Notes, Talks, Carries}
use Rattle.tc_links.proofs.Latest.{last_after-append}

-- the moves of two lists in a row
pub all_moves-append : (rows : List UserSpec) (conn : ℕ) (e f g : Endpoint text_protocol) (ms ns : List Move) (said more : List ℕ)
    → AllMoves rows conn e ms f said → AllMoves rows conn f ns g more → AllMoves rows conn e (ms ++ ns) g (said ++ more)
all_moves-append rows conn e f g [] ns said more (same, none) second =
    let from : AllMoves rows conn e ns g more =
    subst (λ (x : Endpoint text_protocol). AllMoves rows conn x ns g more) same second in
    subst (λ (x : List ℕ). AllMoves rows conn e ns g (x ++ more)) (sym none) from
all_moves-append rows conn e f g (m ∷ ms) ns said more (next, one, rest, moves, later, whole) second = (
  next,
  one,
  rest ++ more,
  moves,
  all_moves-append rows conn next f g ms ns rest more later second,
  ap (λ xs. xs ++ more) whole ∙ append_assoc one rest more,
)

pub notes_in-append : (ms ns : List Move) → notes_in (ms ++ ns) ≡ notes_in ms ++ notes_in ns
notes_in-append [] ns = refl
notes_in-append (m ∷ ms) ns =
    ap (λ xs. notes_of m ++ xs) (notes_in-append ms ns) ∙ sym (append_assoc (notes_of m) (notes_in ms) (notes_in ns))

pub refusals_in-append : (ms ns : List Move) → refusals_in (ms ++ ns) ≡ refusals_in ms ++ refusals_in ns
refusals_in-append [] ns = refl
refusals_in-append (m ∷ ms) ns =
    ap (λ xs. refusals_of m ++ xs) (refusals_in-append ms ns)
    ∙ sym (append_assoc (refusals_of m) (refusals_in ms) (refusals_in ns))

pub declined_in-append : (ms ns : List Move) → declined_in (ms ++ ns) ≡ declined_in ms ++ declined_in ns
declined_in-append [] ns = refl
declined_in-append (m ∷ ms) ns =
    ap (λ xs. declined_of m ++ xs) (declined_in-append ms ns)
    ∙ sym (append_assoc (declined_of m) (declined_in ms) (declined_in ns))

pieces_in-append : (ms ns : List Move) → pieces_in (ms ++ ns) ≡ pieces_in ms ++ pieces_in ns
pieces_in-append [] ns = refl
pieces_in-append (m ∷ ms) ns =
    ap (λ xs. piece_of m ++ xs) (pieces_in-append ms ns) ∙ sym (append_assoc (piece_of m) (pieces_in ms) (pieces_in ns))

-- the latest entry after two lists of moves
last_after-moves : (last : Option ℕ) (ms ns : List Move)
    → last_after last (notes_in (ms ++ ns)) ≡ last_after (last_after last (notes_in ms)) (notes_in ns)
last_after-moves last ms ns =
    ap (last_after last) (notes_in-append ms ns) ∙ last_after-append last (notes_in ms) (notes_in ns)

-- known bytes that grow twice
appends-append : (a b c : Option (List ℕ)) (xs ys : List ℕ) → Appends a b xs → Appends b c ys → Appends a c (xs ++ ys)
appends-append None b c xs ys x y = tt
appends-append (Some held) None c xs ys x y = absurd x
appends-append (Some held) (Some more) None xs ys x y = absurd y
appends-append (Some held) (Some more) (Some all) xs ys x y = y ∙ ap (λ l. l ++ ys) x ∙ append_assoc held xs ys

appends-self : (a : Option (List ℕ)) → Appends a a []
appends-self None = tt
appends-self (Some held) = sym (append-nil held)

-- known bytes that stay
pub appends-same : {a b : Option (List ℕ)} → b ≡ a → Appends a b []
appends-same {a} same = subst (λ (o : Option (List ℕ)). Appends a o []) (sym same) (appends-self a)

pub appends-kept : (a b : Option (List ℕ)) → Keeps a b → Appends a b []
appends-kept None b k = tt
appends-kept (Some held) None k = absurd k
appends-kept (Some held) (Some all) k = k ∙ sym (append-nil held)

-- known bytes that grow by none
pub appends-zero : (a b : Option (List ℕ)) (n : ℕ) (xs : List ℕ) → n ≡ 0 → Appends a b (take n xs) → Appends a b []
appends-zero a b n xs none x = subst (λ (k : ℕ). Appends a b (take k xs)) none x

pub appends-as : (a b c : Option (List ℕ)) (xs : List ℕ) → c ≡ b → Appends a b xs → Appends a c xs
appends-as a b c xs same x = subst (λ (o : Option (List ℕ)). Appends a o xs) (sym same) x

-- a connection that made one move
pub goes-one : {rows : List UserSpec} {a b : LinkState} (m : Move) (said : List ℕ)
    → endpoint_after text_protocol rows (happening_of m) (Some a.session.endpoint) ≡ Some b.session.endpoint
    → Says rows a.conn a.session.endpoint m said → b.session.out ≡ a.session.out ++ said → b.conn ≡ a.conn
    → b.last ≡ last_after a.last (notes_of m) → Appends a.gave b.gave (piece_of m) → Appends a.took b.took []
    → Goes rows (m ∷ []) [] [] a b
goes-one {a = a} {b} m said steps says out conn last gave took =
    let piece : piece_of m ≡ (piece_of m ++ []) ++ [] = sym (append-nil (piece_of m)) ∙ sym (append-nil (piece_of m ++ [])) in
    record {
      said = said;
      moved = (b.session.endpoint, said, [], record { steps = steps; says = says }, (refl, refl), sym (append-nil said));
      whole = sym out;
      conn = conn;
      gave = subst (λ (xs : List ℕ). Appends a.gave b.gave xs) piece gave;
      took = took;
      last = last ∙ ap (last_after a.last) (sym (append-nil (notes_of m)));
    }

regroup : (out said more s t b-out c-out : List ℕ) → out ++ said ≡ s ++ b-out → b-out ++ more ≡ t ++ c-out
    → out ++ (said ++ more) ≡ (s ++ t) ++ c-out
regroup out said more s t b-out c-out one two =
    sym (append_assoc out said more) ∙ ap (λ xs. xs ++ more) one ∙ append_assoc s b-out more ∙ ap (λ xs. s ++ xs) two
    ∙ sym (append_assoc s t c-out)

-- one after the other
pub goes-append : {rows : List UserSpec} {ms ns : List Move} {s t lost : List ℕ} {a b c : LinkState}
    → Goes rows ms s [] a b → Goes rows ns t lost b c → Goes rows (ms ++ ns) (s ++ t) lost a c
goes-append {rows} {ms} {ns} {s} {t} {lost} {a} {b} {c} x y =
    let second : AllMoves rows a.conn b.session.endpoint ns c.session.endpoint y.said =
    subst (λ (n : ℕ). AllMoves rows n b.session.endpoint ns c.session.endpoint y.said) x.conn y.moved in
    let pieces : (pieces_in ms ++ []) ++ (pieces_in ns ++ lost) ≡ pieces_in (ms ++ ns) ++ lost =
    ap (λ xs. xs ++ (pieces_in ns ++ lost)) (append-nil (pieces_in ms)) ∙ sym (append_assoc (pieces_in ms) (pieces_in ns) lost)
    ∙ ap (λ xs. xs ++ lost) (sym (pieces_in-append ms ns)) in
    record {
      said = x.said ++ y.said;
      moved =
          all_moves-append rows a.conn a.session.endpoint b.session.endpoint c.session.endpoint ms ns x.said y.said x.moved
          second;
      whole = regroup a.session.out x.said y.said s t b.session.out c.session.out x.whole y.whole;
      conn = y.conn ∙ x.conn;
      gave =
          subst (λ (xs : List ℕ). Appends a.gave c.gave xs) pieces
          (appends-append a.gave b.gave c.gave (pieces_in ms ++ []) (pieces_in ns ++ lost) x.gave y.gave);
      took = appends-append a.took b.took c.took s t x.took y.took;
      last =
          y.last ∙ ap (λ (l : Option ℕ). last_after l (notes_in ns)) x.last ∙ sym (last_after-moves a.last ms ns);
    }

-- a desk at which no call was made
pub notes-still : {most : ℕ} {a b : DeskState} → b ≡ a → Notes most [] a b
notes-still {a = a} same = record {
  number = ap (λ d. d.seat.number) same;
  notes = ap (λ d. d.seat.notes) same ∙ sym (append-nil a.seat.notes);
  refused = ap (λ d. d.refused) same ∙ sym (append-nil a.refused);
  declined = ap (λ d. d.declined) same ∙ sym (append-nil a.declined);
  few = omega arith;
}

-- the same of moves at which none was
pub notes-silent : {most : ℕ} {ms : List Move} {a b : DeskState} → notes_in ms ≡ [] → refusals_in ms ≡ []
    → declined_in ms ≡ [] → b ≡ a → Notes most ms a b
notes-silent {a = a} silent unrefused undeclined same = record {
  number = ap (λ d. d.seat.number) same;
  notes = ap (λ d. d.seat.notes) same ∙ sym (append-nil a.seat.notes) ∙ ap (λ xs. a.seat.notes ++ xs) (sym silent);
  refused = ap (λ d. d.refused) same ∙ sym (append-nil a.refused) ∙ ap (λ xs. a.refused ++ xs) (sym unrefused);
  declined = ap (λ d. d.declined) same ∙ sym (append-nil a.declined) ∙ ap (λ xs. a.declined ++ xs) (sym undeclined);
  few = omega (arith, ap length silent, ap length unrefused);
}

-- the same of other moves that made the same calls
pub notes-as : {most : ℕ} {ms ns : List Move} {a b : DeskState} → ns ≡ ms → Notes most ms a b → Notes most ns a b
notes-as {most} {a = a} {b} same x = subst (λ (l : List Move). Notes most l a b) (sym same) x

pub notes-more : {most more : ℕ} {ms : List Move} {a b : DeskState} → most ≤ more → Notes most ms a b → Notes more ms a b
notes-more {most} {more} {ms} h x = record {
  number = x.number;
  notes = x.notes;
  refused = x.refused;
  declined = x.declined;
  few = let f : length (notes_in ms) + length (refusals_in ms) ≤ most = x.few in omega arith;
}

pub notes-append : {most more : ℕ} {ms ns : List Move} {a b c : DeskState} → Notes most ms a b → Notes more ns b c
    → Notes (most + more) (ms ++ ns) a c
notes-append {most} {more} {ms} {ns} {a} {b} {c} x y = record {
  number = y.number ∙ x.number;
  notes =
      y.notes ∙ ap (λ xs. xs ++ notes_in ns) x.notes ∙ append_assoc a.seat.notes (notes_in ms) (notes_in ns)
      ∙ ap (λ xs. a.seat.notes ++ xs) (sym (notes_in-append ms ns));
  refused =
      y.refused ∙ ap (λ xs. xs ++ refusals_in ns) x.refused ∙ append_assoc a.refused (refusals_in ms) (refusals_in ns)
      ∙ ap (λ xs. a.refused ++ xs) (sym (refusals_in-append ms ns));
  declined =
      y.declined ∙ ap (λ xs. xs ++ declined_in ns) x.declined ∙ append_assoc a.declined (declined_in ms) (declined_in ns)
      ∙ ap (λ xs. a.declined ++ xs) (sym (declined_in-append ms ns));
  few =
      let f : length (notes_in ms) + length (refusals_in ms) ≤ most = x.few in
      let g : length (notes_in ns) + length (refusals_in ns) ≤ more = y.few in
      let entered : length (notes_in (ms ++ ns)) ≡ length (notes_in ms) + length (notes_in ns) =
      ap length (notes_in-append ms ns) ∙ length-append (notes_in ms) (notes_in ns) in
      let refused : length (refusals_in (ms ++ ns)) ≡ length (refusals_in ms) + length (refusals_in ns) =
      ap length (refusals_in-append ms ns) ∙ length-append (refusals_in ms) (refusals_in ns) in
      omega arith;
}

pub carries-append : {s t lost : List ℕ} {a b c : LinkState} → Carries s [] a b → Carries t lost b c
    → Carries (s ++ t) lost a c
carries-append x y = record {
  moves = x.moves ++ y.moves;
  silent = notes_in-append x.moves y.moves ∙ ap (λ xs. xs ++ notes_in y.moves) x.silent ∙ y.silent;
  unrefused = refusals_in-append x.moves y.moves ∙ ap (λ xs. xs ++ refusals_in y.moves) x.unrefused ∙ y.unrefused;
  undeclined = declined_in-append x.moves y.moves ∙ ap (λ xs. xs ++ declined_in y.moves) x.undeclined ∙ y.undeclined;
  goes = λ rows. goes-append (x.goes rows) (y.goes rows);
}

pub talks-append : {most more : ℕ} {rows : List UserSpec} {s t lost : List ℕ} {a b c : LinkState} {from mid to : DeskState}
    → Talks most rows s [] a b from mid → Talks more rows t lost b c mid to → Talks (most + more) rows (s ++ t) lost a c from to
talks-append x y = record {
  moves = x.moves ++ y.moves;
  goes = goes-append x.goes y.goes;
  noted = notes-append x.noted y.noted;
}

-- a connection for which no call was made
pub carries-talks : {most : ℕ} {rows : List UserSpec} {s lost : List ℕ} {a b : LinkState} {desk : DeskState} → Carries s lost a b
    → Talks most rows s lost a b desk desk
carries-talks {rows = rows} x =
    record { moves = x.moves; goes = x.goes rows; noted = notes-silent x.silent x.unrefused x.undeclined refl }

pub talks-more : {most more : ℕ} {rows : List UserSpec} {s lost : List ℕ} {a b : LinkState} {from to : DeskState} → most ≤ more
    → Talks most rows s lost a b from to → Talks more rows s lost a b from to
talks-more h x = record { moves = x.moves; goes = x.goes; noted = notes-more h x.noted }

-- the same where it is this one
pub talks-as : {most : ℕ} {rows : List UserSpec} {s lost : List ℕ} {a b c : LinkState} {from to : DeskState} → c ≡ b
    → Talks most rows s lost a b from to → Talks most rows s lost a c from to
talks-as {most} {rows} {s} {lost} {a} {from = from} {to} same x =
    subst (λ (l : LinkState). Talks most rows s lost a l from to) (sym same) x

-- a connection that sent twice
pub carries-both : {a b c : LinkState} → (s : List ℕ) × Carries s [] a b → (s : List ℕ) × Carries s [] b c
    → (s : List ℕ) × Carries s [] a c
carries-both (s, x) (t, y) = (s ++ t, carries-append x y)

-- a connection that sent, and then read
pub carries-on : {lost : List ℕ} {a b c : LinkState} → (s : List ℕ) × Carries s [] a b → Carries [] lost b c
    → (s : List ℕ) × Carries s lost a c
carries-on (s, x) y = (s ++ [], carries-append x y)

-- a connection that read, and then was served
pub talks-behind : {most : ℕ} {rows : List UserSpec} {a b c : LinkState} {from to : DeskState} → Carries [] [] a b
    → Talks most rows [] [] b c from to → Talks most rows [] [] a c from to
talks-behind {most} {rows} {a} {b} {from = from} x y =
    let none : Talks 0 rows [] [] a b from from = carries-talks x in talks-more (omega arith) (talks-append none y)

-- a connection that was served, and then sent
pub talks-sent : {most : ℕ} {rows : List UserSpec} {a b n c : LinkState} {from to : DeskState} → Talks most rows [] [] a b from to
    → n ≡ b → (s : List ℕ) × Carries s [] n c → (s : List ℕ) × Talks most rows s [] a c from to
talks-sent {most} {rows} {b = b} {c = c} {to = to} x same (s, y) =
    let none : Talks 0 rows s [] b c to to = carries-talks (subst (λ (l : LinkState). Carries s [] l c) same y) in
    (s, talks-more (omega arith) (talks-append x none))
