use Rattle.std.proofs.Common.{Some, None, ◌≡◌, ◌≢◌, ◌⊎◌, inl, inr, true, ◌<◌, ◌==◌, ℕ, List, false, get_or, sym, ap, ◌∙◌, subst}
use Rattle.std.proofs.Common.{take, length}
use Rattle.std.specs.Prelude.{All}
use Rattle.std.proofs.lemmas.List.{take_all, take_more}
use Rattle.std.proofs.lemmas.List.Elements.{All-push}
use Rattle.std.proofs.lemmas.Bool.Decides.{eqb_tells}
use Rattle.std.proofs.Math.Dec.{eqb}
use Rattle.tc_locked.specs.Closing.{ClosedState, ShutState, IsBookOf, HasUser, with_logs, book_of}
use Rattle.tc_locked.proofs.ClosedHalls.{book_found, none_found, book_of-found, book_of-none, user_known, keeps_of}
use Rattle.tc_locked.proofs.closed.Closed.find.Goals as goal

eqb-apart : (a b : ℕ) → a ≢ b → eqb a b ≡ false
eqb-apart a b apart = go (eqb_tells a b)
  where
    go : ((eqb a b ≡ true) × (a ≡ b)) ⊎ ((eqb a b ≡ false) × (a ≢ b)) → eqb a b ≡ false
    go (inl h) = absurd (apart h.1)
    go (inr h) = h.0

pub returns-then-user-number-clause-some : goal.returns-then-user-number-clause-some
returns-then-user-number-clause-some g c =
    let e = c.deref-shut-items.ensures.value in
    let i = c.loop-shut.shut-index in
    let x = c.shut-item.result in
    subst (λ (k : ClosedState). IsBookOf c.args.user k.books x) c.self.view_is
    (book_found c.args.user c.self.inside.books.items c.self.inside.all.me.0.books i x c.self.invariant.2
    (subst (λ (l : List ShutState). i < length l) e c.loop-shut-test.true)
    (c.shut-item.is ∙ ap (λ (l : List ShutState). get_or l i x) e)
    (sym c.user.ensures ∙ c.if-user-number.true ∙ c.number-number.ensures))

pub returns-then-user-number-clause-known : goal.returns-then-user-number-clause-known
returns-then-user-number-clause-known g c =
    let e = c.deref-shut-items.ensures.value in
    let i = c.loop-shut.shut-index in
    let x = c.shut-item.result in
    user_known g.N.Naming.terms c.args.user (with_logs c.self.inside.books.items c.self.inside.all.me.0.books) x
    (book_found c.args.user c.self.inside.books.items c.self.inside.all.me.0.books i x c.self.invariant.2
    (subst (λ (l : List ShutState). i < length l) e c.loop-shut-test.true)
    (c.shut-item.is ∙ ap (λ (l : List ShutState). get_or l i x) e)
    (sym c.user.ensures ∙ c.if-user-number.true ∙ c.number-number.ensures))
    c.self.invariant.0

pub returns-then-user-number-clause-keeps : goal.returns-then-user-number-clause-keeps
returns-then-user-number-clause-keeps g c =
    let e = c.deref-shut-items.ensures.value in
    let i = c.loop-shut.shut-index in
    let x = c.shut-item.result in
    keeps_of g.N.Naming.terms c.args.user (with_logs c.self.inside.books.items c.self.inside.all.me.0.books) x
    (book_found c.args.user c.self.inside.books.items c.self.inside.all.me.0.books i x c.self.invariant.2
    (subst (λ (l : List ShutState). i < length l) e c.loop-shut-test.true)
    (c.shut-item.is ∙ ap (λ (l : List ShutState). get_or l i x) e)
    (sym c.user.ensures ∙ c.if-user-number.true ∙ c.number-number.ensures))
    c.self.invariant.0

pub returns-then-user-number-clause-first : goal.returns-then-user-number-clause-first
returns-then-user-number-clause-first g c =
    let e = c.deref-shut-items.ensures.value in
    let i = c.loop-shut.shut-index in
    let x = c.shut-item.result in
    subst (λ (k : ClosedState). Some x.book ≡ book_of c.args.user k.books) c.self.view_is
    (book_of-found c.args.user c.self.inside.books.items c.self.inside.all.me.0.books i x c.self.invariant.2
    (subst (λ (l : List ShutState). i < length l) e c.loop-shut-test.true)
    (c.shut-item.is ∙ ap (λ (l : List ShutState). get_or l i x) e)
    (sym c.user.ensures ∙ c.if-user-number.true ∙ c.number-number.ensures)
    (subst (λ (l : List ShutState × ℕ). All (λ (s : ShutState). (s.user == l.1) ≡ false) (take i l.0))
    (λ j. (e j, c.number-number.ensures j)) c.loop-shut.invariant))

pub returns-clause-first : goal.returns-clause-first
returns-clause-first g c =
    let e = c.deref-shut-items.ensures.value in
    subst (λ (k : ClosedState). None ≡ book_of c.args.user k.books) c.self.view_is
    (book_of-none c.args.user c.self.inside.books.items c.self.inside.all.me.0.books
    (subst (λ (l : List ShutState × ℕ). All (λ (s : ShutState). (s.user == l.1) ≡ false) l.0)
    (λ j. (
      (take_all c.loop-shut.shut-index c.deref-shut-items.result.now c.loop-shut-test.false ∙ e) j,
      c.number-number.ensures j,
    )) c.loop-shut.invariant))

pub returns-clause-none : goal.returns-clause-none
returns-clause-none g c =
    let e = c.deref-shut-items.ensures.value in
    λ is. none_found c.number-number.result c.self.inside.books.items c.self.inside.all.me.0.books
    (subst (λ (l : List ShutState). All (λ (s : ShutState). (s.user == c.number-number.result) ≡ false) l)
    (take_all c.loop-shut.shut-index c.deref-shut-items.result.now c.loop-shut-test.false ∙ e) c.loop-shut.invariant)
    (subst (λ (u : ℕ). HasUser u (with_logs c.self.inside.books.items c.self.inside.all.me.0.books)) (sym c.number-number.ensures)
    (c.self.invariant.3 c.args.user is))

pub loop-shut-preserved : goal.loop-shut-preserved
loop-shut-preserved g c =
    let xs = c.deref-shut-items.result.now in
    let i = c.loop-shut.shut-index in
    let x = c.shut-item.result in
    let P = λ (s : ShutState). (s.user == c.number-number.result) ≡ false in
    subst (All P) (sym (take_more xs i x c.loop-shut-test.true)) (All-push P (take i xs) (get_or xs i x) c.loop-shut.invariant
    (subst P c.shut-item.is (eqb-apart _ _ (λ same. c.if-user-number.false (c.user.ensures ∙ same)))))
