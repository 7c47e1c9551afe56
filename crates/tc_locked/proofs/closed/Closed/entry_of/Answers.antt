use Rattle.std.proofs.Common.{◌+◌, sym, ap, ◌∙◌, length, ⊎_elim, arith}
use Rattle.tc_locked.proofs.NotePlaces.{placed, both_ok, if_some_map, if_none_map, if_none_of}
use Rattle.tc_locked.proofs.closed.Closed.entry_of.Goals as goal

pub returns-in-Some-clause-found : goal.returns-in-Some-clause-found
returns-in-Some-clause-found g c =
    both_ok _ _ _ c.entry.result
    (λ found elsewhere here. λ n has is _.
    let user = is.0 in
    let page = is.1 in
    let number = is.2 in
    let shut = c.in-Some.shut.now in
    let b = c.in-Some.ensures.some in
    let at = placed g.N.Naming.terms c.args.receipt.now.user c.args.self.now.books c.args.self.now.seats shut n
    c.find.ensures.kept c.find.ensures.tied b has user in
    ⊎_elim
    (λ lt. (
      if_some_map _ _ found (λ x no. absurd no) (elsewhere (λ same. let e = page ∙ same in omega arith)),
      if_none_of _ found (shut, b, lt),
    ))
    (λ o.
    let f = here (sym page ∙ o.1) o.0 n.entry o.2 (ap (λ k. k + length shut.book.entries) (sym number) ∙ o.3) in (
      if_some_map _ _ found (λ x is. (is, (shut, b, o.1))) f.0,
      if_none_map _ _ found (λ no. absurd no) f.1,
    ))
    at.is)
    c.entry.ensures.other c.entry.ensures.found
