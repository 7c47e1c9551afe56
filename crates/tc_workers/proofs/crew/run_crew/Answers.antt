use Rattle.std.specs.Prelude.{IfSome}
use Rattle.std.proofs.Common.{◌≡◌, List, [], ◌++◌, sym, ap, subst, ◌∙◌, vec_len}
use Rattle.std.proofs.lemmas.List.{append-nil, nil_from_length}
use Rattle.tc_locked.specs.HallBooks.{SeatState}
use Rattle.tc_workers.specs.Crews.{numbers_in, numbers_of}
use Rattle.tc_workers.proofs.crew.run_crew.Goals as goal

pub returns-in_default-clause-err : goal.returns-in_default-clause-err
returns-in_default-clause-err g c =
    ap (λ (s : List SeatState). numbers_in c.args.crew.items ++ numbers_of s) c.new.ensures.items
    ∙ append-nil (numbers_in c.args.crew.items)

pub returns-in_default-with_capacity-clause-err : goal.returns-in_default-with_capacity-clause-err
returns-in_default-with_capacity-clause-err g c =
    ap (λ (s : List SeatState). numbers_in c.args.crew.items ++ numbers_of s) c.new-in_default-with_capacity.ensures.items
    ∙ append-nil (numbers_in c.args.crew.items)

pub returns-in-Some-clause-ok : goal.returns-in-Some-clause-ok
returns-in-Some-clause-ok g c =
    let stood = c.scoped-stood.result in
    let went : vec_len stood.rest ≡ 0 = subst (λ o. IfSome o (λ _. vec_len stood.rest ≡ 0)) c.in-Some.is c.scoped-stood.ensures.1.1 in
    let none : stood.rest.items ≡ [] = nil_from_length stood.rest.items (sym stood.rest.ok.0 ∙ went) in
    ap (λ r. numbers_in r ++ numbers_of stood.seats.items) (sym none) ∙ c.scoped-stood.ensures.1.0
