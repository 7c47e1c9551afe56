use Rattle.std.proofs.Common.{◌≡◌, ◌<◌, sym, ap, ◌∙◌, subst, arith, length}
use Rattle.std.proofs.lemmas.Grind.{common_steps}
use Rattle.tc_locked.specs.declared.view.View.{View}
use Rattle.tc_locked.specs.Closing.{TookBooks, with_logs}
use Rattle.tc_locked.proofs.ClosedHalls.{ended, first_and_rest}
use Rattle.tc_locked.proofs.FreshHits.{all_fresh}
use Rattle.tc_locked.proofs.hall.Hall.close.Goals as goal

pub invariant_of-result : goal.invariant_of-result
invariant_of-result g c =
    let all : length c.take_books.new.out.items ≡ length g.N.Naming.terms.begins =
    let n = c.take_books.ensures.count in let m = c.self.invariant in grind (arith, common_steps) in
    let e = ended g.N.Naming.terms c.into_inner-all.result.me.0 c.take_seats.new.all.me.0 c.compare.new.all.me.0 c.remove.result
    c.remove.new.self.items c.take_books.new.out.items
    (ap (λ m. m.0) c.into_inner-all.ensures.1)
    (ap (λ m. m.0) c.take_seats.ensures.1)
    (subst (λ (v : View). TookBooks g.N.Naming.terms c.take_seats.new.all.me.0 c.take_books.new.out.items v)
    (sym (ap (λ m. m.0) c.compare.ensures.same.1)) c.take_books.ensures.books)
    c.compare.ensures.tied c.compare.ensures.apart all in
    (e.kept, e.tied, e.count, e.there)

pub returns-clause-seats : goal.returns-clause-seats
returns-clause-seats g c =
    let all : length c.take_books.new.out.items ≡ length g.N.Naming.terms.begins =
    let n = c.take_books.ensures.count in let m = c.self.invariant in grind (arith, common_steps) in
    let e = ended g.N.Naming.terms c.into_inner-all.result.me.0 c.take_seats.new.all.me.0 c.compare.new.all.me.0 c.remove.result
    c.remove.new.self.items c.take_books.new.out.items
    (ap (λ m. m.0) c.into_inner-all.ensures.1)
    (ap (λ m. m.0) c.take_seats.ensures.1)
    (subst (λ (v : View). TookBooks g.N.Naming.terms c.take_seats.new.all.me.0 c.take_books.new.out.items v)
    (sym (ap (λ m. m.0) c.compare.ensures.same.1)) c.take_books.ensures.books)
    c.compare.ensures.tied c.compare.ensures.apart all in
    let some : 0 < length c.args.seats.items = grind (arith, common_steps) in
    e.seats
    ∙ first_and_rest c.args.seats.items c.remove.result c.remove.new.self.items some c.remove.ensures.value c.remove.ensures.items

pub returns-clause-books : goal.returns-clause-books
returns-clause-books g c =
    let all : length c.take_books.new.out.items ≡ length g.N.Naming.terms.begins =
    let n = c.take_books.ensures.count in let m = c.self.invariant in grind (arith, common_steps) in
    let e = ended g.N.Naming.terms c.into_inner-all.result.me.0 c.take_seats.new.all.me.0 c.compare.new.all.me.0 c.remove.result
    c.remove.new.self.items c.take_books.new.out.items
    (ap (λ m. m.0) c.into_inner-all.ensures.1)
    (ap (λ m. m.0) c.take_seats.ensures.1)
    (subst (λ (v : View). TookBooks g.N.Naming.terms c.take_seats.new.all.me.0 c.take_books.new.out.items v)
    (sym (ap (λ m. m.0) c.compare.ensures.same.1)) c.take_books.ensures.books)
    c.compare.ensures.tied c.compare.ensures.apart all in
    let n = c.take_books.ensures.count in let was = c.self.view_is in e.count ∙ grind (arith, common_steps)

pub returns-clause-kept : goal.returns-clause-kept
returns-clause-kept g c =
    let all : length c.take_books.new.out.items ≡ length g.N.Naming.terms.begins =
    let n = c.take_books.ensures.count in let m = c.self.invariant in grind (arith, common_steps) in
    let e = ended g.N.Naming.terms c.into_inner-all.result.me.0 c.take_seats.new.all.me.0 c.compare.new.all.me.0 c.remove.result
    c.remove.new.self.items c.take_books.new.out.items
    (ap (λ m. m.0) c.into_inner-all.ensures.1)
    (ap (λ m. m.0) c.take_seats.ensures.1)
    (subst (λ (v : View). TookBooks g.N.Naming.terms c.take_seats.new.all.me.0 c.take_books.new.out.items v)
    (sym (ap (λ m. m.0) c.compare.ensures.same.1)) c.take_books.ensures.books)
    c.compare.ensures.tied c.compare.ensures.apart all in
    e.kept

pub returns-clause-tied : goal.returns-clause-tied
returns-clause-tied g c =
    let all : length c.take_books.new.out.items ≡ length g.N.Naming.terms.begins =
    let n = c.take_books.ensures.count in let m = c.self.invariant in grind (arith, common_steps) in
    let e = ended g.N.Naming.terms c.into_inner-all.result.me.0 c.take_seats.new.all.me.0 c.compare.new.all.me.0 c.remove.result
    c.remove.new.self.items c.take_books.new.out.items
    (ap (λ m. m.0) c.into_inner-all.ensures.1)
    (ap (λ m. m.0) c.take_seats.ensures.1)
    (subst (λ (v : View). TookBooks g.N.Naming.terms c.take_seats.new.all.me.0 c.take_books.new.out.items v)
    (sym (ap (λ m. m.0) c.compare.ensures.same.1)) c.take_books.ensures.books)
    c.compare.ensures.tied c.compare.ensures.apart all in
    e.tied

pub returns-clause-there : goal.returns-clause-there
returns-clause-there g c =
    let all : length c.take_books.new.out.items ≡ length g.N.Naming.terms.begins =
    let n = c.take_books.ensures.count in let m = c.self.invariant in grind (arith, common_steps) in
    let e = ended g.N.Naming.terms c.into_inner-all.result.me.0 c.take_seats.new.all.me.0 c.compare.new.all.me.0 c.remove.result
    c.remove.new.self.items c.take_books.new.out.items
    (ap (λ m. m.0) c.into_inner-all.ensures.1)
    (ap (λ m. m.0) c.take_seats.ensures.1)
    (subst (λ (v : View). TookBooks g.N.Naming.terms c.take_seats.new.all.me.0 c.take_books.new.out.items v)
    (sym (ap (λ m. m.0) c.compare.ensures.same.1)) c.take_books.ensures.books)
    c.compare.ensures.tied c.compare.ensures.apart all in
    e.there

pub returns-clause-fresh : goal.returns-clause-fresh
returns-clause-fresh g c =
    let all : length c.take_books.new.out.items ≡ length g.N.Naming.terms.begins =
    let n = c.take_books.ensures.count in let m = c.self.invariant in grind (arith, common_steps) in
    let e = ended g.N.Naming.terms c.into_inner-all.result.me.0 c.take_seats.new.all.me.0 c.compare.new.all.me.0 c.remove.result
    c.remove.new.self.items c.take_books.new.out.items
    (ap (λ m. m.0) c.into_inner-all.ensures.1)
    (ap (λ m. m.0) c.take_seats.ensures.1)
    (subst (λ (v : View). TookBooks g.N.Naming.terms c.take_seats.new.all.me.0 c.take_books.new.out.items v)
    (sym (ap (λ m. m.0) c.compare.ensures.same.1)) c.take_books.ensures.books)
    c.compare.ensures.tied c.compare.ensures.apart all in
    all_fresh g.N.Naming.terms (with_logs c.take_books.new.out.items c.compare.new.all.me.0.books) e.kept
