use Rattle.std.proofs.Common.{arith}
use Rattle.tc_locked.proofs.ClosedHalls.{count_is, counts_of}
use Rattle.tc_locked.proofs.closed.Closed.count.Goals as goal

pub count-requires : goal.count-requires
count-requires g c =
    let n = counts_of _ c.args.user c.args.self.now.books c.in-Some.shut.now c.in-Some.ensures.some c.find.ensures.kept in
    let lt = c.requires.seat in omega (arith, n)

pub returns-in-Some : goal.returns-in-Some
returns-in-Some g c = record {
  unknown = λ no. absurd (no c.in-Some.ensures.known);
  count =
      λ _. count_is g.N.Naming.terms c.args.user c.count.result c.args.seat_no c.args.self.now.books c.args.self.now.seats
      c.in-Some.shut.now c.requires.seat c.in-Some.ensures.some c.count.ensures c.find.ensures.kept c.find.ensures.tied;
}
