use Rattle.std.specs.Prelude.{min}
use Rattle.std.proofs.Common.{◌≡◌, ◌≤◌, ◌+◌, ◌-◌, arith, subst, sym}
use Rattle.tc_wheel.specs.Kept.{IsSwept}
use Rattle.tc_wheel.proofs.Passed.{swept_passed}
use Rattle.tc_wheel.proofs.Turned.{found, gives_none, gives_some}
use Rattle.tc_wheel.proofs.wheel.Wheel.advance.Goals as goal

pub find_due-requires-clause-swept : goal.find_due-requires-clause-swept
find_due-requires-clause-swept c =
    let left : c.min-self-inside.result ≡ min (c.self.inside.left + (c.later-now.result - c.self.inside.moment)) 4096 =
    omega arith in
    let order : c.self.inside.moment ≤ c.later-now.result = omega arith in
    subst (λ n. IsSwept 4096 c.later-now.result n c.self.inside.nodes) (sym left)
    (swept_passed 4096 c.self.inside.moment c.later-now.result c.self.inside.left c.self.inside.nodes
    (omega arith) order c.self.invariant.swept)

pub unlink-requires : goal.unlink-requires
unlink-requires c = (
  omega arith,
  (found c.later-now.result c.args.moment c.in-Some.at c.find_due.new.nodes c.in-Some.ensures.found
      c.in-Some.ensures.swept).place,
)

pub invariant_of-self : goal.invariant_of-self
invariant_of-self c = record {
  passed = omega (arith, c.in-Some.ensures.fewer);
  swept =
      (gives_some c.self.inside.nodes c.find_due.new.nodes c.unlink.new.self c.note.new.self c.self.inside.moment
      c.later-now.result c.args.moment c.in-Some.at c.args.self.now c.later-now.ensures c.in-Some.ensures.dues
      c.in-Some.ensures.found c.unlink.ensures c.note.ensures c.self.view_is c.in-Some.ensures.swept).0;
}

pub returns-in-Some : goal.returns-in-Some
returns-in-Some c =
    (gives_some c.self.inside.nodes c.find_due.new.nodes c.unlink.new.self c.note.new.self c.self.inside.moment
    c.later-now.result c.args.moment c.in-Some.at c.args.self.now c.later-now.ensures c.in-Some.ensures.dues
    c.in-Some.ensures.found c.unlink.ensures c.note.ensures c.self.view_is c.in-Some.ensures.swept).1

pub returns-in-None : goal.returns-in-None
returns-in-None c =
    gives_none c.self.inside.nodes c.find_due.new.nodes c.self.inside.moment c.later-now.result c.args.moment c.args.self.now
    c.later-now.ensures c.in-None.ensures.dues c.in-None.ensures.found c.self.view_is
