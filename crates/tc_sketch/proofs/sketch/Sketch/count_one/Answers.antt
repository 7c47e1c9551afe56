use Rattle.std.proofs.Common.{◌≡◌, ◌≢◌, ℕ, ◌+◌, ◌*◌, ◌/◌, ◌^◌, ◌<◌, inl, inr, sym, ap, ◌∙◌, subst, arith}
use Rattle.std.proofs.lemmas.Bool.{cases_eq}
use Rattle.std.proofs.Math.Nat.{pow-le-pow_right}
use Rattle.tc_sketch.specs.Sketch.{Sketch, aged, halved}
use Rattle.tc_sketch.specs.CountingLaw.{IsSketch}
use Rattle.tc_sketch.specs.Steps.{one_more}
use Rattle.tc_sketch.proofs.Records.{aged-young, aged-old, IsSketch-aged_more}
use Rattle.tc_sketch.proofs.sketch.Sketch.count_one.Goals as goal

below : (n m : ℕ) → n < m → n + 1 ≢ m → n + 1 < m
below n m h ne = elim (cases_eq (n + 1) m) [ inl e ↦ absurd (ne e) | inr f ↦ omega arith ]

pub overflow_add-count : goal.overflow_add-count
overflow_add-count c =
    let most = pow-le-pow_right {n = 2} (omega arith) {i = c.self.inside.width} {j = 22} (omega arith) in
    omega (arith, most, c.self.invariant.young)

pub invariant_of-self : goal.invariant_of-self
invariant_of-self c =
    let p = c.self.inside in
    let s : Sketch = record { width = p.width; row0 = p.row0; row1 = p.row1; row2 = p.row2; row3 = p.row3; count = p.count } in
    let due : p.count + 1 ≡ 10 * 2 ^ p.width =
    c.if-count-records_before_halving.true ∙ c.records_before_halving.ensures in
    let e : record s {
      row0 = c.halve.new.self;
      row1 = c.halve-then-count-records_before_halving.new.self;
      row2 = c.halve-then-count-records_before_halving-2.new.self;
      row3 = c.halve-then-count-records_before_halving-3.new.self;
      count = (p.count + 1) / 2;
    } ≡ aged (one_more s)
    = rw (
      c.halve.ensures,
      c.halve-then-count-records_before_halving.ensures,
      c.halve-then-count-records_before_halving-2.ensures,
      c.halve-then-count-records_before_halving-3.ensures,
    )
    (sym (aged-old s due)) in
    record {
      at_least = omega arith;
      at_most = omega arith;
      young = omega (arith, due);
      legal = subst IsSketch (sym e) (IsSketch-aged_more s c.self.invariant.legal);
    }

pub returns-then-count-records_before_halving-clause-aged : goal.returns-then-count-records_before_halving-clause-aged
returns-then-count-records_before_halving-clause-aged c =
    let p = c.self.inside in
    let s : Sketch = record { width = p.width; row0 = p.row0; row1 = p.row1; row2 = p.row2; row3 = p.row3; count = p.count } in
    let due : p.count + 1 ≡ 10 * 2 ^ p.width =
    c.if-count-records_before_halving.true ∙ c.records_before_halving.ensures in
    let e : record s {
      row0 = c.halve.new.self;
      row1 = c.halve-then-count-records_before_halving.new.self;
      row2 = c.halve-then-count-records_before_halving-2.new.self;
      row3 = c.halve-then-count-records_before_halving-3.new.self;
      count = (p.count + 1) / 2;
    } ≡ aged (one_more s)
    = rw (
      c.halve.ensures,
      c.halve-then-count-records_before_halving.ensures,
      c.halve-then-count-records_before_halving-2.ensures,
      c.halve-then-count-records_before_halving-3.ensures,
    )
    (sym (aged-old s due)) in
    e ∙ ap (λ (t : Sketch). aged (one_more t)) c.self.view_is

pub invariant_of-self-2 : goal.invariant_of-self-2
invariant_of-self-2 c =
    let p = c.self.inside in
    let s : Sketch = record { width = p.width; row0 = p.row0; row1 = p.row1; row2 = p.row2; row3 = p.row3; count = p.count } in
    let few : p.count + 1 ≢ 10 * 2 ^ p.width =
    λ f. c.if-count-records_before_halving.false (f ∙ sym c.records_before_halving.ensures) in
    record {
      at_least = omega arith;
      at_most = omega arith;
      young = below p.count (10 * 2 ^ p.width) c.self.invariant.young few;
      legal = subst IsSketch (aged-young s few) (IsSketch-aged_more s c.self.invariant.legal);
    }

pub returns-clause-aged : goal.returns-clause-aged
returns-clause-aged c =
    let p = c.self.inside in
    let s : Sketch = record { width = p.width; row0 = p.row0; row1 = p.row1; row2 = p.row2; row3 = p.row3; count = p.count } in
    let few : p.count + 1 ≢ 10 * 2 ^ p.width =
    λ f. c.if-count-records_before_halving.false (f ∙ sym c.records_before_halving.ensures) in
    sym (aged-young s few) ∙ ap (λ (t : Sketch). aged (one_more t)) c.self.view_is

pub returns-clause-kept : goal.returns-clause-kept
returns-clause-kept c = λ _. ap one_more c.self.view_is
