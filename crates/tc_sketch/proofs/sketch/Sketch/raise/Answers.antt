use Rattle.std.proofs.Common.{◌≡◌, refl, sym, ap, subst, ◌∙◌, arith}
use Rattle.tc_sketch.specs.Sketch.{Sketch}
use Rattle.tc_sketch.specs.CountingLaw.{IsSketch}
use Rattle.tc_sketch.specs.Steps.{counted_in}
use Rattle.tc_sketch.proofs.Records.{raised_rows, IsSketch-counted_in}
use Rattle.tc_sketch.proofs.sketch.Sketch.raise.Goals as goal

pub invariant_of-self : goal.invariant_of-self
invariant_of-self c =
    let s : Sketch = record {
      width = c.self.inside.width;
      row0 = c.self.inside.row0;
      row1 = c.self.inside.row1;
      row2 = c.self.inside.row2;
      row3 = c.self.inside.row3;
      count = c.self.inside.count;
    } in
    let rows = raised_rows s c.args.hash
    c.raise.ensures c.place.ensures.value
    c.raise-2.ensures c.place-2.ensures.value
    c.raise-3.ensures c.place-3.ensures.value
    c.raise-4.ensures c.place-4.ensures.value in
    let e : record s { row0 = c.raise.new.self; row1 = c.raise-2.new.self; row2 = c.raise-3.new.self; row3 = c.raise-4.new.self }
    ≡ counted_in c.args.hash s
    = rw (rows.first, rows.second, rows.third, rows.fourth) refl in
    record {
      at_least = omega arith;
      at_most = omega arith;
      young = c.self.invariant.young;
      legal = subst IsSketch (sym e) (IsSketch-counted_in s c.args.hash c.self.invariant.legal);
    }

pub returns : goal.returns
returns c =
    let s : Sketch = record {
      width = c.self.inside.width;
      row0 = c.self.inside.row0;
      row1 = c.self.inside.row1;
      row2 = c.self.inside.row2;
      row3 = c.self.inside.row3;
      count = c.self.inside.count;
    } in
    let rows = raised_rows s c.args.hash
    c.raise.ensures c.place.ensures.value
    c.raise-2.ensures c.place-2.ensures.value
    c.raise-3.ensures c.place-3.ensures.value
    c.raise-4.ensures c.place-4.ensures.value in
    let e : record s { row0 = c.raise.new.self; row1 = c.raise-2.new.self; row2 = c.raise-3.new.self; row3 = c.raise-4.new.self }
    ≡ counted_in c.args.hash s
    = rw (rows.first, rows.second, rows.third, rows.fourth) refl in
    e ∙ ap (counted_in c.args.hash) c.self.view_is
