use Rattle.std.proofs.Common.{◌≡◌, ◌+◌, [], true, false, sym, ◌∙◌, ap, rules, arith}
use Rattle.std.proofs.lemmas.Result.{err_from_is_err_and}
use Rattle.tc_script.specs.Texts.{lines_of}
use Rattle.tc_script.specs.Plans.{reading_from}
use Rattle.tc_script.proofs.Cuts.{lines_of-cut, lines_of-alone}
use Rattle.tc_script.proofs.TakenLines.{reading-taken, reading-refused, reading-end}
use Rattle.tc_script.proofs.script.Script.read.Goals as goal

pub returns-in_err-take_text-clause-fault : goal.returns-in_err-take_text-clause-fault
returns-in_err-take_text-clause-fault c =
    let p = err_from_is_err_and c.from_residual.result c.from_residual.ensures.1 in
    rw (p.1, p.2) tt

pub returns-in_err-take_text-2-clause-fault : goal.returns-in_err-take_text-2-clause-fault
returns-in_err-take_text-2-clause-fault c =
    let p = err_from_is_err_and c.from_residual-in_err-take_text-2.result c.from_residual-in_err-take_text-2.ensures.1 in
    rw (p.1, p.2) tt

pub returns-then-not-branch-clause-fault : goal.returns-then-not-branch-clause-fault
returns-then-not-branch-clause-fault c =
    let s = c.loop-line.script in
    let n = c.loop-line.number in
    let cuts = lines_of-cut c.loop-line.rest.now (c.in-Some.line.now, c.in-Some.behind.now) c.in-Some.ensures.sides in
    let refused : c.in_ok-take_text.field-0 ≡ false = search rules in
    sym c.loop-line.invariant.reading ∙ (ap (reading_from s n) cuts
    ∙ reading-refused s c.take_text.new.self n c.in-Some.line.now (lines_of c.in-Some.behind.now) c.in_ok-take_text.field-0
    c.in_ok-take_text.ensures refused)

pub loop-line-preserved : goal.loop-line-preserved
loop-line-preserved c =
    let s = c.loop-line.script in
    let n = c.loop-line.number in
    let cuts = lines_of-cut c.loop-line.rest.now (c.in-Some.line.now, c.in-Some.behind.now) c.in-Some.ensures.sides in
    let taken : c.in_ok-take_text.field-0 ≡ true = search rules in
    record {
      reading =
          sym (reading-taken s c.take_text.new.self n c.in-Some.line.now
          (lines_of c.in-Some.behind.now) c.in_ok-take_text.field-0 c.in_ok-take_text.ensures taken)
          ∙ (sym (ap (reading_from s n) cuts) ∙ c.loop-line.invariant.reading);
      numbers = omega (arith, c.in-Some.ensures.shorter, c.loop-line.invariant.numbers);
    }

pub returns-then-not-branch-2-clause-fault : goal.returns-then-not-branch-2-clause-fault
returns-then-not-branch-2-clause-fault c =
    let s = c.loop-line.script in
    let n = c.loop-line.number in
    let alone = lines_of-alone c.loop-line.rest.now c.in_default.ensures.sides in
    let refused : c.in_ok-take_text-2.field-0 ≡ false = search rules in
    sym c.loop-line.invariant.reading ∙ (ap (reading_from s n) alone
    ∙ reading-refused s c.take_text-2.new.self n c.loop-line.rest.now [] c.in_ok-take_text-2.field-0 c.in_ok-take_text-2.ensures
    refused)

pub returns-clause-script : goal.returns-clause-script
returns-clause-script c =
    let s = c.loop-line.script in
    let n = c.loop-line.number in
    let alone = lines_of-alone c.loop-line.rest.now c.in_default.ensures.sides in
    let taken : c.in_ok-take_text-2.field-0 ≡ true = search rules in
    sym c.loop-line.invariant.reading ∙ (ap (reading_from s n) alone
    ∙ (reading-taken s c.take_text-2.new.self n c.loop-line.rest.now [] c.in_ok-take_text-2.field-0 c.in_ok-take_text-2.ensures
    taken
    ∙ reading-end c.take_text-2.new.self (n + 1)))
