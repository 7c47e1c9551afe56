use Rattle.std.specs.Str.{bytes_eq}
use Rattle.std.proofs.Common.{sym, ◌∙◌, ap}
use Rattle.tc_model.proofs.FirstPlace.{first_place-found, first_place-past}
use Rattle.tc_plain.specs.Entries.{has_key}
use Rattle.tc_plain.proofs.reference.lists.place_of.Goals as goal

pub returns-then-eq-clause-place : goal.returns-then-eq-clause-place
returns-then-eq-clause-place c =
    let key = c.args.key.now in
    sym (first_place-found (has_key key) c.args.items.now c.loop-i.i c.index-items-i.result c.loop-i-test.true c.loop-i.invariant
    (ap (has_key key) (sym c.index-items-i.is)
    ∙ (ap (λ k. bytes_eq k key) (sym c.as_bytes.ensures.bytes) ∙ (sym c.eq.ensures ∙ c.if-eq.true))))

pub loop-i-preserved : goal.loop-i-preserved
loop-i-preserved c =
    let key = c.args.key.now in
    first_place-past (has_key key) c.args.items.now c.loop-i.i c.index-items-i.result c.loop-i-test.true c.loop-i.invariant
    (ap (has_key key) (sym c.index-items-i.is)
    ∙ (ap (λ k. bytes_eq k key) (sym c.as_bytes.ensures.bytes) ∙ (sym c.eq.ensures ∙ c.if-eq.false)))
