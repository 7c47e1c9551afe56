use Rattle.std.proofs.Common.{◌≡◌, ◌+◌, length, sym, ◌∙◌, ap, arith}
use Rattle.tc_partition.specs.FastState.{waits_next}
use Rattle.tc_partition.proofs.deferred_work.make_place.Goals as goal

pub returns-then-len-eq-PLACES-clause-room : goal.returns-then-len-eq-PLACES-clause-room
returns-then-len-eq-PLACES-clause-room c = omega (arith, ap length (c.drain.ensures.none (omega arith)))

pub returns-then-len-eq-PLACES-clause-waits : goal.returns-then-len-eq-PLACES-clause-waits
returns-then-len-eq-PLACES-clause-waits c =
    let full : length c.args.waiting.now ≡ 128 = sym c.len.ensures.count ∙ c.if-len-eq-PLACES.true in
    let one : length c.drain.new.waiting + 1 ≡ 1 = omega (arith, ap length (c.drain.ensures.none (omega arith))) in
    one ∙ ap waits_next (sym full)
