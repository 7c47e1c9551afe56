use Rattle.std.proofs.Common.{◌≡◌, ◌<◌, ◌^◌, ap, sym, subst, arith, length}
use Rattle.std.proofs.lemmas.Fmt.{length-decimal-le}
use Rattle.tc_counter.specs.CounterText.{text_of}
use Rattle.tc_plain.proofs.Stays.{number-lt, counted-lt}
use Rattle.tc_plain.proofs.shared.plans.plan_count.Goals as goal

pub returns-clause-light : goal.returns-clause-light
returns-clause-light c limits le =
    let n = c.count-number.result in
    let below : n < 2 ^ 64 =
    subst (λ m. m < 2 ^ 64) (sym c.count-number.ensures)
    (counted-lt c.args.way c.in-Some.number c.args.by
    (number-lt c.as_slice.result.now c.in-Some.number (sym c.in-Some.ensures.value))) in
    let digits = length-decimal-le 20 n (omega arith) (omega arith) below in
    let text : length c.in_ok-spell.field-0 ≡ length (text_of n) = ap length c.in_ok-spell.ensures in
    let key : length c.in_ok-key.key ≡ length c.args.entry.now.key = ap length c.in_ok-key.ensures in
    omega (arith, digits, text, key, le)
