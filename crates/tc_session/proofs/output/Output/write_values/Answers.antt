use Rattle.std.proofs.Common.{◌≡◌, ◌≤◌, ◌+◌, ap, arith, rules, length, vec_len}
use Rattle.tc_session.specs.Unsent.{reach}
use Rattle.tc_session.specs.Replies.{values_text}
use Rattle.tc_session.proofs.Waiting.{spliced_at, spliced_fits}
use Rattle.tc_session.proofs.output.Output.write_values.Goals as goal

pub invariant_of-self-2 : goal.invariant_of-self-2
invariant_of-self-2 c =
    let o = c.self.inside in
    let new = c.splice_values.new.to in
    let text = values_text c.args.form c.args.hits.now in
    let old_len : vec_len o.own ≡ length o.own.items = search rules in
    let new_len : vec_len new ≡ length new.items = search rules in
    let within : o.start + reach o.chain ≤ length o.own.items = omega (arith, c.self.invariant.0) in
    let t = c.in_ok-splice_values.ensures.says in
    let fits =
    spliced_fits o.sent o.start (o.start + c.reach.result) o.own.items new.items text o.chain t.0 c.splice_values.new.chain
    (ap (λ n. o.start + n) c.reach.ensures) t.1 within c.self.invariant.1 c.in_ok-splice_values.ensures.front t.2 in
    (omega (arith, fits.0), fits.1)

pub returns-clause-bytes : goal.returns-clause-bytes
returns-clause-bytes c =
    let o = c.self.inside in
    let new = c.splice_values.new.to in
    let text = values_text c.args.form c.args.hits.now in
    let old_len : vec_len o.own ≡ length o.own.items = search rules in
    let within : o.start + reach o.chain ≤ length o.own.items = omega (arith, c.self.invariant.0) in
    let t = c.in_ok-splice_values.ensures.says in
    rw (← c.self.view_is)
    (spliced_at o.sent o.start (o.start + c.reach.result) o.own.items new.items text o.chain t.0 c.splice_values.new.chain
    (ap (λ n. o.start + n) c.reach.ensures) t.1 within c.self.invariant.1 c.in_ok-splice_values.ensures.front t.2)
