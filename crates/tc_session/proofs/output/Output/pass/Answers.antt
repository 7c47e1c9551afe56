use Rattle.std.proofs.Common.{◌≡◌, ◌≤◌, ◌+◌, ◌-◌, ◌∙◌, ap, arith, rules, drop, length, vec_len}
use Rattle.tc_session.specs.Unsent.{joined, reach}
use Rattle.tc_session.proofs.Waiting.{piece_sent, reach_first}
use Rattle.tc_session.proofs.output.Output.pass.Goals as goal

pub overflow_add-whole : goal.overflow_add-whole
overflow_add-whole c =
    let o = c.self.inside in
    let first = reach_first o.chain (drop 1 o.chain) c.in-Some.piece.now c.in-Some.ensures.found in
    omega (arith, first, c.in-Some.ensures.light, c.len.ensures, c.self.invariant.0, o.own.small)

pub overflow_add-self : goal.overflow_add-self
overflow_add-self c =
    let o = c.self.inside in
    let first = reach_first o.chain (drop 1 o.chain) c.in-Some.piece.now c.in-Some.ensures.found in
    omega (arith, first, c.in-Some.ensures.light, c.len.ensures, c.self.invariant.0, o.own.small, c.if-n-whole.true)

pub returns-clause-bytes : goal.returns-clause-bytes
returns-clause-bytes c =
    let o = c.self.inside in
    let p = c.in-Some.piece.now in
    let len : vec_len o.own ≡ length o.own.items = search rules in
    let within : o.start + reach o.chain ≤ length o.own.items = omega (arith, c.self.invariant.0) in
    let whole :
    p.before + length p.blob - o.sent ≡ c.args.n - (c.args.n - (p.before + c.len.result - o.sent)) =
    omega (arith, c.len.ensures, c.if-n-whole.false) in
    let left = c.compact-self-inside-2.result in
    let new = c.compact-self-inside-2.new.bytes.items in
    let waits = c.compact-self-inside-2.ensures.waiting in
    let gone =
    piece_sent o.sent o.start left o.own.items new p o.chain (drop 1 o.chain) c.in-Some.ensures.found c.self.invariant.1
    within waits in
    rw (c.pop.ensures, ← c.self.view_is)
    (gone ∙ ap (λ k. drop k (drop o.sent (joined (drop o.start o.own.items) o.chain))) whole)
