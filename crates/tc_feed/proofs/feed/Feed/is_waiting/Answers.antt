use Rattle.std.proofs.Common.{ap, drop, arith}
use Rattle.std.proofs.lemmas.Bool.{ltb-true}
use Rattle.tc_feed.proofs.Lines.{waiting_stays}
use Rattle.tc_feed.proofs.feed.Feed.is_waiting.Goals as goal

pub returns-then-self-limit-clause-stays : goal.returns-then-self-limit-clause-stays
returns-then-self-limit-clause-stays c = λ few.
    let o = c.self.inside in
    waiting_stays c.args.limit o.limit o.needed (drop o.start o.bytes.items) c.args.self.now (ap (λ r. r.unread) c.self.view_is)
    c.if-self-limit.true c.self.invariant.1.0 (omega (arith, ltb-true c.unread_len.result o.needed few))
