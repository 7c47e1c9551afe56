use Rattle.std.proofs.Common.{◌≡◌, ◌≤◌, length, Some, sym, ◌∙◌, subst}
use Rattle.tc_feed.specs.Stream.{first}
use Rattle.tc_feed.proofs.Lines.{first_within}
use Rattle.tc_feed.proofs.feed.Feed.next.Goals as goal

pub take-requires : goal.take-requires
take-requires c =
    let framed = c.in-Some.framed in
    let found : first c.args.limit c.args.self.now.unread ≡ Some framed = sym c.in_ok-framed.ensures.next.0 ∙ c.in-Some.is in
    subst (λ r. framed.length ≤ length r.unread) (sym c.front.ensures.unchanged)
    (first_within c.args.limit c.args.self.now.unread framed found)
