use Rattle.std.specs.Prelude.{option_map}
use Rattle.std.proofs.Common.{◌≡◌, Some, arith}
use Rattle.std.proofs.lemmas.Grind.{common_steps}
use Rattle.tc_feed.specs.Passing.{passing_of}
use Rattle.tc_feed.specs.Stream.{first}
use Rattle.tc_feed.proofs.Lines.{passing_within}
use Rattle.tc_feed.proofs.feed.Feed.pass_over.Goals as goal

-- what was found among the unread bytes takes some of them
pub pass-requires : goal.pass-requires
pass-requires c =
    let e : option_map passing_of (first c.args.limit c.args.self.now.unread) ≡ Some c.in-Some.passing =
    grind (arith, common_steps) in passing_within c.args.limit c.args.self.now.unread c.in-Some.passing e
