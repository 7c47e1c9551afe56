use Rattle.std.specs.Prelude.{min}
use Rattle.std.proofs.Common.{◌≡◌, length, arith}
use Rattle.tc_feed.proofs.Lines.{scanned_none}
use Rattle.tc_feed.proofs.feed.Feed.next_without_end.Goals as goal

pub wait-requires-clause-scanned : goal.wait-requires-clause-scanned
wait-requires-clause-scanned c =
    let u = c.args.self.now.unread in
    let all : c.unread_len-unread.result ≡ min (length u) 65537 =
    omega (arith, c.unread_len-unread.ensures, c.if-unread-le-LONGEST_LINE.true) in
    scanned_none u c.unread_len-unread.result all c.requires.none
