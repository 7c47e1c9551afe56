use Rattle.std.proofs.Common.{◌≡◌, ◌≤◌, ◌+◌, arith, length, vec_len, rules}
use Rattle.tc_session.specs.Unsent.{reach}
use Rattle.tc_session.specs.Replies.{value_text}
use Rattle.tc_session.proofs.Waiting.{appended}
use Rattle.tc_session.proofs.pieces.append_piece.Goals as goal

pub returns-clause-bytes : goal.returns-clause-bytes
returns-clause-bytes c =
    let own = c.args.to.now.items in
    let old : vec_len c.args.to.now ≡ length own = search rules in
    let within : c.args.from + reach c.args.chain.now ≤ length own = omega arith in
    rw c.in_ok-append_copied.ensures.bytes
    (appended c.args.from own (value_text c.args.form c.args.hit.now) c.args.chain.now within)
