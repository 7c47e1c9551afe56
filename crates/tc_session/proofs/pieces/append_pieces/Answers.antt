use Rattle.std.proofs.Common.{◌≡◌, ◌≤◌, ◌+◌, arith, length, vec_len, rules, codes, append_assoc, refl}
use Rattle.std.proofs.lemmas.List.{take_all}
use Rattle.tc_session.specs.Unsent.{reach}
use Rattle.tc_session.specs.Replies.{values_text}
use Rattle.tc_session.proofs.Waiting.{appended}
use Rattle.tc_session.proofs.pieces.append_pieces.Goals as goal

pub returns-clause-says : goal.returns-clause-says
unfolding values_text
returns-clause-says c =
    let own = c.loop-hit.to.items in
    let old : vec_len c.loop-hit.to ≡ length own = search rules in
    let within : c.args.from + reach c.loop-hit.chain ≤ length own = omega (arith, c.loop-hit.invariant.within) in
    let all : length c.args.hits.now ≤ c.loop-hit.hit-index = omega (arith, c.loop-hit-test.false) in
    rw (
      c.in_ok-extend_from_slice.ensures.items,
      appended c.args.from own (codes "END\r\n") c.loop-hit.chain within,
      c.loop-hit.invariant.bytes,
      take_all c.loop-hit.hit-index c.args.hits.now all,
      append_assoc,
    ) refl
