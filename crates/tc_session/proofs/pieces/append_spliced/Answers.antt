use Rattle.std.proofs.Common.{arith, length-drop, vec_len, length, ◌≡◌, rules}
use Rattle.tc_session.proofs.pieces.append_spliced.Goals as goal

pub returns-clause-says : goal.returns-clause-says
returns-clause-says c =
    let new = c.append_pieces.new.to in
    let len : vec_len new ≡ length new.items = search rules in (
      c.in_ok-behind.behind,
      c.in_ok-append.ensures.appended,
      record {
        says = c.in_ok-behind.ensures.says;
        within = omega (arith, length-drop c.args.from new.items, c.in_ok-behind.ensures.within);
        some = c.in_ok-append.ensures.some;
      },
    )
