use Rattle.std.proofs.Common.{arith}
use Rattle.tc_plain.proofs.reference.areas.Areas.admit.Goals as goal

pub put_first-requires : goal.put_first-requires
put_first-requires c = let r = c.drop_main-evictions.ensures.room 1 c.requires.room in omega (arith, r.probation_room)

pub returns-clause-room : goal.returns-clause-room
returns-clause-room c =
    let r = c.drop_main-evictions.ensures.room 1 c.requires.room in
    record {
      window_room = omega (arith, r.window_room, c.put_first.ensures.len);
      probation_room = omega (arith, r.probation_room, c.put_first.ensures.len, c.put_first.ensures.capacity);
      protected_room = omega (arith, r.protected_room, c.put_first.ensures.len);
    }
