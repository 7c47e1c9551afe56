use Rattle.std.proofs.Common.{◌≡◌, ◌+◌, ◌≤◌, ◌++◌, drop}
use Rattle.tc_session.specs.Owing.{owed_text, owed_room, AreMeasured}
use Rattle.tc_session.proofs.replies.write_owed.Given as goal

abbrev pub invariant-loop-reply : goal.invariant-loop-reply
invariant-loop-reply l = record {
  bytes : l.written.bytes ++ owed_text (drop l.reply-index l.reply-items) ≡ l.fn.written.bytes ++ owed_text l.reply-items;
  fits : owed_room (drop l.reply-index l.reply-items) ≤ l.written.room;
  room : l.fn.written.room + owed_room (drop l.reply-index l.reply-items) ≤ l.written.room + owed_room l.reply-items;
  measured : AreMeasured (drop l.reply-index l.reply-items);
}
