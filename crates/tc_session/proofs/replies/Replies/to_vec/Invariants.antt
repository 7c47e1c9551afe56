use Rattle.std.proofs.Common.{◌≡◌, ◌++◌, drop}
use Rattle.tc_session.specs.Owing.{owed_text, AreMeasured}
use Rattle.tc_session.proofs.replies.Replies.to_vec.Given as goal

abbrev pub invariant-loop-reply : goal.invariant-loop-reply
invariant-loop-reply l = record {
  bytes : l.bytes.items ++ owed_text (drop l.reply-index l.reply-items) ≡ l.self.bytes;
  measured : AreMeasured (drop l.reply-index l.reply-items);
}
