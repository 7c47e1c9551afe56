use Rattle.std.proofs.Common.{append_assoc}
use Rattle.tc_session.proofs.answering.write_version.Goals as goal

pub returns : goal.returns
returns c =
    simp (c.write-3.ensures.bytes, c.write-2.ensures.bytes, c.write.ensures.bytes, c.as_bytes.ensures.value, append_assoc)
