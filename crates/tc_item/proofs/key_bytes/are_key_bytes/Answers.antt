use Rattle.std.proofs.Common.{◌∙◌, length, ap, eqb}
use Rattle.tc_item.specs.KeyRule.{is_key_byte}
use Rattle.tc_item.proofs.Runs.{through_all}
use Rattle.tc_item.proofs.key_bytes.are_key_bytes.Goals as goal

pub returns-in-0-to-7 : goal.returns-in-0-to-7
returns-in-0-to-7 c =
    ap (λ n. eqb n (length c.args.bytes.now)) c.run_of_few.ensures.value ∙ through_all is_key_byte c.args.bytes.now
