use Rattle.std.proofs.Common.{◌≡◌, ◌+◌, length, decimal, arith}
use Rattle.tc_session.proofs.Texts.{take_written}
use Rattle.tc_session.proofs.text.put_few_digits.Goals as goal

pub returns-clause-written : goal.returns-clause-written
returns-clause-written c =
    let e = c.write_digits.ensures in
    let long : c.args.at + c.few_digits.result ≡ c.args.at + length (decimal c.args.number) =
    omega (arith, c.few_digits.ensures.value) in
    take_written c.args.text.now c.write_digits.new.buf (decimal c.args.number) c.args.at c.write_digits.result
    (c.args.at + c.few_digits.result) long e.start (omega (arith, c.requires.room)) e.before e.written
