use Rattle.tc_session.proofs.Texts.{length-decimal_two, length-decimal_three, length-decimal_four}
use Rattle.std.proofs.Common.{sym, arith}
use Rattle.tc_session.proofs.text.few_digits.Goals as goal

pub returns-then-number-lt100-clause-value : goal.returns-then-number-lt100-clause-value
returns-then-number-lt100-clause-value c = sym (length-decimal_two c.args.number (omega arith) (omega arith))

pub returns-then-number-lt1000-clause-value : goal.returns-then-number-lt1000-clause-value
returns-then-number-lt1000-clause-value c = sym (length-decimal_three c.args.number (omega arith) (omega arith))

pub returns-else-number-lt1000-clause-value : goal.returns-else-number-lt1000-clause-value
returns-else-number-lt1000-clause-value c = sym (length-decimal_four c.args.number (omega arith) (omega arith))
