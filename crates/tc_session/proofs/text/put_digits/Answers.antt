use Rattle.std.proofs.Common.{◌+◌, ◌++◌, ◌∙◌, take, ap, sym, arith}
use Rattle.std.proofs.lemmas.List.{take_more_set}
use Rattle.std.proofs.lemmas.Fmt.{decimal_digit}
use Rattle.tc_session.proofs.text.put_digits.Goals as goal

pub returns-then-number-lt10-clause-written : goal.returns-then-number-lt10-clause-written
returns-then-number-lt10-clause-written c =
    take_more_set c.args.text.now c.args.at (48 + c.args.number) (omega (arith, c.requires.room))
    ∙ ap (λ l. take c.args.at c.args.text.now ++ l) (sym (decimal_digit c.args.number c.if-number-lt10.true))
