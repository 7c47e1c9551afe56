use Rattle.std.proofs.Common.{◌++◌, ◌∙◌, ap}
use Rattle.tc_grammar.specs.declared.fault.Fault.TheVariants.{NoMemory as OutOfMemory}
use Rattle.tc_session.specs.SessionView.{SessionView}
use Rattle.tc_session.specs.Texts.{fault_line, unless_quiet}
use Rattle.tc_session.proofs.Declining.{declines-passed}
use Rattle.tc_session.proofs.session.Session.answer_passed.Goals as goal

pub returns-in-Command-clause-passed : goal.returns-in-Command-clause-passed
returns-in-Command-clause-passed c request e =
    declines-passed c.args.user c.args.self.now.endpoint.reader request c.in-Command.quiet c.args.self.now
    c.say_fault.new.self (e ∙ c.in-Command.is)
    (c.say_fault.ensures.said
    ∙ ap (λ (s : SessionView). s.out ++ unless_quiet c.in-Command.quiet (fault_line OutOfMemory)) c.self.view_is)
