use Rattle.std.proofs.Common.{◌∙◌, ap}
use Rattle.tc_counter.specs.CounterText.{number_in}
use Rattle.tc_counter.proofs.Spelling.{number_in_spells, number_in-text_of}
use Rattle.tc_counter.proofs.read.Goals as goal

pub returns-clause-spelling : goal.returns-clause-spelling
returns-clause-spelling c = rw c.scan.ensures (number_in_spells c.args.text.now)

pub returns-clause-round_trip : goal.returns-clause-round_trip
returns-clause-round_trip c = λ n spaces h e. c.scan.ensures ∙ ap number_in e ∙ number_in-text_of n spaces h
