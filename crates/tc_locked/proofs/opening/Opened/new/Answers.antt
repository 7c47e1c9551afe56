use Rattle.std.specs.Prelude.{replicate}
use Rattle.tc_locked.specs.Views.{table_words}
use Rattle.tc_locked.proofs.TableSteps.{begins}
use Rattle.tc_locked.proofs.opening.Opened.new.Goals as goal

pub of_words-requires : goal.of_words-requires
of_words-requires c = begins (replicate table_words 0)
