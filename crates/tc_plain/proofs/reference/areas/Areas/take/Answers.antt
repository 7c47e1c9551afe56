use Rattle.std.proofs.Common.{sym}
use Rattle.tc_plain.specs.AreaLists.{areas_of}
use Rattle.tc_plain.proofs.TakenOut.{held_in_window, held_in_probation, held_in_protected, held_nowhere}
use Rattle.tc_plain.proofs.reference.areas.Areas.take.Goals as goal

pub returns-in-Some-clause-taken : goal.returns-in-Some-clause-taken
returns-in-Some-clause-taken c =
    held_in_window c.args.key.now (areas_of c.args.self.now) c.in-Some.entry (sym c.in-Some.ensures.entry)

pub returns-in-Some-take_first-clause-taken : goal.returns-in-Some-take_first-clause-taken
returns-in-Some-take_first-clause-taken c =
    held_in_probation c.args.key.now (areas_of c.args.self.now) c.in-Some-take_first.entry (sym c.in_default.ensures.entry)
    (sym c.in-Some-take_first.ensures.entry)

pub returns-in_err-entry-clause-taken : goal.returns-in_err-entry-clause-taken
returns-in_err-entry-clause-taken c =
    rw c.from_residual.ensures (held_nowhere c.args.key.now (areas_of c.args.self.now) (sym c.in_default.ensures.entry)
    (sym c.in_default-take_first.ensures.entry) (sym c.in_err-entry.ensures.entry))

pub returns-clause-taken : goal.returns-clause-taken
returns-clause-taken c =
    held_in_protected c.args.key.now (areas_of c.args.self.now) c.in_ok-entry.entry (sym c.in_default.ensures.entry)
    (sym c.in_default-take_first.ensures.entry) (sym c.in_ok-entry.ensures.entry)
