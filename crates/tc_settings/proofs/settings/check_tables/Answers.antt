use Rattle.std.proofs.Common.{arith}
use Rattle.std.proofs.lemmas.Bool.Decides.{nat_tests}
use Rattle.tc_settings.proofs.UserTables.{tables_fault-view}
use Rattle.tc_settings.proofs.settings.check_tables.Goals as goal

pub returns-then-not-are_tables-clause-fault : goal.returns-then-not-are_tables-clause-fault
returns-then-not-are_tables-clause-fault c = rw (tables_fault-view c.args.tables.now) (grind (arith, nat_tests))

pub returns-then-found-clause-fault : goal.returns-then-found-clause-fault
returns-then-found-clause-fault c = rw (tables_fault-view c.args.tables.now) (grind (arith, nat_tests))

pub returns-clause-fault : goal.returns-clause-fault
returns-clause-fault c = rw (tables_fault-view c.args.tables.now) (grind (arith, nat_tests))
