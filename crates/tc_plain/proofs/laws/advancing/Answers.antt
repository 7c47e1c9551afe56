use Rattle.tc_plain.proofs.Advances.{advances_once, acts_advanced}
use Rattle.tc_plain.proofs.Left.{leaves_advanced}
use Rattle.tc_plain.proofs.laws.advancing.Goals as goal

pub returns-clause-twice : goal.returns-clause-twice
returns-clause-twice c = advances_once

pub returns-clause-first : goal.returns-clause-first
returns-clause-first c = acts_advanced

pub returns-clause-left : goal.returns-clause-left
returns-clause-left c = leaves_advanced
