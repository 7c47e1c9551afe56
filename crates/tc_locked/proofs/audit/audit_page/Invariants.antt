use Rattle.std.proofs.Common.{drop}
use Rattle.tc_locked.proofs.Audited.{IsLeft}
use Rattle.tc_locked.proofs.audit.audit_page.Given as goal

abbrev pub invariant-loop-place : goal.invariant-loop-place
invariant-loop-place l = IsLeft l.fn.opening l.entries l.cache l.place (drop l.place l.entries)
