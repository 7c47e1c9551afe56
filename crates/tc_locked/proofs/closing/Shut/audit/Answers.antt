use Rattle.std.proofs.Common.{◌∙◌, ap, List, length, None}
use Rattle.tc_locked.specs.declared.call_entry.CallEntry.{CallEntry}
use Rattle.tc_locked.specs.Closing.{ShutState}
use Rattle.tc_locked.proofs.Audited.{audit_legal, audit_as}
use Rattle.tc_locked.proofs.closing.Shut.audit.Goals as goal

pub returns-clause-audited : goal.returns-clause-audited
returns-clause-audited g c =
    audit_legal 0 c.in_ok-opening.opening c.in_ok-page.page.now c.in_ok-audit.audit
    (rw (c.in_ok-opening.ensures.opening, c.in_ok-page.ensures.entries) c.page.ensures.legal) c.in_ok-audit.ensures
    ∙ ap (λ (l : List CallEntry). audit_as (length l) None) c.in_ok-page.ensures.entries
    ∙ ap (λ (s : ShutState). audit_as (length s.book.entries) None) c.self.view_is
