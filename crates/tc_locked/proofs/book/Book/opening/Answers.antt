use Rattle.std.proofs.Common.{◌∙◌, ap, sym, subst}
use Rattle.std.proofs.lemmas.Result.{IfOk-weaker, IfErr-weaker}
use Rattle.tc_locked.specs.Books.{BookState}
use Rattle.tc_locked.specs.Closing.{HasLegalPage}
use Rattle.tc_locked.proofs.Books.{legal_page, kept_is, none_kept}
use Rattle.tc_locked.proofs.book.Book.opening.Goals as goal

pub returns-clause-opening : goal.returns-clause-opening
returns-clause-opening g c =
    IfOk-weaker c.copy_kept.result _ _
    (λ plain h. kept_is _ _ plain c.self.inside.lists c.self.invariant.2 h ∙ ap (λ (b : BookState). b.opening) c.self.view_is)
    c.copy_kept.ensures.kept

pub returns-clause-off : goal.returns-clause-off
returns-clause-off g c =
    IfErr-weaker c.copy_kept.result _ _
    (λ fault h is. sym (ap (λ (b : BookState). b.keeps) c.self.view_is) ∙ none_kept _ _ c.self.inside.lists c.self.invariant.2 (h is))
    c.copy_kept.ensures.off

pub returns-clause-legal : goal.returns-clause-legal
returns-clause-legal g c = subst HasLegalPage c.self.view_is (legal_page _ c.self.invariant.0)
