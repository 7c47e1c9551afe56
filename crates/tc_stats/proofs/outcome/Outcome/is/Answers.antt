use Rattle.std.proofs.Common.{rules}
use Rattle.std.specs.Cmp.Rules.{comparing}
use Rattle.std.proofs.lemmas.Slice.Eq.{slice_eq-Decides}
use Rattle.tc_stats.specs.declared.hits.Hit.{Hit}
use Rattle.tc_stats.proofs.outcome.Outcome.is.Goals as goal

pub returns-in-Values-other : goal.returns-in-Values-other
returns-in-Values-other c =
    let same = slice_eq-Decides (λ (a : Hit) (b : Hit). search (comparing, rules)) c.in-Values.hits c.in-Values-other.found
    c.eq.result c.eq.ensures in
    record { same = ((λ t. let hits = same.0 t in cc), (λ e. same.1 (cc))) }
