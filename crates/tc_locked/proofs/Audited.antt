-- Entries that are done again.
use Rattle.std.proofs.Common.{◌≡◌, ◌≢◌, inl, inr, ℕ, zero, suc, ◌+◌, ◌<◌, ◌≤◌, List, [], ◌∷◌, length, get_or, drop, refl, sym, ap}
use Rattle.std.proofs.Common.{◌∙◌, subst, arith, Option, Some, None}
use Rattle.tc_model.specs.Caching.{Replays}
use Rattle.tc_plain.specs.UserCache.{UserCache}
use Rattle.tc_plain.specs.Doing.{act}
use Rattle.tc_plain.specs.Laws.{user_caching}
use Rattle.tc_locked.specs.declared.audit.Difference.{Difference}
use Rattle.tc_locked.specs.declared.audit.Audit.{Audit}
use Rattle.tc_locked.specs.declared.call_entry.CallEntry.{CallEntry}
use Rattle.tc_locked.specs.Audits.{Gives, IsFirstOdd, IsFinding, IsAuditOf, done_again}
use Rattle.tc_locked.specs.Books.{events_of}

-- what is left to be done, from this state, settles all
pub record IsLeft (first : UserCache) (all : List CallEntry) (k : UserCache) (place : ℕ) (rest : List CallEntry) : Type 0 where
  pub gives : Gives k rest → Gives first all
  pub odd : (d : Difference) → IsFirstOdd k rest place d → IsFirstOdd first all 0 d

drop_step : (es : List CallEntry) (i : ℕ) (e : CallEntry) → i < length es → e ≡ get_or es i e → drop i es ≡ e ∷ drop (i + 1) es
drop_step [] i e lt is = absurd (omega arith)
drop_step (x ∷ es) zero e lt is = ap (λ (y : CallEntry). y ∷ es) (sym is)
drop_step (x ∷ es) (suc i) e lt is = let next : i + 1 ≡ suc i = omega arith in let up : suc i + 1 ≡ suc (suc i) = omega arith in
    drop_step es i e (omega arith) is ∙ ap (λ (n : ℕ). e ∷ drop n es) next ∙ sym (ap (λ (n : ℕ). e ∷ drop n (x ∷ es)) up)

pub drop_all : (es : List CallEntry) (i : ℕ) → length es ≤ i → drop i es ≡ []
drop_all [] zero le = refl
drop_all [] (suc i) le = refl
drop_all (x ∷ es) zero le = absurd (omega arith)
drop_all (x ∷ es) (suc i) le = drop_all es i (omega arith)

-- the next entry gives its outcome
pub left_next : (first : UserCache) (all : List CallEntry) (k next : UserCache) (i : ℕ) (e : CallEntry) → i < length all
    → e ≡ get_or all i e → (act k e.moment e.command).0 ≡ e.outcome → next ≡ (act k e.moment e.command).1
    → IsLeft first all k i (drop i all) → IsLeft first all next (i + 1) (drop (i + 1) all)
left_next first all k next i e lt is same to h =
    let g : IsLeft first all k i (e ∷ drop (i + 1) all) = subst (IsLeft first all k i) (drop_step all i e lt is) h in
    subst (λ (j : UserCache). IsLeft first all j (i + 1) (drop (i + 1) all)) (sym to)
    (record { gives = λ rest. g.gives (same, rest); odd = λ d rest. g.odd d (inr (same, rest)) })

-- the next entry gives another outcome
pub left_odd : (first : UserCache) (all : List CallEntry) (k : UserCache) (i : ℕ) (e : CallEntry) → i < length all → e ≡ get_or all i e
    → (act k e.moment e.command).0 ≢ e.outcome → IsLeft first all k i (drop i all) → IsFirstOdd first all 0 (done_again k e i)
left_odd first all k i e lt is other h =
    let g : IsLeft first all k i (e ∷ drop (i + 1) all) = subst (IsLeft first all k i) (drop_step all i e lt is) h in
    g.odd (done_again k e i) (inl (other, refl))

-- ---- a legal page
gives_legal : (from : ℕ) (k : UserCache) (es : List CallEntry) → Replays user_caching from k (events_of es) → Gives k es
gives_legal from k [] h = tt
gives_legal from k (e ∷ es) h = (h.1, gives_legal e.moment (act k e.moment e.command).1 es h.2)

none_odd : (k : UserCache) (es : List CallEntry) (place : ℕ) (d : Difference) → Gives k es → IsFirstOdd k es place d → ⊥
none_odd k [] place d h odd = odd
none_odd k (e ∷ es) place d h (inl odd) = odd.0 h.0
none_odd k (e ∷ es) place d h (inr odd) = none_odd (act k e.moment e.command).1 es (place + 1) d h.1 odd.1

-- an audit by its parts
abbrev pub audit_as : ℕ → Option Difference → Audit
audit_as compared difference = record { compared = compared; difference = difference }

finding_legal : (k : UserCache) (es : List CallEntry) (n : ℕ) (found : Option Difference) → Gives k es → IsFinding k es n found
    → audit_as n found ≡ audit_as (length es) None
finding_legal k es n None h is = ap (λ (m : ℕ). audit_as m None) is.1
finding_legal k es n (Some d) h is = absurd (none_odd k es 0 d h is.0)

-- on a legal page no call differs
pub audit_legal : (from : ℕ) (k : UserCache) (es : List CallEntry) (audit : Audit) → Replays user_caching from k (events_of es)
    → IsAuditOf k es audit → audit ≡ audit_as (length es) None
audit_legal from k es audit h is = finding_legal k es audit.compared audit.difference (gives_legal from k es h) is
