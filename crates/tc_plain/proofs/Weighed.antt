-- Holding protected to what it may weigh, one entry at a time.
use Rattle.std.specs.Prelude.{sum_by, vec_capacity}
use Rattle.std.proofs.Common.{◌≡◌, ℕ, ◌<◌, ◌≤◌, List, [], ◌∷◌, ◌++◌, sym, ◌∙◌, ap, append_assoc, arith}
use Rattle.std.proofs.lemmas.List.Sums.{sum_by-cons, sum_by_push}
use Rattle.tc_model.specs.Areas.{Areas, Limits, fitting, beyond, demoted, total}
use Rattle.tc_model.proofs.Last.{fitting_all, fitting_last, beyond_last}
use Rattle.tc_model.proofs.Steps.{areas_by, beyond_none}
use Rattle.tc_plain.specs.declared.shared.entry.Entry.{Entry}
use Rattle.tc_plain.specs.declared.reference.areas.Areas.{Areas as AreaLists}
use Rattle.tc_plain.specs.Entries.{weight}
use Rattle.tc_plain.specs.AreaLists.{areas_of, count_of}

-- the last of protected goes to the front of probation
pub demoted_last : (limits : Limits) (w p q : List Entry) (e : Entry) → limits.protected < sum_by weight (q ++ e ∷ [])
    → demoted weight limits (areas_by w p (q ++ e ∷ [])) ≡ demoted weight limits (areas_by w (e ∷ p) q)
demoted_last limits w p q e h =
    ap (λ t. areas_by w (t ++ p) (fitting weight limits.protected (q ++ e ∷ []))) (beyond_last weight limits.protected q e h)
    ∙ ap (λ t. areas_by w t (fitting weight limits.protected (q ++ e ∷ [])))
    (append_assoc (beyond weight limits.protected q) (e ∷ []) p)
    ∙ ap (λ t. areas_by w (beyond weight limits.protected q ++ e ∷ p) t) (fitting_last weight limits.protected q e h)

-- where protected weighs no more than it may, nothing goes
pub demoted_none : (limits : Limits) (a : Areas Entry) → sum_by weight a.protected ≤ limits.protected
    → demoted weight limits a ≡ a
demoted_none limits a h =
    ap (λ t. areas_by a.window (t ++ a.probation) (fitting weight limits.protected a.protected))
    (beyond_none weight limits.protected a.protected h)
    ∙ ap (λ t. areas_by a.window a.probation t) (fitting_all weight limits.protected a.protected h)

-- lists with as much room as others, and as many entries
pub record SameRoom (a b : AreaLists) : Type 0 where
  pub count : count_of b ≡ count_of a
  pub window : vec_capacity b.window ≡ vec_capacity a.window
  pub probation : vec_capacity b.probation ≡ vec_capacity a.probation
  pub protected : vec_capacity b.protected ≡ vec_capacity a.protected

-- lists on the way to hold protected to its limit
pub record IsHolding (most : ℕ) (a b : AreaLists) : Type 0 where
  pub areas : (limits : Limits) → limits.protected ≡ most
      → demoted weight limits (areas_of b) ≡ demoted weight limits (areas_of a)
  pub weight : total weight (areas_of b) ≡ total weight (areas_of a)
  pub room : SameRoom a b

pub holding_moves : (most : ℕ) (a b c : AreaLists) (e : Entry) → IsHolding most a b → c.window ≡ b.window
    → c.probation.items ≡ e ∷ b.probation.items → b.protected.items ≡ c.protected.items ++ e ∷ []
    → most < sum_by weight b.protected.items → SameRoom b c → IsHolding most a c
holding_moves most a b c e h w p q over room = record {
  areas = λ limits same.
      let far : limits.protected < sum_by weight (c.protected.items ++ e ∷ []) =
      omega (arith, same, over, ap (sum_by weight) q) in
      let last : areas_of b ≡ areas_by b.window.items b.probation.items (c.protected.items ++ e ∷ []) =
      ap (λ t. areas_by b.window.items b.probation.items t) q in
      let next : areas_by b.window.items (e ∷ b.probation.items) c.protected.items ≡ areas_of c =
      ap (λ v. areas_by v.items (e ∷ b.probation.items) c.protected.items) (sym w)
      ∙ ap (λ t. areas_by c.window.items t c.protected.items) (sym p) in
      sym (ap (demoted weight limits) last ∙ demoted_last limits b.window.items b.probation.items c.protected.items e far
      ∙ ap (demoted weight limits) next)
      ∙ h.areas limits same;
  weight =
      let x = sum_by_push weight c.protected.items e in
      let y = sum_by-cons weight e b.probation.items in
      let xs = ap (sum_by weight) q in
      let ys = ap (sum_by weight) p in
      let zs : sum_by weight c.window.items ≡ sum_by weight b.window.items = ap (λ v. sum_by weight v.items) w in
      omega (arith, x, y, xs, ys, zs, h.weight);
  room = record {
    count = room.count ∙ h.room.count;
    window = room.window ∙ h.room.window;
    probation = room.probation ∙ h.room.probation;
    protected = room.protected ∙ h.room.protected;
  };
}

pub holding_ends : (most : ℕ) (a b : AreaLists) (limits : Limits) → IsHolding most a b → sum_by weight b.protected.items ≤ most
    → limits.protected ≡ most → areas_of b ≡ demoted weight limits (areas_of a)
holding_ends most a b limits h light same =
    sym (demoted_none limits (areas_of b) (omega (arith, light, same))) ∙ h.areas limits same
