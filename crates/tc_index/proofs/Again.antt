-- A map from which an entry was taken, and into which it was put again.
use Rattle.std.specs.Prelude.{nat_eq, filter, not}
use Rattle.std.specs.Map.{lookup}
use Rattle.std.proofs.Common.{◌≡◌, ℕ, Bool, true, false, cond, List, Option, Some, refl, sym, ◌∙◌, ap}
use Rattle.std.proofs.lemmas.Bool.{eqb-true, eqb-false}
use Rattle.std.proofs.lemmas.Map.Entries.{lookup-filter-keys}

pub put_again : (tag slot q : ℕ) (old mid : List (ℕ × ℕ)) (new : Option ℕ) → lookup (nat_eq tag) old ≡ Some slot
    → mid ≡ filter (λ e. not (nat_eq e.0 tag)) old → new ≡ cond (nat_eq tag q) (Some slot) (lookup (nat_eq q) mid)
    → new ≡ lookup (nat_eq q) old
put_again tag slot q old mid new held left put = go (nat_eq tag q) refl put
  where
    others : nat_eq tag q ≡ false → (k : ℕ) → nat_eq q k ≡ true → not (nat_eq k tag) ≡ true
    others e k same = apart (nat_eq k tag) refl
      where
        apart : (b : Bool) → nat_eq k tag ≡ b → not b ≡ true
        apart true f = absurd (eqb-false tag q e (sym (eqb-true q k same ∙ eqb-true k tag f)))
        apart false f = refl

    go : (b : Bool) → nat_eq tag q ≡ b → new ≡ cond b (Some slot) (lookup (nat_eq q) mid) → new ≡ lookup (nat_eq q) old
    go true e f = f ∙ sym held ∙ ap (λ k. lookup (nat_eq k) old) (eqb-true tag q e)
    go false e f =
        f ∙ ap (lookup (nat_eq q)) left ∙ lookup-filter-keys (nat_eq q) (λ k. not (nat_eq k tag)) true (others e) old
