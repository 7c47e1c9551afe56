-- Connections stand by rising number in every run.
use Rattle.std.specs.Prelude.{◌==◌, map, nat_lt}
use Rattle.std.proofs.Common.{◌≡◌, ℕ, ◌<◌, Bool, true, false, cond, List, [], ◌∷◌, Option, Some, None, refl, subst, arith}
use Rattle.std.proofs.lemmas.Bool.{eqb-true, eqb-false, ltb-true, ltb-false}
use Rattle.tc_model.specs.Server.{Machine, Step, On, Tick, Maintain, World, numbered, with_numbered, with_some, effect, step}
use Rattle.tc_model.specs.Server.{steps_from, first_world}
use Rattle.tc_model.specs.Laws.{RisesFrom, IsRising, IsOrdered}

-- the numbers of a list
abbrev numbers : {A : Type 0} → List (ℕ × A) → List ℕ
numbers es = map (λ e. e.0) es

rises_from-with_numbered : {A : Type 0} (n c : ℕ) (x : A) (es : List (ℕ × A)) → n < c → RisesFrom n (numbers es)
    → RisesFrom n (numbers (with_numbered c x es))
rises_from-with_numbered n c x [] above h = (above, tt)
rises_from-with_numbered {A} n c x (e ∷ es) above h =
    go (e.0 == c) refl (nat_lt c e.0) refl (λ below. rises_from-with_numbered e.0 c x es below h.1)
  where
    go : (b : Bool) → (e.0 == c) ≡ b → (d : Bool) → nat_lt c e.0 ≡ d → (e.0 < c → RisesFrom e.0 (numbers (with_numbered c x es)))
        → RisesFrom n (numbers (cond b ((c, x) ∷ es) (cond d ((c, x) ∷ e ∷ es) (e ∷ with_numbered c x es))))
    go true same d less later = (above, subst (λ m. RisesFrom m (numbers es)) (eqb-true e.0 c same) h.1)
    go false same true less later = (above, (ltb-true c e.0 less, h.1))
    go false same false less later =
        let apart = eqb-false e.0 c same in
        let least = ltb-false c e.0 less in
        (h.0, later (grind (arith, apart, least)))

rising-with_numbered : {A : Type 0} (c : ℕ) (x : A) (es : List (ℕ × A)) → IsRising (numbers es)
    → IsRising (numbers (with_numbered c x es))
rising-with_numbered c x [] h = tt
rising-with_numbered {A} c x (e ∷ es) h = go (e.0 == c) refl (nat_lt c e.0) refl
  where
    go : (b : Bool) → (e.0 == c) ≡ b → (d : Bool) → nat_lt c e.0 ≡ d
        → IsRising (numbers (cond b ((c, x) ∷ es) (cond d ((c, x) ∷ e ∷ es) (e ∷ with_numbered c x es))))
    go true same d less = subst (λ m. RisesFrom m (numbers es)) (eqb-true e.0 c same) h
    go false same true less = (ltb-true c e.0 less, h)
    go false same false less =
        let apart = eqb-false e.0 c same in
        let least = ltb-false c e.0 less in
        rises_from-with_numbered e.0 c x es (grind (arith, apart, least)) h

rising-with_some : {A : Type 0} (c : ℕ) (o : Option A) (es : List (ℕ × A)) → IsRising (numbers es)
    → IsRising (numbers (with_some c o es))
rising-with_some c None es h = h
rising-with_some c (Some x) es h = rising-with_numbered c x es h

rising-step : (M : Machine) (rows : List M.protocol.Row) (w : World M) (x : Step) → IsRising (numbers w.connections)
    → IsRising (numbers (step M rows w x).connections)
rising-step M rows w (On c x) h =
    rising-with_some c (effect M rows w.clock w.caches x (numbered c w.connections)).connection w.connections h
rising-step M rows w (Tick m) h = h
rising-step M rows w (Maintain user limit) h = h

rising-steps_from : (M : Machine) (rows : List M.protocol.Row) (w : World M) (xs : List Step) → IsRising (numbers w.connections)
    → IsRising (numbers (steps_from M rows w xs).connections)
rising-steps_from M rows w [] h = h
rising-steps_from M rows w (x ∷ xs) h = rising-steps_from M rows (step M rows w x) xs (rising-step M rows w x h)

pub ordered : (M : Machine) → IsOrdered M
ordered M rows xs = rising-steps_from M rows (first_world M rows) xs tt
