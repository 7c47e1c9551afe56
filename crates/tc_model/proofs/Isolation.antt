-- Each user's connections are sent what the machine of that user alone sends.
use Rattle.std.specs.Prelude.{option_map, filter, map, max}
use Rattle.std.proofs.Common.{◌≡◌, ℕ, zero, suc, Bool, true, false, ◌⊎◌, inl, inr, List, [], ◌∷◌, Option, Some, None, refl, sym}
use Rattle.std.proofs.Common.{◌∙◌, ap, subst, arith}
use Rattle.std.proofs.lemmas.Bool.{or_parts, false≢true, cases_Bool, cases_eq}
use Rattle.std.proofs.lemmas.Option.{slice_get-map}
use Rattle.std.proofs.Math.Nat.{le-max_left}
use Rattle.tc_model.specs.Caching.{IsLawful}
use Rattle.tc_model.specs.Connection.{Phase, Unbound, Bound, Closed, Happening, user_at, with_user, is_closed}
use Rattle.tc_model.specs.Server.{Machine, Connection, Step, On, Tick, Maintain, World, numbered, effect, maintained, step}
use Rattle.tc_model.specs.Server.{steps_from, first_world, run, solo, sent, binds_from, binds, is_kept, kept_steps}
use Rattle.tc_model.specs.Laws.{IsIsolated, IsIndifferent}
use Rattle.tc_model.proofs.Numbered.{user_at-same, user_at-other}
use Rattle.tc_model.proofs.Logins.{same_some}
use Rattle.tc_model.proofs.Endpoints.{endpoint_of, with_some-other, numbered-step, endpoint_of-step}
use Rattle.tc_model.proofs.Apart.{effect-other}
use Rattle.tc_model.proofs.Alikeness.{solo_phase, solo_connection, Agrees, AreAlike, IsAhead, effect-alike}
use Rattle.tc_model.proofs.Ahead.{ahead-step}

pub record Beside (M : Machine) (rows : List M.protocol.Row) (u : ℕ) (mine : ℕ → Bool) (xs : List Step) (w v : World M)
    : Type 0 where
  pub clock : w.clock ≡ v.clock
  pub caches : Agrees M u w.clock w.caches v.caches
  pub connections : (c : ℕ) → mine c ≡ true → numbered c v.connections ≡ option_map (solo_connection M) (numbered c w.connections)
  pub ahead : (c : ℕ) → mine c ≡ true → IsAhead M rows u c (endpoint_of (numbered c w.connections)) xs
  pub others : (c : ℕ) → mine c ≡ false → binds_from M.protocol rows u c (endpoint_of (numbered c w.connections)) xs ≡ false

module _ (M : Machine) (law : IsLawful M.cache) (rows : List M.protocol.Row) (u : ℕ) (row : M.protocol.Row)
    (at : user_at rows u ≡ Some row) (mine : ℕ → Bool) where
  ahead-after : (x : Step) (xs : List Step) (w v : World M) → Beside M rows u mine (x ∷ xs) w v → (c : ℕ) → mine c ≡ true
      → IsAhead M rows u c (endpoint_of (numbered c (step M rows w x).connections)) xs
  ahead-after x xs w v h c m =
      subst (λ f. IsAhead M rows u c f xs) (sym (endpoint_of-step M rows c x w)) (ahead-step M rows u c x xs _ (h.ahead c m))

  others-after : (x : Step) (xs : List Step) (w v : World M) → Beside M rows u mine (x ∷ xs) w v → (c : ℕ) → mine c ≡ false
      → binds_from M.protocol rows u c (endpoint_of (numbered c (step M rows w x).connections)) xs ≡ false
  others-after x xs w v h c m =
      subst (λ f. binds_from M.protocol rows u c f xs ≡ false) (sym (endpoint_of-step M rows c x w))
      (or_parts _ _ (h.others c m)).1

  -- a step of someone else's connection
  beside-skipped : (c : ℕ) (x : Happening) (xs : List Step) (w v : World M) → mine c ≡ false
      → Beside M rows u mine (On c x ∷ xs) w v → Beside M rows u mine xs (step M rows w (On c x)) v
  beside-skipped c x xs w v m h = record {
    clock = h.clock;
    caches = record {
      cache = h.caches.cache;
      other = h.caches.other;
      held = effect-other M rows u w.clock w.caches x (numbered c w.connections) (or_parts _ _ (h.others c m)).0 ∙ h.caches.held;
      only = h.caches.only;
      same = h.caches.same;
    };
    connections =
        λ d md. h.connections d md
        ∙ ap (option_map (solo_connection M))
        (sym (with_some-other M d c (effect M rows w.clock w.caches x (numbered c w.connections)).connection w.connections
        (λ e. false≢true (sym m ∙ (ap mine (sym e) ∙ md)))));
    ahead = ahead-after (On c x) xs w v h;
    others = others-after (On c x) xs w v h;
  }

  connections-after : (c : ℕ) (x : Happening) (w v : World M)
      → (effect M (row ∷ []) v.clock v.caches x (numbered c v.connections)).connection
      ≡ option_map (solo_connection M) (effect M rows w.clock w.caches x (numbered c w.connections)).connection
      → (d : ℕ) → numbered d v.connections ≡ option_map (solo_connection M) (numbered d w.connections)
      → numbered d (step M (row ∷ []) v (On c x)).connections
      ≡ option_map (solo_connection M) (numbered d (step M rows w (On c x)).connections)
  connections-after c x w v e d was = go (cases_eq d c)
    where
      go : (d ≡ c) ⊎ (d ≡ c → ⊥)
          → numbered d (step M (row ∷ []) v (On c x)).connections
          ≡ option_map (solo_connection M) (numbered d (step M rows w (On c x)).connections)
      go (inl same) =
          subst
          (λ k. numbered k (step M (row ∷ []) v (On c x)).connections
          ≡ option_map (solo_connection M) (numbered k (step M rows w (On c x)).connections))
          (sym same)
          (numbered-step M (row ∷ []) c x v ∙ (e ∙ ap (option_map (solo_connection M)) (sym (numbered-step M rows c x w))))
      go (inr ne) =
          with_some-other M d c (effect M (row ∷ []) v.clock v.caches x (numbered c v.connections)).connection v.connections ne
          ∙ (was
          ∙ ap (option_map (solo_connection M))
          (sym (with_some-other M d c (effect M rows w.clock w.caches x (numbered c w.connections)).connection w.connections
          ne)))

  -- a step of the user's connection
  beside-shared : (c : ℕ) (x : Happening) (xs : List Step) (w v : World M) → mine c ≡ true
      → Beside M rows u mine (On c x ∷ xs) w v → Beside M rows u mine xs (step M rows w (On c x)) (step M (row ∷ []) v (On c x))
  beside-shared c x xs w v m h =
      let both : AreAlike M u w.clock (effect M rows w.clock w.caches x (numbered c w.connections))
      (effect M (row ∷ []) v.clock v.caches x (numbered c v.connections)) =
      rw (← h.clock, h.connections c m)
      (effect-alike M law rows u row at c w.clock w.caches v.caches h.caches xs x (numbered c w.connections) (h.ahead c m)) in
      record {
        clock = h.clock;
        caches = both.caches;
        connections = λ d md. connections-after c x w v both.connection d (h.connections d md);
        ahead = ahead-after (On c x) xs w v h;
        others = others-after (On c x) xs w v h;
      }

  beside-ticked : (m : ℕ) (xs : List Step) (w v : World M) → Beside M rows u mine (Tick m ∷ xs) w v
      → Beside M rows u mine xs (step M rows w (Tick m)) (step M (row ∷ []) v (Tick m))
  beside-ticked m xs w v h = record {
    clock = ap (λ n. max n m) h.clock;
    caches = record {
      cache = h.caches.cache;
      other = h.caches.other;
      held = h.caches.held;
      only = h.caches.only;
      same =
          sym (law.twice h.caches.cache w.clock (max w.clock m) (le-max_left w.clock m))
          ∙ (ap (λ k. M.cache.advance k (max w.clock m)) h.caches.same
          ∙ law.twice h.caches.other w.clock (max w.clock m) (le-max_left w.clock m));
    };
    connections = h.connections;
    ahead = ahead-after (Tick m) xs w v h;
    others = others-after (Tick m) xs w v h;
  }

  maintained-agrees : (clock n : ℕ) (caches alone : List M.cache.State) (k : Option M.cache.State) → user_at caches n ≡ k
      → Agrees M u clock caches alone → Agrees M u clock (maintained M clock caches n k) alone
  maintained-agrees clock n caches alone None e h = h
  maintained-agrees clock n caches alone (Some k) e h = go (cases_eq u n)
    where
      go : (u ≡ n) ⊎ (u ≡ n → ⊥) → Agrees M u clock (with_user caches n (M.cache.advance k clock)) alone
      go (inl same) = record {
        cache = M.cache.advance k clock;
        other = h.other;
        held =
            subst (λ j. user_at (with_user caches n (M.cache.advance k clock)) j ≡ Some (M.cache.advance k clock)) (sym same)
            (user_at-same caches n _ k e);
        only = h.only;
        same =
            law.twice k clock clock (omega arith)
            ∙ (ap (λ j. M.cache.advance j clock) (same_some k h.cache (sym e ∙ (ap (user_at caches) (sym same) ∙ h.held)))
            ∙ h.same);
      }
      go (inr ne) = record {
        cache = h.cache;
        other = h.other;
        held = user_at-other caches u n _ ne ∙ h.held;
        only = h.only;
        same = h.same;
      }

  beside-maintained : (n l : ℕ) (xs : List Step) (w v : World M) → Beside M rows u mine (Maintain n l ∷ xs) w v
      → Beside M rows u mine xs (step M rows w (Maintain n l)) v
  beside-maintained n l xs w v h = record {
    clock = h.clock;
    caches = maintained-agrees w.clock n w.caches v.caches (user_at w.caches n) refl h.caches;
    connections = h.connections;
    ahead = ahead-after (Maintain n l) xs w v h;
    others = others-after (Maintain n l) xs w v h;
  }

  beside-steps : (xs : List Step) (w v : World M) → Beside M rows u mine xs w v
      → Beside M rows u mine [] (steps_from M rows w xs) (steps_from M (row ∷ []) v (filter (is_kept mine) xs))
  beside-steps [] w v h = h
  beside-steps (Tick m ∷ xs) w v h = beside-steps xs _ _ (beside-ticked m xs w v h)
  beside-steps (Maintain n l ∷ xs) w v h = beside-steps xs _ _ (beside-maintained n l xs w v h)
  beside-steps (On c x ∷ xs) w v h = go (cases_Bool (mine c)) (beside-steps xs)
    where
      go : (mine c ≡ true) ⊎ (mine c ≡ false)
          → ((w v : World M) → Beside M rows u mine xs w v
          → Beside M rows u mine [] (steps_from M rows w xs) (steps_from M (row ∷ []) v (filter (is_kept mine) xs)))
          → Beside M rows u mine [] (steps_from M rows (step M rows w (On c x)) xs)
          (steps_from M (row ∷ []) v (filter (is_kept mine) (On c x ∷ xs)))
      go (inl e) later = rw e (later _ _ (beside-shared c x xs w v e h))
      go (inr e) later = rw e (later _ _ (beside-skipped c x xs w v e h))

pub user_at-fresh : (M : Machine) (rows : List M.protocol.Row) (u : ℕ) (row : M.protocol.Row) → user_at rows u ≡ Some row
    → user_at (map M.fresh rows) u ≡ Some (M.fresh row)
user_at-fresh M rows zero row at = grind arith
user_at-fresh M rows (suc i) row at = slice_get-map M.fresh rows i ∙ ap (option_map M.fresh) at

pub beside-first : (M : Machine) (rows : List M.protocol.Row) (u : ℕ) (row : M.protocol.Row) → user_at rows u ≡ Some row
    → (xs : List Step) → Beside M rows u (binds M.protocol rows xs u) xs (first_world M rows) (first_world M (row ∷ []))
unfolding endpoint_of
beside-first M rows u row at xs = record {
  clock = refl;
  caches = record { cache = M.fresh row; other = M.fresh row; held = user_at-fresh M rows u row at; only = refl; same = refl };
  connections = λ c m. refl;
  ahead = λ c m. inr m;
  others = λ c m. m;
}

-- the same bytes

unfoldable pub told : {M : Machine} → Connection M → Bool × List ℕ
told l = (is_closed l.endpoint.phase, l.out)

pub is_closed-solo : (p : Phase) → is_closed (solo_phase p) ≡ is_closed p
unfolding solo_phase
is_closed-solo Unbound = refl
is_closed-solo (Bound v) = refl
is_closed-solo Closed = refl

pub told-solo : (M : Machine) (o : Option (Connection M)) → option_map told (option_map (solo_connection M) o) ≡ option_map told o
unfolding solo_connection told
told-solo M None = refl
told-solo M (Some l) = rw (is_closed-solo l.endpoint.phase)

pub isolated : (M : Machine) → IsLawful M.cache → IsIsolated M
unfolding told
isolated M law rows xs u row at c mine =
    let h : Beside M rows u (binds M.protocol rows xs u) [] (run M rows xs).world
    (solo M row (kept_steps M.protocol rows xs u)).world =
    beside-steps M law rows u row at (binds M.protocol rows xs u) xs _ _ (beside-first M rows u row at xs) in
    sym (ap (option_map (told {M = M})) (h.connections c mine) ∙ told-solo M _)

pub indifferent : (M : Machine) → IsLawful M.cache → IsIndifferent M
indifferent M law rows others xs ys u v row at there same c mine theirs =
    isolated M law rows xs u row at c mine
    ∙ (ap (λ zs. sent M (solo M row zs) c) same ∙ sym (isolated M law others ys v row there c theirs))
