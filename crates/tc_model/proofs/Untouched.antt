-- A connection that is bound to nobody is sent what its own steps alone have it sent.
use Rattle.std.specs.Prelude.{option_map, ◌==◌, filter}
use Rattle.std.proofs.Common.{◌≡◌, ℕ, true, false, ◌⊎◌, inl, inr, List, [], ◌∷◌, Option, Some, None, refl, sym, ◌∙◌, ap, subst}
use Rattle.std.proofs.Common.{eq-eqb}
use Rattle.std.proofs.lemmas.Bool.{or_parts, eqb-true, eqb-false, false≢true, cases_Bool}
use Rattle.tc_model.specs.Connection.{Asks, Idle, Tell, Login, Leave, Phase, Unbound, Bound, Closed, Endpoint, Happening, Open}
use Rattle.tc_model.specs.Connection.{Piece, Act, Shut, login, login_turn, unbound_turn, turn_at, is_closed}
use Rattle.tc_model.specs.Server.{Machine, Connection, Step, On, Tick, Maintain, World, numbered, turn_effect, effect, step}
use Rattle.tc_model.specs.Server.{steps_from, first_world, is_bound_to, is_users, endpoint_after_step, binds_from, is_of}
use Rattle.tc_model.specs.Laws.{IsUntouched}
use Rattle.tc_model.proofs.Endpoints.{endpoint_of, with_some-other, numbered-step, endpoint_of-step}

pub unbound_turn-unbound : (M : Machine) (rows : List M.protocol.Row) (clock clock' : ℕ) (caches caches' : List M.cache.State)
    (out : List ℕ) (r : M.protocol.Reader) (a : Asks)
    → (turn_effect M clock caches out (unbound_turn M.protocol rows r a)).connection
    ≡ (turn_effect M clock' caches' out (unbound_turn M.protocol rows r a)).connection
unbound_turn-unbound M rows clock clock' caches caches' out r Idle = refl
unbound_turn-unbound M rows clock clock' caches caches' out r (Tell text) = refl
unbound_turn-unbound M rows clock clock' caches caches' out r (Leave text) = refl
unbound_turn-unbound M rows clock clock' caches caches' out r (Login text granted denied) = go (login M.protocol rows text)
  where
    go : (o : Option ℕ)
        → (turn_effect M clock caches out (login_turn M.protocol r granted denied o)).connection
        ≡ (turn_effect M clock' caches' out (login_turn M.protocol r granted denied o)).connection
    go None = refl
    go (Some u) = refl

pub effect-unbound : (M : Machine) (rows : List M.protocol.Row) (clock clock' : ℕ) (caches caches' : List M.cache.State)
    (x : Happening) (o : Option (Connection M))
    → ((u : ℕ) → is_users M.protocol u (endpoint_of o) ≡ false)
    → (effect M rows clock caches x o).connection ≡ (effect M rows clock' caches' x o).connection
unfolding endpoint_of
effect-unbound M rows clock clock' caches caches' Open None h = refl
effect-unbound M rows clock clock' caches caches' (Piece bytes) None h = refl
effect-unbound M rows clock clock' caches caches' Act None h = refl
effect-unbound M rows clock clock' caches caches' Shut None h = refl
effect-unbound M rows clock clock' caches caches' Open (Some l) h = refl
effect-unbound M rows clock clock' caches caches' (Piece bytes) (Some l) h = refl
effect-unbound M rows clock clock' caches caches' Shut (Some l) h = refl
effect-unbound M rows clock clock' caches caches' Act (Some l) h = go l.endpoint.phase h
  where
    go : (p : Phase) → ((u : ℕ) → is_bound_to u p ≡ false)
        → (turn_effect M clock caches l.out (turn_at M.protocol rows l.endpoint.reader p)).connection
        ≡ (turn_effect M clock' caches' l.out (turn_at M.protocol rows l.endpoint.reader p)).connection
    go Closed k = refl
    go Unbound k =
        unbound_turn-unbound M rows clock clock' caches caches' l.out (M.protocol.unbound l.endpoint.reader).1
        (M.protocol.unbound l.endpoint.reader).0
    go (Bound v) k = absurd (false≢true (sym (k v) ∙ eq-eqb v v refl))

module _ (M : Machine) (rows : List M.protocol.Row) (c : ℕ) where
  binds_from-not_now : (f : Option (Endpoint M.protocol)) (xs : List Step) (u : ℕ) → binds_from M.protocol rows u c f xs ≡ false
      → is_users M.protocol u f ≡ false
  binds_from-not_now f [] u h = h
  binds_from-not_now f (x ∷ xs) u h = (or_parts _ _ h).0

  untouched-steps : (xs : List Step) (w v : World M) → numbered c w.connections ≡ numbered c v.connections
      → ((u : ℕ) → binds_from M.protocol rows u c (endpoint_of (numbered c w.connections)) xs ≡ false)
      → numbered c (steps_from M rows w xs).connections ≡ numbered c (steps_from M rows v (filter (is_of c) xs)).connections
  untouched-steps [] w v e none = e
  untouched-steps (Tick m ∷ xs) w v e none = untouched-steps xs (step M rows w (Tick m)) v e (λ u. (or_parts _ _ (none u)).1)
  untouched-steps (Maintain n l ∷ xs) w v e none =
      untouched-steps xs (step M rows w (Maintain n l)) v e (λ u. (or_parts _ _ (none u)).1)
  untouched-steps (On d x ∷ xs) w v e none = go (cases_Bool (d == c)) (untouched-steps xs)
    where
      after : (u : ℕ) → binds_from M.protocol rows u c (endpoint_of (numbered c (step M rows w (On d x)).connections)) xs ≡ false
      after u =
          subst (λ f. binds_from M.protocol rows u c f xs ≡ false) (sym (endpoint_of-step M rows c (On d x) w))
          (or_parts (is_users M.protocol u (endpoint_of (numbered c w.connections)))
          (binds_from M.protocol rows u c
          (endpoint_after_step M.protocol rows c (endpoint_of (numbered c w.connections)) (On d x)) xs)
          (none u)).1

      go : ((d == c) ≡ true) ⊎ ((d == c) ≡ false)
          → ((w v : World M) → numbered c w.connections ≡ numbered c v.connections
          → ((u : ℕ) → binds_from M.protocol rows u c (endpoint_of (numbered c w.connections)) xs ≡ false)
          → numbered c (steps_from M rows w xs).connections
          ≡ numbered c (steps_from M rows v (filter (is_of c) xs)).connections)
          → numbered c (steps_from M rows (step M rows w (On d x)) xs).connections
          ≡ numbered c (steps_from M rows v (filter (is_of c) (On d x ∷ xs))).connections
      go (inl p) later =
          let same : d ≡ c = eqb-true d c p in
          let both : numbered c (step M rows w (On d x)).connections ≡ numbered c (step M rows v (On d x)).connections =
          subst (λ n. numbered c (step M rows w (On n x)).connections ≡ numbered c (step M rows v (On n x)).connections)
          (sym same)
          (numbered-step M rows c x w
          ∙ (effect-unbound M rows w.clock v.clock w.caches v.caches x (numbered c w.connections)
          (λ u. binds_from-not_now (endpoint_of (numbered c w.connections)) (On d x ∷ xs) u (none u))
          ∙ (ap (λ o. (effect M rows v.clock v.caches x o).connection) e ∙ sym (numbered-step M rows c x v)))) in
          rw p (later (step M rows w (On d x)) (step M rows v (On d x)) both after)
      go (inr p) later =
          rw p (later (step M rows w (On d x)) v
          (with_some-other M c d (effect M rows w.clock w.caches x (numbered d w.connections)).connection w.connections
          (λ q. eqb-false d c p (sym q))
          ∙ e) after)

pub untouched : (M : Machine) → IsUntouched M
unfolding endpoint_of
untouched M rows xs c none =
    ap (option_map (λ l. (is_closed l.endpoint.phase, l.out)))
    (untouched-steps M rows c xs (first_world M rows) (first_world M rows) refl none)
