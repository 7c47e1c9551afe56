-- A connection that is bound stays bound to that user, or is closed.
use Rattle.std.specs.Prelude.{◌==◌}
use Rattle.std.proofs.Common.{◌≡◌, ℕ, Bool, true, false, cond, ⊎_elim, List, [], ◌∷◌, Option, Some}
use Rattle.std.proofs.lemmas.Bool.{or_cases, eqb-true, false≢true}
use Rattle.tc_model.specs.Connection.{Wants, Rest, Reply, Run, Quit, Bound, Closed, Endpoint, Happening, Open, Piece, Act, Shut}
use Rattle.tc_model.specs.Connection.{bound_turn, endpoint_after}
use Rattle.tc_model.specs.Server.{Machine, Step, On, Tick, Maintain, is_users, endpoint_after_step, binds_from}

-- one that is bound stays bound to that user, or is closed
pub data StaysBound (M : Machine) (v : ℕ) : Option (Endpoint M.protocol) → Type 0 where
  bound : (r : M.protocol.Reader) → StaysBound M v (Some (record { phase = Bound v; reader = r }))
  over : (r : M.protocol.Reader) → StaysBound M v (Some (record { phase = Closed; reader = r }))

pub stays_bound-turn : (M : Machine) (v : ℕ) (r : M.protocol.Reader) (w : Wants M.Command)
    → StaysBound M v (Some (bound_turn M.protocol v r w).endpoint)
stays_bound-turn M v r Rest = bound r
stays_bound-turn M v r (Reply text) = bound r
stays_bound-turn M v r (Run command) = bound r
stays_bound-turn M v r (Quit text) = over r

pub stays_bound-after : (M : Machine) (rows : List M.protocol.Row) (v : ℕ) (x : Happening) (f : Option (Endpoint M.protocol))
    → StaysBound M v f → StaysBound M v (endpoint_after M.protocol rows x f)
stays_bound-after M rows v Open f (bound r) = bound r
stays_bound-after M rows v (Piece bytes) f (bound r) = bound (M.protocol.more r bytes)
stays_bound-after M rows v Act f (bound r) = stays_bound-turn M v (M.protocol.bound r).1 (M.protocol.bound r).0
stays_bound-after M rows v Shut f (bound r) = over r
stays_bound-after M rows v Open f (over r) = over r
stays_bound-after M rows v (Piece bytes) f (over r) = over r
stays_bound-after M rows v Act f (over r) = over r
stays_bound-after M rows v Shut f (over r) = over r

pub stays_bound-cond : (M : Machine) (v : ℕ) (b : Bool) (f g : Option (Endpoint M.protocol)) → StaysBound M v f → StaysBound M v g
    → StaysBound M v (cond b f g)
stays_bound-cond M v true f g hf hg = hf
stays_bound-cond M v false f g hf hg = hg

pub stays_bound-step : (M : Machine) (rows : List M.protocol.Row) (v c : ℕ) (x : Step) (f : Option (Endpoint M.protocol))
    → StaysBound M v f → StaysBound M v (endpoint_after_step M.protocol rows c f x)
stays_bound-step M rows v c (On d x) f h = stays_bound-cond M v (d == c) _ _ (stays_bound-after M rows v x f h) h
stays_bound-step M rows v c (Tick m) f h = h
stays_bound-step M rows v c (Maintain w l) f h = h

pub stays_bound-user : (M : Machine) (v u : ℕ) (f : Option (Endpoint M.protocol)) → StaysBound M v f
    → is_users M.protocol u f ≡ true → v ≡ u
stays_bound-user M v u f (bound r) e = eqb-true v u e
stays_bound-user M v u f (over r) e = absurd (false≢true e)

pub stays_bound-only : (M : Machine) (rows : List M.protocol.Row) (u c v : ℕ) (f : Option (Endpoint M.protocol)) (xs : List Step)
    → StaysBound M v f → binds_from M.protocol rows u c f xs ≡ true → v ≡ u
stays_bound-only M rows u c v f [] h e = stays_bound-user M v u f h e
stays_bound-only M rows u c v f (x ∷ xs) h e =
    ⊎_elim (stays_bound-user M v u f h)
    (stays_bound-only M rows u c v (endpoint_after_step M.protocol rows c f x) xs (stays_bound-step M rows v c x f h))
    (or_cases _ _ e)
