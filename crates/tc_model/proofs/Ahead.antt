-- What a user's connection is ahead of is kept by each step: it is closed, or bound, or will be.
use Rattle.std.specs.Prelude.{◌==◌}
use Rattle.std.proofs.Common.{◌≡◌, ℕ, Bool, true, false, cond, inl, inr, ⊎_elim, List, [], ◌∷◌, Option, Some, None, refl, sym}
use Rattle.std.proofs.Common.{subst, eq-eqb}
use Rattle.std.proofs.lemmas.Bool.{or_cases, eqb-true, false≢true}
use Rattle.tc_model.specs.Connection.{Phase, Unbound, Bound, Closed, Endpoint, Happening, Open, Piece, Act, Shut, turn_at}
use Rattle.tc_model.specs.Connection.{pushed_at, endpoint_after, is_closed}
use Rattle.tc_model.specs.Server.{Machine, Step, On, Tick, Maintain, is_bound_to, is_users, endpoint_after_step, binds_from}
use Rattle.tc_model.proofs.Binding.{StaysBound, stays_bound-step, bound, over}
use Rattle.tc_model.proofs.Alikeness.{is_shut, IsAhead}

pub binds_from-at_once : (M : Machine) (rows : List M.protocol.Row) (u c : ℕ) (f : Option (Endpoint M.protocol)) (xs : List Step)
    → is_users M.protocol u f ≡ true → binds_from M.protocol rows u c f xs ≡ true
binds_from-at_once M rows u c f [] e = e
binds_from-at_once M rows u c f (x ∷ xs) e = rw e

pub stays_bound-of_user : (M : Machine) (u : ℕ) (f : Option (Endpoint M.protocol)) → is_users M.protocol u f ≡ true
    → StaysBound M u f
stays_bound-of_user M u None e = absurd (false≢true e)
stays_bound-of_user M u (Some f) e = go f.phase f.reader e
  where
    go : (p : Phase) (r : M.protocol.Reader) → is_bound_to u p ≡ true → StaysBound M u (Some (record { phase = p; reader = r }))
    go Unbound r e = absurd (false≢true e)
    go Closed r e = absurd (false≢true e)
    go (Bound v) r e =
        subst (λ n. StaysBound M u (Some (record { phase = Bound n; reader = r }))) (sym (eqb-true v u e)) (bound r)

pub ahead-stays_bound : (M : Machine) (rows : List M.protocol.Row) (u c : ℕ) (f : Option (Endpoint M.protocol)) (xs : List Step)
    → StaysBound M u f → IsAhead M rows u c f xs
unfolding is_shut
ahead-stays_bound M rows u c f xs (bound r) = inr (binds_from-at_once M rows u c _ xs (eq-eqb u u refl))
ahead-stays_bound M rows u c f xs (over r) = inl refl

pub shut-after : (M : Machine) (rows : List M.protocol.Row) (x : Happening) (f : Option (Endpoint M.protocol)) → is_shut f ≡ true
    → is_shut (endpoint_after M.protocol rows x f) ≡ true
unfolding is_shut
shut-after M rows x None e = absurd (false≢true e)
shut-after M rows Open (Some f) e = e
shut-after M rows Shut (Some f) e = refl
shut-after M rows (Piece bytes) (Some f) e = go f.phase f.reader e
  where
    go : (p : Phase) (r : M.protocol.Reader) → is_closed p ≡ true → is_closed (pushed_at M.protocol r bytes p).phase ≡ true
    go Unbound r e = absurd (false≢true e)
    go (Bound v) r e = absurd (false≢true e)
    go Closed r e = refl
shut-after M rows Act (Some f) e = go f.phase f.reader e
  where
    go : (p : Phase) (r : M.protocol.Reader) → is_closed p ≡ true → is_closed (turn_at M.protocol rows r p).endpoint.phase ≡ true
    go Unbound r e = absurd (false≢true e)
    go (Bound v) r e = absurd (false≢true e)
    go Closed r e = refl

pub shut-step : (M : Machine) (rows : List M.protocol.Row) (c : ℕ) (x : Step) (f : Option (Endpoint M.protocol))
    → is_shut f ≡ true → is_shut (endpoint_after_step M.protocol rows c f x) ≡ true
shut-step M rows c (Tick m) f e = e
shut-step M rows c (Maintain v l) f e = e
shut-step M rows c (On d x) f e = go (d == c)
  where
    go : (b : Bool) → is_shut (cond b (endpoint_after M.protocol rows x f) f) ≡ true
    go true = shut-after M rows x f e
    go false = e

pub ahead-step : (M : Machine) (rows : List M.protocol.Row) (u c : ℕ) (x : Step) (xs : List Step)
    (f : Option (Endpoint M.protocol))
    → IsAhead M rows u c f (x ∷ xs) → IsAhead M rows u c (endpoint_after_step M.protocol rows c f x) xs
ahead-step M rows u c x xs f (inl e) = inl (shut-step M rows c x f e)
ahead-step M rows u c x xs f (inr e) =
    ⊎_elim (λ now. ahead-stays_bound M rows u c _ xs (stays_bound-step M rows u c x f (stays_bound-of_user M u f now)))
    (λ later. inr later) (or_cases _ _ e)
