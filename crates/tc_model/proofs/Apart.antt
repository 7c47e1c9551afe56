-- A user's cache is touched only from a connection that is bound to that user.
use Rattle.std.proofs.Common.{◌≡◌, ◌≢◌, ℕ, false, List, [], ◌++◌, Option, Some, None, refl, sym, ap}
use Rattle.std.proofs.lemmas.Bool.{eqb-false}
use Rattle.tc_model.specs.Connection.{Asks, Idle, Tell, Login, Leave, Wants, Rest, Reply, Run, Quit, Phase, Unbound, Bound}
use Rattle.tc_model.specs.Connection.{Closed, Endpoint, Happening, Open, Piece, Act, Shut, user_at, login, login_turn}
use Rattle.tc_model.specs.Connection.{unbound_turn, bound_turn, turn_at}
use Rattle.tc_model.specs.Server.{Machine, Connection, call_effect, turn_effect, effect, is_bound_to, is_users}
use Rattle.tc_model.proofs.Numbered.{user_at-other}
use Rattle.tc_model.proofs.Endpoints.{endpoint_of}

pub unbound_turn-caches : (M : Machine) (rows : List M.protocol.Row) (u : ℕ) (clock : ℕ) (caches : List M.cache.State)
    (out : List ℕ) (r : M.protocol.Reader) (a : Asks)
    → (turn_effect M clock caches out (unbound_turn M.protocol rows r a)).caches ≡ caches
unbound_turn-caches M rows u clock caches out r Idle = refl
unbound_turn-caches M rows u clock caches out r (Tell text) = refl
unbound_turn-caches M rows u clock caches out r (Login text granted denied) = go (login M.protocol rows text)
  where
    go : (o : Option ℕ) → (turn_effect M clock caches out (login_turn M.protocol r granted denied o)).caches ≡ caches
    go None = refl
    go (Some v) = refl
unbound_turn-caches M rows u clock caches out r (Leave text) = refl

pub call_effect-other : (M : Machine) (u v clock : ℕ) (caches : List M.cache.State) (command : M.Command)
    (f : Endpoint M.protocol) (out : List ℕ) (k : Option M.cache.State)
    → u ≢ v → user_at (call_effect M clock caches v command f out k).caches u ≡ user_at caches u
call_effect-other M u v clock caches command f out None ne = refl
call_effect-other M u v clock caches command f out (Some k) ne = user_at-other caches u v _ ne

pub bound_turn-other : (M : Machine) (u v clock : ℕ) (caches : List M.cache.State) (out : List ℕ) (r : M.protocol.Reader)
    (w : Wants M.Command)
    → u ≢ v → user_at (turn_effect M clock caches out (bound_turn M.protocol v r w)).caches u ≡ user_at caches u
bound_turn-other M u v clock caches out r Rest ne = refl
bound_turn-other M u v clock caches out r (Reply text) ne = refl
bound_turn-other M u v clock caches out r (Run command) ne =
    call_effect-other M u v clock caches command _ (out ++ []) (user_at caches v) ne
bound_turn-other M u v clock caches out r (Quit text) ne = refl

pub turn_at-other : (M : Machine) (rows : List M.protocol.Row) (u clock : ℕ) (caches : List M.cache.State) (out : List ℕ)
    (r : M.protocol.Reader) (p : Phase)
    → is_bound_to u p ≡ false → user_at (turn_effect M clock caches out (turn_at M.protocol rows r p)).caches u ≡ user_at caches u
turn_at-other M rows u clock caches out r Closed e = refl
turn_at-other M rows u clock caches out r Unbound e =
    ap (λ ks. user_at ks u) (unbound_turn-caches M rows u clock caches out (M.protocol.unbound r).1 (M.protocol.unbound r).0)
turn_at-other M rows u clock caches out r (Bound v) e =
    bound_turn-other M u v clock caches out (M.protocol.bound r).1 (M.protocol.bound r).0 (λ q. eqb-false v u e (sym q))

pub effect-other : (M : Machine) (rows : List M.protocol.Row) (u clock : ℕ) (caches : List M.cache.State) (x : Happening)
    (o : Option (Connection M))
    → is_users M.protocol u (endpoint_of o) ≡ false → user_at (effect M rows clock caches x o).caches u ≡ user_at caches u
unfolding endpoint_of
effect-other M rows u clock caches Open None e = refl
effect-other M rows u clock caches Open (Some l) e = refl
effect-other M rows u clock caches (Piece bytes) None e = refl
effect-other M rows u clock caches (Piece bytes) (Some l) e = refl
effect-other M rows u clock caches Act None e = refl
effect-other M rows u clock caches Act (Some l) e = turn_at-other M rows u clock caches l.out l.endpoint.reader l.endpoint.phase e
effect-other M rows u clock caches Shut None e = refl
effect-other M rows u clock caches Shut (Some l) e = refl
