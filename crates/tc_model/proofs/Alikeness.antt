-- The shared machine and the user's own do a connection's step alike.
use Rattle.std.specs.Prelude.{option_map}
use Rattle.std.proofs.Common.{◌≡◌, ℕ, Bool, true, false, ◌⊎◌, inl, inr, List, [], ◌∷◌, ◌++◌, Option, Some, None, refl, sym, ◌∙◌}
use Rattle.std.proofs.Common.{ap, subst, eq-eqb}
use Rattle.std.proofs.lemmas.Bool.{false≢true}
use Rattle.tc_model.specs.Caching.{IsLawful}
use Rattle.tc_model.specs.Connection.{Asks, Idle, Tell, Login, Leave, Wants, Rest, Reply, Run, Quit, Protocol, Phase, Unbound}
use Rattle.tc_model.specs.Connection.{Bound, Closed, Endpoint, Happening, Open, Piece, Act, Shut, user_at, login, login_turn}
use Rattle.tc_model.specs.Connection.{unbound_turn, bound_turn, turn_at, pushed_at, is_closed}
use Rattle.tc_model.specs.Server.{Machine, Connection, Step, On, Effect, answer_effect, called, call_effect, turn_effect, effect}
use Rattle.tc_model.specs.Server.{binds_from}
use Rattle.tc_model.proofs.Numbered.{user_at-same}
use Rattle.tc_model.proofs.Logins.{login-same_row, login-no_row}
use Rattle.tc_model.proofs.Binding.{stays_bound-only, bound}
use Rattle.tc_model.proofs.Endpoints.{endpoint_of}

unfoldable pub solo_phase : Phase → Phase
solo_phase Unbound = Unbound
solo_phase (Bound v) = Bound 1
solo_phase Closed = Closed

unfoldable pub solo_connection : (M : Machine) → Connection M → Connection M
solo_connection M l = record {
  endpoint = record { phase = solo_phase l.endpoint.phase; reader = l.endpoint.reader };
  out = l.out;
}

-- the user's two caches are one, once both are advanced to the clock
pub record Agrees (M : Machine) (u clock : ℕ) (caches alone : List M.cache.State) : Type 0 where
  pub cache : M.cache.State
  pub other : M.cache.State
  pub held : user_at caches u ≡ Some cache
  pub only : alone ≡ other ∷ []
  pub same : M.cache.advance cache clock ≡ M.cache.advance other clock

pub act-same : (M : Machine) → IsLawful M.cache → (k j : M.cache.State) (clock : ℕ) (command : M.Command)
    → M.cache.advance k clock ≡ M.cache.advance j clock → M.cache.act k clock command ≡ M.cache.act j clock command
act-same M law k j clock command e =
    law.first k clock command ∙ (ap (λ q. M.cache.act q clock command) e ∙ sym (law.first j clock command))

-- both machines do a connection's step alike
pub record AreAlike (M : Machine) (u clock : ℕ) (a b : Effect M) : Type 0 where
  pub caches : Agrees M u clock a.caches b.caches
  pub connection : b.connection ≡ option_map (solo_connection M) a.connection

pub bound_turn-alike : (M : Machine) → IsLawful M.cache → (u clock : ℕ) (caches alone : List M.cache.State)
    → Agrees M u clock caches alone → (out : List ℕ) (r : M.protocol.Reader) (w : Wants M.Command)
    → AreAlike M u clock (turn_effect M clock caches out (bound_turn M.protocol u r w))
    (turn_effect M clock alone out (bound_turn M.protocol 1 r w))
unfolding solo_connection solo_phase
bound_turn-alike M law u clock caches alone h out r Rest = record { caches = h; connection = refl }
bound_turn-alike M law u clock caches alone h out r (Reply text) = record { caches = h; connection = refl }
bound_turn-alike M law u clock caches alone h out r (Quit text) = record { caches = h; connection = refl }
bound_turn-alike M law u clock caches alone h out r (Run command) =
    let f : Endpoint M.protocol = record { phase = Bound u; reader = r } in
    let g : Endpoint M.protocol = record { phase = Bound 1; reader = r } in
    let e : M.cache.act h.cache clock command ≡ M.cache.act h.other clock command =
    act-same M law h.cache h.other clock command h.same in
    let mine : Effect M = call_effect M clock caches u command f (out ++ []) (Some h.cache) in
    let p : AreAlike M u clock mine (call_effect M clock (h.other ∷ []) 1 command g (out ++ []) (Some h.other)) =
    subst (λ q. AreAlike M u clock mine (answer_effect M (h.other ∷ []) 1 (called M clock command q.0) g (out ++ []) q.1)) e
    (record {
      caches = record {
        cache = (M.cache.act h.cache clock command).1;
        other = (M.cache.act h.cache clock command).1;
        held = user_at-same caches u _ h.cache h.held;
        only = refl;
        same = refl;
      };
      connection = refl;
    }) in
    let s : AreAlike M u clock (call_effect M clock caches u command f (out ++ []) (Some h.cache))
    (turn_effect M clock alone out (bound_turn M.protocol 1 r (Run command))) =
    subst
    (λ ks. AreAlike M u clock (call_effect M clock caches u command f (out ++ []) (Some h.cache))
    (call_effect M clock ks 1 command g (out ++ []) (user_at ks 1)))
    (sym h.only) p in
    subst
    (λ k. AreAlike M u clock (call_effect M clock caches u command f (out ++ []) k)
    (turn_effect M clock alone out (bound_turn M.protocol 1 r (Run command))))
    (sym h.held) s

pub login_turn-alike : (M : Machine) (rows : List M.protocol.Row) (u : ℕ) (row : M.protocol.Row) → user_at rows u ≡ Some row
    → (c clock : ℕ) (caches alone : List M.cache.State) → Agrees M u clock caches alone
    → (out : List ℕ) (r : M.protocol.Reader) (text granted denied : List ℕ) (xs : List Step) (o : Option ℕ)
    → login M.protocol rows text ≡ o
    → binds_from M.protocol rows u c (Some (login_turn M.protocol r granted denied o).endpoint) xs ≡ true
    → AreAlike M u clock (turn_effect M clock caches out (login_turn M.protocol r granted denied o))
    (turn_effect M clock alone out (login_turn M.protocol r granted denied (login M.protocol (row ∷ []) text)))
unfolding solo_connection solo_phase
login_turn-alike M rows u row at c clock caches alone h out r text granted denied xs None e ahead =
    subst
    (λ q. AreAlike M u clock (turn_effect M clock caches out (login_turn M.protocol r granted denied None))
    (turn_effect M clock alone out (login_turn M.protocol r granted denied q)))
    (sym (login-no_row M rows u row text at e)) (record { caches = h; connection = refl })
login_turn-alike M rows u row at c clock caches alone h out r text granted denied xs (Some v) e ahead =
    let same : v ≡ u = stays_bound-only M rows u c v _ xs (bound r) ahead in
    subst
    (λ q. AreAlike M u clock (turn_effect M clock caches out (login_turn M.protocol r granted denied (Some v)))
    (turn_effect M clock alone out (login_turn M.protocol r granted denied q)))
    (sym (login-same_row M rows u row text at (e ∙ ap Some same))) (record { caches = h; connection = refl })

pub unbound_turn-alike : (M : Machine) (rows : List M.protocol.Row) (u : ℕ) (row : M.protocol.Row) → user_at rows u ≡ Some row
    → (c clock : ℕ) (caches alone : List M.cache.State) → Agrees M u clock caches alone
    → (out : List ℕ) (r : M.protocol.Reader) (xs : List Step) (a : Asks)
    → binds_from M.protocol rows u c (Some (unbound_turn M.protocol rows r a).endpoint) xs ≡ true
    → AreAlike M u clock (turn_effect M clock caches out (unbound_turn M.protocol rows r a))
    (turn_effect M clock alone out (unbound_turn M.protocol (row ∷ []) r a))
unfolding solo_connection solo_phase
unbound_turn-alike M rows u row at c clock caches alone h out r xs Idle ahead = record { caches = h; connection = refl }
unbound_turn-alike M rows u row at c clock caches alone h out r xs (Tell text) ahead = record { caches = h; connection = refl }
unbound_turn-alike M rows u row at c clock caches alone h out r xs (Login text granted denied) ahead =
    login_turn-alike M rows u row at c clock caches alone h out r text granted denied xs (login M.protocol rows text) refl ahead
unbound_turn-alike M rows u row at c clock caches alone h out r xs (Leave text) ahead = record { caches = h; connection = refl }

unfoldable pub is_shut : {C O : Type 0} {P : Protocol C O} → Option (Endpoint P) → Bool
is_shut None = false
is_shut (Some f) = is_closed f.phase

-- a connection of the user's is closed, or will be bound or is
abbrev pub IsAhead : (M : Machine) (rows : List M.protocol.Row) (u c : ℕ) → Option (Endpoint M.protocol) → List Step → Type 0
IsAhead M rows u c f xs = (is_shut f ≡ true) ⊎ (binds_from M.protocol rows u c f xs ≡ true)

pub turn_at-alike : (M : Machine) → IsLawful M.cache → (rows : List M.protocol.Row) (u : ℕ) (row : M.protocol.Row)
    → user_at rows u ≡ Some row → (c clock : ℕ) (caches alone : List M.cache.State) → Agrees M u clock caches alone
    → (out : List ℕ) (r : M.protocol.Reader) (xs : List Step) (p : Phase)
    → IsAhead M rows u c (Some (record { phase = p; reader = r })) (On c Act ∷ xs)
    → AreAlike M u clock (turn_effect M clock caches out (turn_at M.protocol rows r p))
    (turn_effect M clock alone out (turn_at M.protocol (row ∷ []) r (solo_phase p)))
unfolding solo_connection solo_phase is_shut
turn_at-alike M law rows u row at c clock caches alone h out r xs Closed ahead = record { caches = h; connection = refl }
turn_at-alike M law rows u row at c clock caches alone h out r xs Unbound (inl e) = absurd (false≢true e)
turn_at-alike M law rows u row at c clock caches alone h out r xs Unbound (inr e) =
    unbound_turn-alike M rows u row at c clock caches alone h out (M.protocol.unbound r).1 xs (M.protocol.unbound r).0
    (rw (eq-eqb c c refl) at e)
turn_at-alike M law rows u row at c clock caches alone h out r xs (Bound v) (inl e) = absurd (false≢true e)
turn_at-alike M law rows u row at c clock caches alone h out r xs (Bound v) (inr e) =
    let same : u ≡ v = sym (stays_bound-only M rows u c v _ (On c Act ∷ xs) (bound r) e) in
    subst
    (λ n. AreAlike M u clock (turn_effect M clock caches out (turn_at M.protocol rows r (Bound n)))
    (turn_effect M clock alone out (turn_at M.protocol (row ∷ []) r (Bound 1)))) same
    (bound_turn-alike M law u clock caches alone h out (M.protocol.bound r).1 (M.protocol.bound r).0)

pub pushed_at-solo : (M : Machine) (r : M.protocol.Reader) (bytes : List ℕ) (p : Phase) (out : List ℕ)
    → Some (record { endpoint = pushed_at M.protocol r bytes (solo_phase p); out = out })
    ≡ option_map (solo_connection M) (Some (record { endpoint = pushed_at M.protocol r bytes p; out = out }))
unfolding solo_connection solo_phase
pushed_at-solo M r bytes Unbound out = refl
pushed_at-solo M r bytes (Bound v) out = refl
pushed_at-solo M r bytes Closed out = refl

pub effect-alike : (M : Machine) → IsLawful M.cache → (rows : List M.protocol.Row) (u : ℕ) (row : M.protocol.Row)
    → user_at rows u ≡ Some row → (c clock : ℕ) (caches alone : List M.cache.State) → Agrees M u clock caches alone
    → (xs : List Step) (x : Happening) (o : Option (Connection M)) → IsAhead M rows u c (endpoint_of o) (On c x ∷ xs)
    → AreAlike M u clock (effect M rows clock caches x o) (effect M (row ∷ []) clock alone x (option_map (solo_connection M) o))
unfolding solo_connection endpoint_of solo_phase
effect-alike M law rows u row at c clock caches alone h xs Open None ahead = record { caches = h; connection = refl }
effect-alike M law rows u row at c clock caches alone h xs Open (Some l) ahead = record { caches = h; connection = refl }
effect-alike M law rows u row at c clock caches alone h xs (Piece bytes) None ahead = record { caches = h; connection = refl }
effect-alike M law rows u row at c clock caches alone h xs (Piece bytes) (Some l) ahead =
    record { caches = h; connection = pushed_at-solo M l.endpoint.reader bytes l.endpoint.phase l.out }
effect-alike M law rows u row at c clock caches alone h xs Act None ahead = record { caches = h; connection = refl }
effect-alike M law rows u row at c clock caches alone h xs Act (Some l) ahead =
    turn_at-alike M law rows u row at c clock caches alone h l.out l.endpoint.reader xs l.endpoint.phase ahead
effect-alike M law rows u row at c clock caches alone h xs Shut None ahead = record { caches = h; connection = refl }
effect-alike M law rows u row at c clock caches alone h xs Shut (Some l) ahead = record { caches = h; connection = refl }
