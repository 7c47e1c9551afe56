-- A step's part in a connection is that connection's own step, whatever the caches answer.
use Rattle.std.specs.Prelude.{◌==◌}
use Rattle.std.proofs.Common.{◌≡◌, ◌≢◌, ℕ, true, false, ◌⊎◌, inl, inr, List, ◌++◌, Option, Some, None, refl, sym, ◌∙◌, ap, subst}
use Rattle.std.proofs.Common.{arith}
use Rattle.std.proofs.lemmas.Bool.{eqb-true, eqb-false, cases_Bool}
use Rattle.tc_model.specs.Connection.{Endpoint, Happening, Open, Piece, Act, Shut, user_at, Want, Nothing, Said, Call, Close}
use Rattle.tc_model.specs.Connection.{turn, endpoint_after}
use Rattle.tc_model.specs.Server.{Machine, Connection, Step, On, Tick, Maintain, World, numbered, with_some, call_effect}
use Rattle.tc_model.specs.Server.{want_effect, effect, step, endpoint_after_step}
use Rattle.tc_model.proofs.Numbered.{numbered-same, numbered-other}

unfoldable pub endpoint_of : {M : Machine} → Option (Connection M) → Option (Endpoint M.protocol)
endpoint_of None = None
endpoint_of (Some l) = Some l.endpoint

pub call_effect-endpoint : (M : Machine) (clock : ℕ) (caches : List M.cache.State) (u : ℕ) (command : M.Command)
    (f : Endpoint M.protocol) (out : List ℕ) (k : Option M.cache.State)
    → endpoint_of (call_effect M clock caches u command f out k).connection ≡ Some f
unfolding endpoint_of
call_effect-endpoint M clock caches u command f out None = refl
call_effect-endpoint M clock caches u command f out (Some k) = refl

pub want_effect-endpoint : (M : Machine) (clock : ℕ) (caches : List M.cache.State) (out : List ℕ) (f : Endpoint M.protocol)
    (said : List ℕ) (w : Want M.Command)
    → endpoint_of (want_effect M clock caches out f said w).connection ≡ Some f
unfolding endpoint_of
want_effect-endpoint M clock caches out f said Nothing = refl
want_effect-endpoint M clock caches out f said Said = refl
want_effect-endpoint M clock caches out f said (Call u command) =
    call_effect-endpoint M clock caches u command f (out ++ said) (user_at caches u)
want_effect-endpoint M clock caches out f said Close = refl

pub effect-endpoint : (M : Machine) (rows : List M.protocol.Row) (clock : ℕ) (caches : List M.cache.State) (x : Happening)
    (o : Option (Connection M))
    → endpoint_of (effect M rows clock caches x o).connection ≡ endpoint_after M.protocol rows x (endpoint_of o)
unfolding endpoint_of
effect-endpoint M rows clock caches Open None = refl
effect-endpoint M rows clock caches Open (Some l) = refl
effect-endpoint M rows clock caches (Piece bytes) None = refl
effect-endpoint M rows clock caches (Piece bytes) (Some l) = refl
effect-endpoint M rows clock caches Act None = refl
effect-endpoint M rows clock caches Act (Some l) =
    let t = turn M.protocol rows l.endpoint in want_effect-endpoint M clock caches l.out t.endpoint t.said t.want
effect-endpoint M rows clock caches Shut None = refl
effect-endpoint M rows clock caches Shut (Some l) = refl

-- what stands for a connection after a step

pub with_some-other : (M : Machine) (c d : ℕ) (o : Option (Connection M)) (es : List (ℕ × Connection M)) → c ≢ d
    → numbered c (with_some d o es) ≡ numbered c es
with_some-other M c d None es ne = refl
with_some-other M c d (Some l) es ne = numbered-other c d l es ne

-- where there is nothing to with_some, there was nothing
pub effect-none : (M : Machine) (rows : List M.protocol.Row) (clock : ℕ) (caches : List M.cache.State) (x : Happening)
    (o : Option (Connection M))
    → endpoint_of (effect M rows clock caches x o).connection ≡ None → o ≡ None
unfolding endpoint_of
effect-none M rows clock caches x None e = refl
effect-none M rows clock caches Open (Some l) e = grind arith
effect-none M rows clock caches (Piece bytes) (Some l) e = grind arith
effect-none M rows clock caches Act (Some l) e = grind (arith, effect-endpoint M rows clock caches Act (Some l))
effect-none M rows clock caches Shut (Some l) e = grind arith

pub with_some-same : (M : Machine) (c : ℕ) (o was : Option (Connection M)) (es : List (ℕ × Connection M)) → numbered c es ≡ was
    → (endpoint_of o ≡ None → was ≡ None) → numbered c (with_some c o es) ≡ o
unfolding endpoint_of
with_some-same M c None was es e h = e ∙ h refl
with_some-same M c (Some l) was es e h = numbered-same c l es

pub numbered-step : (M : Machine) (rows : List M.protocol.Row) (c : ℕ) (x : Happening) (w : World M)
    → numbered c (step M rows w (On c x)).connections ≡ (effect M rows w.clock w.caches x (numbered c w.connections)).connection
numbered-step M rows c x w =
    with_some-same M c _ (numbered c w.connections) w.connections refl
    (effect-none M rows w.clock w.caches x (numbered c w.connections))

-- a step's part in one connection
pub endpoint_of-step : (M : Machine) (rows : List M.protocol.Row) (c : ℕ) (x : Step) (w : World M)
    → endpoint_of (numbered c (step M rows w x).connections)
    ≡ endpoint_after_step M.protocol rows c (endpoint_of (numbered c w.connections)) x
endpoint_of-step M rows c (Tick m) w = refl
endpoint_of-step M rows c (Maintain u l) w = refl
endpoint_of-step M rows c (On d x) w = go (cases_Bool (d == c))
  where
    go : ((d == c) ≡ true) ⊎ ((d == c) ≡ false)
        → endpoint_of (numbered c (step M rows w (On d x)).connections)
        ≡ endpoint_after_step M.protocol rows c (endpoint_of (numbered c w.connections)) (On d x)
    go (inl e) =
        let same : d ≡ c = eqb-true d c e in
        rw (e)
        (subst
        (λ k. endpoint_of (numbered c (step M rows w (On k x)).connections)
        ≡ endpoint_after M.protocol rows x (endpoint_of (numbered c w.connections)))
        (sym same)
        (ap endpoint_of (numbered-step M rows c x w) ∙ effect-endpoint M rows w.clock w.caches x (numbered c w.connections)))
    go (inr e) =
        rw e (ap endpoint_of (with_some-other M c d (effect M rows w.clock w.caches x (numbered d w.connections)).connection
        w.connections (λ q. eqb-false d c e (sym q))))
