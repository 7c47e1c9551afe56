-- The calls of one user's machine are those of one cache.
use Rattle.std.specs.Prelude.{max}
use Rattle.std.proofs.Common.{◌≡◌, ℕ, zero, suc, ◌≤◌, List, [], ◌∷◌, ◌++◌, Option, Some, None, refl, arith}
use Rattle.std.proofs.Math.Nat.{le-max_left}
use Rattle.tc_model.specs.Caching.{Event, Replays}
use Rattle.tc_model.specs.Connection.{Endpoint, Happening, Open, Piece, Act, Shut, user_at, Want, Nothing, Said, Call, Close}
use Rattle.tc_model.specs.Connection.{turn}
use Rattle.tc_model.specs.Server.{Machine, Connection, Step, On, Tick, Maintain, World, numbered, Effect, call_effect}
use Rattle.tc_model.specs.Server.{want_effect, effect, step, course_from, first_world}
use Rattle.tc_model.specs.Laws.{IsUnmaintained, IsReplayed}

-- what a step does to the one cache: nothing, with no call, or one call
data Calls (M : Machine) (clock : ℕ) (k : M.cache.State) : List M.cache.State → List (Event M.Command M.Outcome) → Type 0 where
  none : Calls M clock k (k ∷ []) []
  one : (command : M.Command)
      → Calls M clock k ((M.cache.act k clock command).1 ∷ [])
      (record { moment = clock; command = command; outcome = (M.cache.act k clock command).0 } ∷ [])

-- what a step of a connection does to it
abbrev CallsIn : (M : Machine) → ℕ → M.cache.State → Effect M → Type 0
CallsIn M clock k d = Calls M clock k d.caches d.calls

called_one : (M : Machine) (clock : ℕ) (k : M.cache.State) (u : ℕ) (command : M.Command) (f : Endpoint M.protocol) (out : List ℕ)
    → CallsIn M clock k (call_effect M clock (k ∷ []) u command f out (user_at (k ∷ []) u))
called_one M clock k zero command f out = none
called_one M clock k (suc zero) command f out = one command
called_one M clock k (suc (suc n)) command f out = none

taken_one : (M : Machine) (clock : ℕ) (k : M.cache.State) (out : List ℕ) (f : Endpoint M.protocol) (said : List ℕ)
    (w : Want M.Command)
    → CallsIn M clock k (want_effect M clock (k ∷ []) out f said w)
taken_one M clock k out f said Nothing = none
taken_one M clock k out f said Said = none
taken_one M clock k out f said (Call u command) = called_one M clock k u command f (out ++ said)
taken_one M clock k out f said Close = none

done_one : (M : Machine) (rows : List M.protocol.Row) (clock : ℕ) (k : M.cache.State) (x : Happening) (o : Option (Connection M))
    → CallsIn M clock k (effect M rows clock (k ∷ []) x o)
done_one M rows clock k Open None = none
done_one M rows clock k (Piece bytes) None = none
done_one M rows clock k Act None = none
done_one M rows clock k Shut None = none
done_one M rows clock k Open (Some l) = none
done_one M rows clock k (Piece bytes) (Some l) = none
done_one M rows clock k Act (Some l) =
    let t = turn M.protocol rows l.endpoint in taken_one M clock k l.out t.endpoint t.said t.want
done_one M rows clock k Shut (Some l) = none

-- what is replayed from a later moment is so from an earlier one
earlier : (M : Machine) (m n : ℕ) (k : M.cache.State) (es : List (Event M.Command M.Outcome)) → m ≤ n → Replays M.cache n k es
    → Replays M.cache m k es
earlier M m n k [] le h = tt
earlier M m n k (e ∷ es) le h = (omega (arith, h.0), h.1, h.2)

joined : (M : Machine) (clock : ℕ) (k : M.cache.State) (caches : List M.cache.State) (es later : List (Event M.Command M.Outcome))
    → Calls M clock k caches es → ((j : M.cache.State) → caches ≡ j ∷ [] → Replays M.cache clock j later)
    → Replays M.cache clock k (es ++ later)
joined M clock k caches es later none h = h k refl
joined M clock k caches es later (one command) h = (omega arith, refl, h (M.cache.act k clock command).1 refl)

replayed_from : (M : Machine) (rows : List M.protocol.Row) (k : M.cache.State) (xs : List Step) (w : World M) → IsUnmaintained xs
    → w.caches ≡ k ∷ [] → Replays M.cache w.clock k (course_from M rows w xs).history
replayed_from M rows k [] w plain e = tt
replayed_from M rows k (Tick m ∷ xs) w plain e =
    earlier M w.clock (max w.clock m) k _ (le-max_left w.clock m) (replayed_from M rows k xs (step M rows w (Tick m)) plain e)
replayed_from M rows k (Maintain u l ∷ xs) w plain e = absurd plain
replayed_from M rows k (On c x ∷ xs) w plain e =
    let call : CallsIn M w.clock k (effect M rows w.clock w.caches x (numbered c w.connections)) =
    rw e (done_one M rows w.clock k x (numbered c w.connections)) in
    joined M w.clock k _ _ _ call (λ j f. replayed_from M rows j xs (step M rows w (On c x)) plain f)

pub replayed : (M : Machine) → IsReplayed M
replayed M row xs plain = replayed_from M (row ∷ []) (M.fresh row) xs (first_world M (row ∷ [])) plain refl
