-- What a run gives out is what the theorems on the machine speak of.
use Rattle.std.specs.Prelude.{map, filter, option_map, ◌==◌}
use Rattle.std.proofs.Common.{◌≡◌, ◌≤◌, ℕ, Bool, true, false, cond, List, [], ◌∷◌, Some, refl, sym, ◌∙◌, ap, subst, drop, length}
use Rattle.std.proofs.Math.ListN.{drop_of_length-le}
use Rattle.tc_model.specs.Caching.{IsLawful, Replays}
use Rattle.tc_model.specs.Connection.{is_closed}
use Rattle.tc_model.specs.Server.{Connection, Step, On, Tick, Maintain, World, numbered, steps_from, run, sent, binds, is_kept}
use Rattle.tc_model.specs.Server.{kept_steps}
use Rattle.tc_model.specs.Laws.{IsRising, IsUnmaintained}
use Rattle.tc_model.proofs.Isolation.{isolated, indifferent}
use Rattle.tc_model.proofs.Untouched.{untouched}
use Rattle.tc_model.proofs.Ordered.{ordered}
use Rattle.tc_model.proofs.Replayed.{replayed}
use Rattle.tc_users.specs.declared.users.UserSpec.{UserSpec}
use Rattle.tc_plain.specs.UserCache.{fresh}
use Rattle.tc_plain.specs.Laws.{user_caching, AdvancesOnce, ActsAdvanced}
use Rattle.tc_plain.specs.Freshness.{IsFresh}
use Rattle.tc_session.specs.TextProtocol.{text_protocol}
use Rattle.tc_core.specs.declared.step.Step.{Step as StepCode}
use Rattle.tc_core.specs.ServerMachine.{server_machine}
use Rattle.tc_core.specs.Steps.{step_of}
use Rattle.tc_core.specs.declared.outputs.Output.{Output}
use Rattle.tc_core.specs.Sending.{output_of, sent_by, IsRun, IsIsolatedRun, IsUntouchedRun, IsIndifferentRun, IsFreshRun}
use Rattle.tc_core.specs.Sending.{IsPromised}

-- the cache of the server is lawful
lawful : AdvancesOnce → ActsAdvanced → IsLawful user_caching
lawful twice first = record { twice = twice; first = first }

sent_by-outputs : (es : List (ℕ × Connection server_machine)) (c : ℕ)
    → sent_by (map output_of es) c ≡ option_map (λ q. (is_closed q.endpoint.phase, q.out)) (numbered c es)
sent_by-outputs [] c = refl
sent_by-outputs (e ∷ es) c = go (e.0 == c) (sent_by-outputs es c)
  where
    go : (b : Bool) → sent_by (map output_of es) c ≡ option_map (λ q. (is_closed q.endpoint.phase, q.out)) (numbered c es)
        → cond b (Some (is_closed e.1.endpoint.phase, e.1.out)) (sent_by (map output_of es) c)
        ≡ option_map (λ q. (is_closed q.endpoint.phase, q.out)) (cond b (Some e.1) (numbered c es))
    go true h = refl
    go false h = h

numbers-outputs : (es : List (ℕ × Connection server_machine)) → map (λ o. o.connection) (map output_of es) ≡ map (λ e. e.0) es
numbers-outputs [] = refl
numbers-outputs (e ∷ es) = ap (λ ns. e.0 ∷ ns) (numbers-outputs es)

-- past the last step the server has come to where all steps lead
run-ended : (users : List UserSpec) (steps : List StepCode) (w : World server_machine) (i : ℕ) → length steps ≤ i
    → steps_from server_machine users w (map step_of (drop i steps)) ≡ (run server_machine users (map step_of steps)).world
    → w ≡ (run server_machine users (map step_of steps)).world
run-ended users steps w i past rest =
    subst
    (λ (xs : List StepCode). steps_from server_machine users w (map step_of xs)
    ≡ (run server_machine users (map step_of steps)).world)
    (drop_of_length-le steps past) rest

-- no step of those that concern a user is maintenance
unmaintained : (mine : ℕ → Bool) (xs : List Step) → IsUnmaintained (filter (is_kept mine) xs)
unmaintained mine [] = tt
unmaintained mine (On c x ∷ xs) = go (mine c) (unmaintained mine xs)
  where
    go : (b : Bool) → IsUnmaintained (filter (is_kept mine) xs)
        → IsUnmaintained (cond b (On c x ∷ filter (is_kept mine) xs) (filter (is_kept mine) xs))
    go true h = h
    go false h = h
unmaintained mine (Tick m ∷ xs) = unmaintained mine xs
unmaintained mine (Maintain user limit ∷ xs) = unmaintained mine xs

module _ (users : List UserSpec) (steps : List Step) (w : World server_machine) (e : w ≡ (run server_machine users steps).world)
  where
    sent_here : (c : ℕ) → sent_by (map output_of w.connections) c ≡ sent server_machine (run server_machine users steps) c
    sent_here c =
        sent_by-outputs w.connections c
        ∙ ap (λ (v : World server_machine). sent server_machine (record { world = v; history = [] }) c) e

    pub is_run : IsRun users steps (map output_of w.connections)
    is_run = record {
      sent = ap (λ (v : World server_machine). map output_of v.connections) e;
      rising =
          subst IsRising (sym (numbers-outputs w.connections ∙ ap (λ (v : World server_machine). map (λ q. q.0) v.connections) e))
          (ordered server_machine users steps);
    }

    pub is_isolated_run : AdvancesOnce → ActsAdvanced → IsIsolatedRun users steps (map output_of w.connections)
    is_isolated_run twice first user row at c mine =
        sent_here c ∙ isolated server_machine (lawful twice first) users steps user row at c mine

    pub is_untouched_run : IsUntouchedRun users steps (map output_of w.connections)
    is_untouched_run c none = sent_here c ∙ untouched server_machine users steps c none

    pub is_indifferent_run : AdvancesOnce → ActsAdvanced → IsIndifferentRun users steps (map output_of w.connections)
    is_indifferent_run twice first others ys user other row at there same c mine theirs =
        sent_here c
        ∙ indifferent server_machine (lawful twice first) users others steps ys user other row at there same c mine theirs

    pub is_fresh_run : IsFresh → AdvancesOnce → ActsAdvanced → IsFreshRun users steps (map output_of w.connections)
    is_fresh_run fresh_hits twice first user row at =
        let kept = kept_steps text_protocol users steps user in
        let plain = unmaintained (binds text_protocol users steps user) steps in
        record {
          shown = is_isolated_run twice first user row at;
          hits = λ before after call same. fresh_hits row.budget row.largest before after call
              (subst (Replays user_caching 0 (fresh row.budget row.largest)) same (replayed server_machine row kept plain));
        }

    pub is_promised : IsFresh → AdvancesOnce → ActsAdvanced → IsPromised users steps (map output_of w.connections)
    is_promised fresh_hits twice first = record {
      sent = is_run;
      isolated = is_isolated_run twice first;
      untouched = is_untouched_run;
      indifferent = is_indifferent_run twice first;
      fresh = is_fresh_run fresh_hits twice first;
    }

-- what a walk over all steps gives out, once it has come to its end
pub promised-ended : (users : List UserSpec) (steps : List StepCode) (w : World server_machine) (i : ℕ) → length steps ≤ i
    → steps_from server_machine users w (map step_of (drop i steps)) ≡ (run server_machine users (map step_of steps)).world
    → IsFresh → AdvancesOnce → ActsAdvanced
    → (outputs : List Output) → outputs ≡ map output_of w.connections → IsPromised users (map step_of steps) outputs
promised-ended users steps w i past rest fresh_hits twice first outputs same =
    subst (λ (o : List Output). IsPromised users (map step_of steps) o) (sym same)
    (is_promised users (map step_of steps) w (run-ended users steps w i past rest) fresh_hits twice first)
