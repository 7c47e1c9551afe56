-- Steps that are done one behind the other.
use Rattle.std.specs.List.{flat_map}
use Rattle.std.proofs.Common.{◌≡◌, ℕ, suc, ◌+◌, ◌-◌, ◌<◌, List, [], ◌∷◌, ◌++◌, length, get_or, drop, replicate, refl, ◌∙◌, ap}
use Rattle.std.proofs.Common.{arith}
use Rattle.std.proofs.lemmas.List.{drop_more}
use Rattle.tc_model.specs.Server.{World, Step, step, steps_from}
use Rattle.tc_users.specs.declared.users.UserSpec.{UserSpec}
use Rattle.tc_core.specs.ServerMachine.{server_machine}
use Rattle.tc_script.specs.declared.action.Action.{Action}
use Rattle.tc_script.specs.Playing.{steps_of}

pub steps_from-append : (users : List UserSpec) (w : World server_machine) (xs ys : List Step)
    → steps_from server_machine users w (xs ++ ys) ≡ steps_from server_machine users (steps_from server_machine users w xs) ys
steps_from-append users w [] ys = refl
steps_from-append users w (x ∷ xs) ys = steps_from-append users (step server_machine users w x) xs ys

-- the actions from one on begin with its steps
pub steps_from-actions : (users : List UserSpec) (w : World server_machine) (actions : List Action) (i : ℕ) (d : Action)
    → i < length actions
    → steps_from server_machine users w (flat_map steps_of (drop i actions))
    ≡ steps_from server_machine users (steps_from server_machine users w (steps_of (get_or actions i d)))
    (flat_map steps_of (drop (i + 1) actions))
steps_from-actions users w actions i d h =
    ap (λ (xs : List Action). steps_from server_machine users w (flat_map steps_of xs)) (drop_more actions i d h)
    ∙ steps_from-append users w (steps_of (get_or actions i d)) (flat_map steps_of (drop (i + 1) actions))

-- a step that is done n times, of which i are done, is done once more
pub steps_from-replicate : (users : List UserSpec) (w : World server_machine) (n i : ℕ) (x : Step) → i < n
    → steps_from server_machine users w (replicate (n - i) x)
    ≡ steps_from server_machine users (step server_machine users w x) (replicate (n - (i + 1)) x)
steps_from-replicate users w n i x h =
    let more : n - i ≡ suc (n - (i + 1)) = omega arith in
    ap (λ k. steps_from server_machine users w (replicate k x)) more
