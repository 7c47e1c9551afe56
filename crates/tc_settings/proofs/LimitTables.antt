-- A loop over users' tables finds the first fault of their limits, and else all of them.
use Rattle.std.specs.Option.{option_or}
use Rattle.std.proofs.Common.{◌≡◌, ◌+◌, List, [], ◌∷◌, ◌++◌, length, map, None, sym, ap, arith, append_assoc, length-append}
use Rattle.toml.specs.Data.{Data}
use Rattle.tc_limits.specs.declared.limits.UserLimits.{UserLimits}
use Rattle.tc_settings.specs.LimitFields.{user_limits_in, user_limits_fault, limits_fault_after}

-- a loop that goes past a user whose limits have no fault
pub limits_fault_after-past : (before : List UserLimits) (user : Data) (users more : List Data) → more ≡ user ∷ users
    → user_limits_fault (length before + 1) user ≡ None
    → limits_fault_after (length before) more ≡ limits_fault_after (length (before ++ user_limits_in user ∷ [])) users
limits_fault_after-past before user users more e good =
    let count : length (before ++ user_limits_in user ∷ []) ≡ length before + 1 = simp length-append (omega arith) in
    rw (e, count) (ap (λ o. option_or o (limits_fault_after (length before + 1) users)) good)

-- and has its limits
pub limits-past : (before : List UserLimits) (user : Data) (users more : List Data) → more ≡ user ∷ users
    → before ++ map user_limits_in more ≡ (before ++ user_limits_in user ∷ []) ++ map user_limits_in users
limits-past before user users more e = rw e (sym (append_assoc before (user_limits_in user ∷ []) (map user_limits_in users)))
