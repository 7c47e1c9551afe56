-- The first fault of the rows, row by row, and what rows without a fault keep.
use Rattle.std.specs.Prelude.{nat_le, ◌&&◌, ◌^◌}
use Rattle.std.specs.Option.{option_or}
use Rattle.std.specs.List.{All}
use Rattle.std.proofs.Common.{◌≡◌, ℕ, zero, suc, ◌+◌, ◌<◌, ◌≤◌, Bool, true, false, cond, List, [], ◌∷◌, ◌++◌, length, get_or}
use Rattle.std.proofs.Common.{slice_get, take, drop, Option, Some, None, IfSome, refl, sym, ◌∙◌, ap, arith, append_assoc, append-nil}
use Rattle.std.proofs.lemmas.Bool.Decides.{nat_tests}
use Rattle.std.proofs.lemmas.List.{take_more, drop_more}
use Rattle.tc_item.specs.Bounds.{smallest_budget, largest_budget, largest_item}
use Rattle.tc_users.specs.declared.users.UserSpec.{UserSpec}
use Rattle.tc_users.specs.declared.settings_fault.SettingsFault.{SettingsFault}
use Rattle.tc_users.specs.declared.settings_fault.SettingsFault.TheVariants.{TooManyUsers}
use Rattle.tc_users.specs.Faults.{row_fault, user_fault, fault_after, first_fault, IsSoundRow}

-- the first fault from a row on is that row's, or that of the rows behind it
pub fault_after-row : (rows : List UserSpec) (i : ℕ) (d : UserSpec) → i < length rows
    → fault_after (take i rows) (drop i rows)
    ≡ option_or (user_fault (take i rows) (get_or rows i d)) (fault_after (take (i + 1) rows) (drop (i + 1) rows))
fault_after-row rows i d h = rw (take_more rows i d h, drop_more rows i d h)

-- a loop that comes to a row with a fault
pub fault_after-found : (rows : List UserSpec) (i : ℕ) (d : UserSpec) (fault : SettingsFault) → i < length rows
    → fault_after [] rows ≡ fault_after (take i rows) (drop i rows) → user_fault (take i rows) (get_or rows i d) ≡ Some fault
    → fault_after [] rows ≡ Some fault
fault_after-found rows i d fault h e at =
    e ∙ fault_after-row rows i d h ∙ ap (λ o. option_or o (fault_after (take (i + 1) rows) (drop (i + 1) rows))) at

-- a loop that goes past a row without one
pub fault_after-past : (rows : List UserSpec) (i : ℕ) (d : UserSpec) → i < length rows
    → fault_after [] rows ≡ fault_after (take i rows) (drop i rows) → user_fault (take i rows) (get_or rows i d) ≡ None
    → fault_after [] rows ≡ fault_after (take (i + 1) rows) (drop (i + 1) rows)
fault_after-past rows i d h e at =
    e ∙ fault_after-row rows i d h ∙ ap (λ o. option_or o (fault_after (take (i + 1) rows) (drop (i + 1) rows))) at

-- neither of two is there
pub option_or-none : {A : Type 0} (o p : Option A) → option_or o p ≡ None → (o ≡ None) × (p ≡ None)
option_or-none None p e = (refl, e)
option_or-none (Some x) p e = grind arith

cond-none : {A : Type 0} (b : Bool) (x : A) → cond b None (Some x) ≡ None → b ≡ true
cond-none true x e = refl
cond-none false x e = grind arith

in_range : (low high n : ℕ) → (nat_le low n && nat_le n high) ≡ true → (low ≤ n) × (n ≤ high)
in_range low high n e = grind (arith, nat_tests)

-- a row without a fault
pub IsSoundRow-from_row_fault : (user : ℕ) (row : UserSpec) → row_fault user row ≡ None → IsSoundRow row
IsSoundRow-from_row_fault user row e =
    let a = option_or-none _ _ e in
    let b = option_or-none _ _ a.1 in
    let f = option_or-none _ _ b.1 in
    let g = option_or-none _ _ f.1 in
    let h = option_or-none _ _ g.1 in
    let budget = in_range smallest_budget largest_budget row.budget (cond-none _ _ f.0) in
    let largest = in_range 1 largest_item row.largest (cond-none _ _ h.0) in
    (budget.0, budget.1, largest.0, largest.1)

-- rows without a fault
pub All-IsSoundRow-from_fault_after : (before rows : List UserSpec) → fault_after before rows ≡ None → All IsSoundRow rows
All-IsSoundRow-from_fault_after before [] e k d h = absurd (omega arith)
All-IsSoundRow-from_fault_after before (row ∷ rows) e zero d h =
    IsSoundRow-from_row_fault (length before + 1) row (option_or-none _ _ (option_or-none _ _ e).0).0
All-IsSoundRow-from_fault_after before (row ∷ rows) e (suc k) d h =
    All-IsSoundRow-from_fault_after (before ++ row ∷ []) rows (option_or-none _ _ e).1 k d (omega arith)

-- what holds of all is true of the one that is looked up
pub All-slice_get : {A : Type 0} (P : A → Type 0) (xs : List A) (i : ℕ) → All P xs → IfSome (slice_get xs i) P
All-slice_get P [] i h = tt
All-slice_get P (x ∷ xs) zero h = h zero x (omega arith)
All-slice_get P (x ∷ xs) (suc i) h = All-slice_get P xs i (λ k d lt. h (suc k) d (omega arith))

pub cond-none_else : {A : Type 0} (b : Bool) (x : A) (o : Option A) → cond b (Some x) o ≡ None → (b ≡ false) × (o ≡ None)
cond-none_else true x o e = grind arith
cond-none_else false x o e = (refl, e)

-- a table without a fault has good rows
pub All-IsSoundRow-from_first_fault : (rows : List UserSpec) → first_fault rows ≡ None → All IsSoundRow rows
All-IsSoundRow-from_first_fault rows e = All-IsSoundRow-from_fault_after [] rows (cond-none_else _ _ _ e).1

-- a table without a fault is numbered by 32 bits
pub length-from_first_fault : (rows : List UserSpec) → first_fault rows ≡ None → length rows < 2 ^ 32
length-from_first_fault rows e =
    let few : nat_le (2 ^ 32) (length rows) ≡ false =
    (cond-none_else (nat_le (2 ^ 32) (length rows)) (TooManyUsers (length rows)) (fault_after [] rows) e).0 in
    grind (arith, nat_tests)

-- one more row
pub fault_after-push : (before rows : List UserSpec) (row : UserSpec) → fault_after before rows ≡ None
    → user_fault (before ++ rows) row ≡ None → fault_after before (rows ++ row ∷ []) ≡ None
fault_after-push before [] row e good = ap (λ o. option_or o None) (ap (λ b. user_fault b row) (sym (append-nil before)) ∙ good)
fault_after-push before (first ∷ rows) row e good =
    let p = option_or-none (user_fault before first) (fault_after (before ++ first ∷ []) rows) e in
    let next = fault_after-push (before ++ first ∷ []) rows row p.1
    (ap (λ b. user_fault b row) (append_assoc before (first ∷ []) rows) ∙ good) in
    rw (p.0, next)
