-- A table stays without a fault where a row is added or changed that has none.
use Rattle.std.specs.Prelude.{nat_le, nat_lt, not, position, option_map, slice_set, pos, ◌^◌}
use Rattle.std.specs.List.{prefix_len}
use Rattle.std.specs.Option.{option_or}
use Rattle.std.specs.Str.{bytes_eq}
use Rattle.std.proofs.Common.{◌≡◌, ℕ, zero, suc, ◌+◌, ◌-◌, ◌<◌, ◌≤◌, Bool, true, false, cond, List, [], ◌∷◌, ◌++◌, length, map}
use Rattle.std.proofs.Common.{get_or, slice_get, Option, Some, None, refl, sym, ◌∙◌, ap, subst, arith, length-append}
use Rattle.std.proofs.Common.{append_assoc, append-nil}
use Rattle.std.proofs.lemmas.Bool.Decides.{nat_tests}
use Rattle.std.proofs.lemmas.List.{length-map, length-set}
use Rattle.tc_model.specs.Connection.{user_at, with_user}
use Rattle.tc_users.specs.declared.users.UserSpec.{UserSpec}
use Rattle.tc_users.specs.declared.settings_fault.SettingsFault.{SettingsFault}
use Rattle.tc_users.specs.declared.settings_fault.SettingsFault.TheVariants.{SameName}
use Rattle.tc_users.specs.declared.settings_fault.Field.TheVariants.{Token}
use Rattle.tc_users.specs.Faults.{first_of, name_fault, token_fault, budget_fault, same_name_fault, second_fault, largest_fault}
use Rattle.tc_users.specs.Faults.{row_fault, user_fault, fault_after, first_fault}
use Rattle.tc_users.specs.Changes.{row_with_second, row_with_largest, with_row, with_second, with_largest, second_fault_for}
use Rattle.tc_users.specs.Changes.{second_fault_of}
use Rattle.tc_users.proofs.FirstFault.{option_or-none, cond-none_else, fault_after-push}

abbrev names : List UserSpec → List (List ℕ)
names rows = map (λ (r : UserSpec). r.name) rows

place-names : (name : List ℕ) (rows others : List UserSpec) → names rows ≡ names others
    → prefix_len (λ (r : UserSpec). not (bytes_eq r.name name)) rows
    ≡ prefix_len (λ (r : UserSpec). not (bytes_eq r.name name)) others
place-names name [] [] e = refl
place-names name [] (o ∷ os) e = cc
place-names name (r ∷ rs) [] e = cc
place-names name (r ∷ rs) (o ∷ os) e =
    let same : r.name ≡ o.name = cc in
    let rest = place-names name rs os cc in
    rw (same, rest) refl

length-names : (rows others : List UserSpec) → names rows ≡ names others → length rows ≡ length others
length-names rows others e =
    let p : length (names rows) ≡ length rows = simp length-map in
    let q : length (names others) ≡ length others = simp length-map in
    sym p ∙ (ap length e ∙ q)

-- rows before a row count by their names alone
user_fault-names : (before others : List UserSpec) (row : UserSpec) → names before ≡ names others
    → user_fault before row ≡ user_fault others row
user_fault-names before others row e = rw (length-names before others e, place-names row.name before others e) refl

names-push : (rows others : List UserSpec) (r o : UserSpec) → names rows ≡ names others → r.name ≡ o.name
    → names (rows ++ r ∷ []) ≡ names (others ++ o ∷ [])
names-push [] [] r o e f = ap (λ n. n ∷ []) f
names-push [] (p ∷ os) r o e f = cc
names-push (q ∷ rs) [] r o e f = cc
names-push (q ∷ rs) (p ∷ os) r o e f =
    let same : q.name ≡ p.name = cc in
    let rest = names-push rs os r o cc f in
    rw (same, rest) refl

fault_after-names : (before others rows : List UserSpec) → names before ≡ names others
    → fault_after before rows ≡ fault_after others rows
fault_after-names before others [] e = refl
fault_after-names before others (row ∷ rows) e =
    let rest = fault_after-names (before ++ row ∷ []) (others ++ row ∷ []) rows (names-push before others row row e refl) in
    ap (λ o. option_or o (fault_after (before ++ row ∷ []) rows)) (user_fault-names before others row e)
    ∙ ap (λ o. option_or (user_fault others row) o) rest

both-none : (o p : Option SettingsFault) → o ≡ None → p ≡ None → option_or o p ≡ None
both-none o p e f = rw (e, f) refl

-- a row that keeps its name is changed
fault_after-set : (before rows : List UserSpec) (i : ℕ) (row changed : UserSpec) → i < length rows → row ≡ get_or rows i row
    → changed.name ≡ row.name
    → row_fault (length before + i + 1) changed ≡ None → fault_after before rows ≡ None
    → fault_after before (slice_set rows i changed) ≡ None
fault_after-set before [] i row changed h at same good e = absurd (omega arith)
fault_after-set before (r ∷ rows) zero row changed h at same good e =
    let p = option_or-none (user_fault before r) (fault_after (before ++ r ∷ []) rows) e in
    let own = option_or-none (row_fault (length before + 1) r) (same_name_fault before r.name) p.0 in
    let name : changed.name ≡ r.name = same ∙ ap (λ (x : UserSpec). x.name) at in
    let free : same_name_fault before changed.name ≡ None = ap (same_name_fault before) name ∙ own.1 in
    let alone : row_fault (length before + 1) changed ≡ None = subst (λ n. row_fault n changed ≡ None) (omega arith) good in
    both-none (user_fault before changed) (fault_after (before ++ changed ∷ []) rows)
    (both-none (row_fault (length before + 1) changed) (same_name_fault before changed.name) alone free)
    (fault_after-names (before ++ changed ∷ []) (before ++ r ∷ []) rows (names-push before before changed r refl name) ∙ p.1)
fault_after-set before (r ∷ rows) (suc i) row changed h at same good e =
    let p = option_or-none (user_fault before r) (fault_after (before ++ r ∷ []) rows) e in
    let number : length before + suc i + 1 ≡ length (before ++ r ∷ []) + i + 1 = simp length-append (omega arith) in
    both-none (user_fault before r) (fault_after (before ++ r ∷ []) (slice_set rows i changed)) p.0
    (fault_after-set (before ++ r ∷ []) rows i row changed (omega arith) at same
    (subst (λ n. row_fault n changed ≡ None) number good) p.1)

row_fault-at : (before rows : List UserSpec) (i : ℕ) (row : UserSpec) → i < length rows → row ≡ get_or rows i row
    → fault_after before rows ≡ None → row_fault (length before + i + 1) row ≡ None
row_fault-at before [] i row h at e = absurd (omega arith)
row_fault-at before (r ∷ rows) zero row h at e =
    let p = option_or-none (user_fault before r) (fault_after (before ++ r ∷ []) rows) e in
    let own = option_or-none (row_fault (length before + 1) r) (same_name_fault before r.name) p.0 in
    let n : length before + 1 ≡ length before + zero + 1 = omega arith in
    subst (λ k. row_fault k row ≡ None) n (ap (row_fault (length before + 1)) at ∙ own.0)
row_fault-at before (r ∷ rows) (suc i) row h at e =
    let p = option_or-none (user_fault before r) (fault_after (before ++ r ∷ []) rows) e in
    let number : length (before ++ r ∷ []) + i + 1 ≡ length before + suc i + 1 = simp length-append (omega arith) in
    subst (λ k. row_fault k row ≡ None) number (row_fault-at (before ++ r ∷ []) rows i row (omega arith) at p.1)

five_none : (a b f g h : Option SettingsFault) → a ≡ None → b ≡ None → f ≡ None → g ≡ None → h ≡ None
    → first_of (a ∷ b ∷ f ∷ g ∷ h ∷ []) ≡ None
five_none a b f g h p q r s t = rw (p, q, r, s, t) refl

-- none of five is there
record AreNone (a b f g h : Option SettingsFault) : Type 0 where
  one : a ≡ None
  two : b ≡ None
  three : f ≡ None
  four : g ≡ None
  five : h ≡ None

none-five : (a b f g h : Option SettingsFault) → first_of (a ∷ b ∷ f ∷ g ∷ h ∷ []) ≡ None → AreNone a b f g h
none-five a b f g h e =
    let p = option_or-none a (first_of (b ∷ f ∷ g ∷ h ∷ [])) e in
    let q = option_or-none b (first_of (f ∷ g ∷ h ∷ [])) p.1 in
    let r = option_or-none f (first_of (g ∷ h ∷ [])) q.1 in
    let s = option_or-none g (first_of (h ∷ [])) r.1 in
    let t = option_or-none h (first_of []) s.1 in
    record { one = p.0; two = q.0; three = r.0; four = s.0; five = t.0 }

row-none : (user : ℕ) (row : UserSpec) → row_fault user row ≡ None
    → AreNone (name_fault user row.name) (token_fault (Token user) row.token) (budget_fault user (pos row.budget))
    (second_fault user row.token row.second) (largest_fault user (pos row.largest))
row-none user row e =
    none-five (name_fault user row.name) (token_fault (Token user) row.token) (budget_fault user (pos row.budget))
    (second_fault user row.token row.second) (largest_fault user (pos row.largest)) e

row_fault-second : (user : ℕ) (row : UserSpec) (second : List ℕ) → row_fault user row ≡ None
    → second_fault user row.token (Some second) ≡ None → row_fault user (row_with_second second row) ≡ None
row_fault-second user row second e new =
    let was = row-none user row e in
    five_none (name_fault user row.name) (token_fault (Token user) row.token) (budget_fault user (pos row.budget))
    (second_fault user row.token (Some second)) (largest_fault user (pos row.largest)) was.one was.two was.three new was.five

row_fault-largest : (user : ℕ) (row : UserSpec) (largest : ℕ) → row_fault user row ≡ None
    → largest_fault user (pos largest) ≡ None → row_fault user (row_with_largest largest row) ≡ None
row_fault-largest user row largest e new =
    let was = row-none user row e in
    five_none (name_fault user row.name) (token_fault (Token user) row.token) (budget_fault user (pos row.budget))
    (second_fault user row.token row.second) (largest_fault user (pos largest)) was.one was.two was.three was.four new

first_fault-same_length : (rows others : List UserSpec) → length others ≡ length rows → first_fault rows ≡ None
    → fault_after [] others ≡ None → first_fault others ≡ None
first_fault-same_length rows others n e f =
    let p = cond-none_else (nat_le (2 ^ 32) (length rows)) _ _ e in
    let q : nat_le (2 ^ 32) (length others) ≡ false = ap (nat_le (2 ^ 32)) n ∙ p.0 in
    rw (q, f) refl

user_at-get_or : (rows : List UserSpec) (i : ℕ) (row : UserSpec) → i < length rows → row ≡ get_or rows i row
    → slice_get rows i ≡ Some row
user_at-get_or [] i row h at = absurd (omega arith)
user_at-get_or (r ∷ rows) zero row h at = ap Some (sym at)
user_at-get_or (r ∷ rows) (suc i) row h at = user_at-get_or rows i row (omega arith) at

-- a user's row, by the user's number
module _ (rows : List UserSpec) (user place : ℕ) (row : UserSpec) (is : place ≡ user - 1) (positive : 0 < user)
    (within : user ≤ length rows) (at : row ≡ get_or rows place row) (good : first_fault rows ≡ None) where
  number : user ≡ suc place
  number = omega arith

  here : user_at rows user ≡ Some row
  here = ap (user_at rows) number ∙ user_at-get_or rows place row (omega arith) at

  all_good : fault_after [] rows ≡ None
  all_good = (cond-none_else (nat_le (2 ^ 32) (length rows)) _ _ good).1

  own : row_fault user row ≡ None
  own = subst (λ n. row_fault n row ≡ None) (omega arith) (row_fault-at [] rows place row (omega arith) at all_good)

  changed-good : (changed : UserSpec) → changed.name ≡ row.name → row_fault user changed ≡ None
      → first_fault (slice_set rows place changed) ≡ None
  changed-good changed same e =
      first_fault-same_length rows (slice_set rows place changed) (length-set rows place changed) good
      (fault_after-set [] rows place row changed (omega arith) at same
      (subst (λ n. row_fault n changed ≡ None) (omega arith) e) all_good)

  pub second-fault : (second : List ℕ) → second_fault_of rows user second ≡ second_fault user row.token (Some second)
  second-fault second = ap (second_fault_for user second) here

  pub second-good : (second : List ℕ) → second_fault user row.token (Some second) ≡ None
      → first_fault (slice_set rows place (row_with_second second row)) ≡ None
  second-good second e = changed-good (row_with_second second row) refl (row_fault-second user row second own e)

  pub second-set : (second : List ℕ) → slice_set rows place (row_with_second second row) ≡ with_second rows user second
  second-set second =
      sym (ap (with_row (row_with_second second) rows user) here ∙ ap (λ n. with_user rows n (row_with_second second row)) number)

  pub largest-good : (largest : ℕ) → largest_fault user (pos largest) ≡ None
      → first_fault (slice_set rows place (row_with_largest largest row)) ≡ None
  largest-good largest e = changed-good (row_with_largest largest row) refl (row_fault-largest user row largest own e)

  pub largest-set : (largest : ℕ) → slice_set rows place (row_with_largest largest row) ≡ with_largest rows user largest
  largest-set largest =
      sym (ap (with_row (row_with_largest largest) rows user) here
      ∙ ap (λ n. with_user rows n (row_with_largest largest row)) number)

first_fault-fits : (rows : List UserSpec) (row : UserSpec) → length rows < 2 ^ 32 - 1
    → first_fault (rows ++ row ∷ []) ≡ fault_after [] (rows ++ row ∷ [])
first_fault-fits rows row h =
    let n : length (rows ++ row ∷ []) ≡ length rows + 1 = simp length-append (omega arith) in
    let q : nat_le (2 ^ 32) (length (rows ++ row ∷ [])) ≡ false = rw n (grind (arith, nat_tests)) in
    rw q refl

fault_after-bad : (before rows : List UserSpec) (row : UserSpec) (fault : SettingsFault) → fault_after before rows ≡ None
    → user_fault (before ++ rows) row ≡ Some fault → fault_after before (rows ++ row ∷ []) ≡ Some fault
fault_after-bad before [] row fault e bad =
    ap (λ o. option_or o None) (ap (λ b. user_fault b row) (sym (append-nil before)) ∙ bad)
fault_after-bad before (r ∷ rows) row fault e bad =
    let p = option_or-none (user_fault before r) (fault_after (before ++ r ∷ []) rows) e in
    ap (λ o. option_or o (fault_after (before ++ r ∷ []) (rows ++ row ∷ []))) p.0
    ∙ fault_after-bad (before ++ r ∷ []) rows row fault p.1 (ap (λ b. user_fault b row) (append_assoc before (r ∷ []) rows) ∙ bad)

pub push-bad : (rows : List UserSpec) (row : UserSpec) (fault : SettingsFault) → length rows < 2 ^ 32 - 1
    → first_fault rows ≡ None → user_fault rows row ≡ Some fault → first_fault (rows ++ row ∷ []) ≡ Some fault
push-bad rows row fault h good e =
    first_fault-fits rows row h ∙ fault_after-bad [] rows row fault (cond-none_else (nat_le (2 ^ 32) (length rows)) _ _ good).1 e

-- a row behind the others
pub push-good : (rows : List UserSpec) (row : UserSpec) → length rows < 2 ^ 32 - 1 → first_fault rows ≡ None
    → user_fault rows row ≡ None → first_fault (rows ++ row ∷ []) ≡ None
push-good rows row h good e =
    first_fault-fits rows row h ∙ fault_after-push [] rows row (cond-none_else (nat_le (2 ^ 32) (length rows)) _ _ good).1 e
