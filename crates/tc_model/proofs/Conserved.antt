-- Settle moves and drops, and makes nothing and loses nothing: what is left and what was dropped is what there was.
use Rattle.std.specs.Prelude.{sum_by, nat_lt, reverse}
use Rattle.std.specs.List.{list_all}
use Rattle.std.proofs.Common.{◌≡◌, ℕ, ◌+◌, ◌-◌, Bool, true, false, cond, List, [], ◌∷◌, length, refl, ap, arith}
use Rattle.std.proofs.lemmas.List.Sums.{sum_by-cons, sum_by-append}
use Rattle.tc_model.specs.Areas.{Areas, Limits, Settled, fitting, beyond, shortest, main_weight, demoted, without_last, from_tail}
use Rattle.tc_model.specs.Areas.{trimmed, victims, entered, admitted, all_admitted, narrowed, settle, total}
use Rattle.tc_model.proofs.Within.{sum-reverse, sum-without_last, shortest-take}
use Rattle.tc_model.proofs.Totals.{parts, total-demoted}

-- all that there is, with what was dropped
abbrev pub in_all : {A : Type 0} → (A → ℕ) → Settled A → ℕ
in_all f s = total f s.areas + sum_by f s.dropped

-- what goes from main's tail
gone_last : {A : Type 0} (f weigh : A → ℕ) (need : ℕ) (a : Areas A)
    → main_weight f (without_last (length (shortest weigh need (from_tail a))) a) + sum_by f (shortest weigh need (from_tail a))
    ≡ main_weight f a
gone_last f weigh need a =
    let gone = shortest weigh need (from_tail a) in
    omega (arith, sum-without_last f (length gone) a, ap (sum_by f) (shortest-take weigh need (from_tail a)))

all-trimmed : {A : Type 0} (f weigh : A → ℕ) (limits : Limits) (a : Areas A) → in_all f (trimmed weigh limits a) ≡ total f a
all-trimmed f weigh limits a = omega (arith, gone_last f weigh (main_weight weigh a - limits.main) a)

all-admitted : {A : Type 0} (f weigh freq : A → ℕ) (limits : Limits) (c : A) (a : Areas A)
    → in_all f (admitted freq c a (victims weigh limits a c)) ≡ total f a + f c
all-admitted {A} f weigh freq limits c a = go (list_all (λ v. nat_lt (freq v) (freq c)) (victims weigh limits a c))
  where
    go : (b : Bool)
        → in_all f (cond b
        (let s : Settled A = record {
          areas = entered c (without_last (length (victims weigh limits a c)) a);
          dropped = victims weigh limits a c;
        } in s)
        (record { areas = a; dropped = c ∷ [] }))
        ≡ total f a + f c
    go true =
        omega (
          arith,
          gone_last f weigh (main_weight weigh a + weigh c - limits.main) a,
          sum_by-cons f c (without_last (length (victims weigh limits a c)) a).probation,
        )
    go false = omega (arith, sum_by-cons f c [])

all-all_admitted : {A : Type 0} (f weigh freq : A → ℕ) (limits : Limits) (a : Areas A) (cs : List A)
    → in_all f (all_admitted weigh freq limits a cs) ≡ total f a + sum_by f cs
all-all_admitted f weigh freq limits a [] = refl
all-all_admitted f weigh freq limits a (c ∷ cs) =
    let s = admitted freq c a (victims weigh limits a c) in
    let rest = all_admitted weigh freq limits s.areas cs in
    omega (
      arith,
      all-all_admitted f weigh freq limits s.areas cs,
      all-admitted f weigh freq limits c a,
      sum_by-append f s.dropped rest.dropped,
      sum_by-cons f c cs,
    )

pub all-settle : {A : Type 0} (f weigh freq : A → ℕ) (limits : Limits) (a : Areas A)
    → in_all f (settle weigh freq limits a) ≡ total f a
all-settle f weigh freq limits a =
    let d = demoted weigh limits a in
    let s = trimmed weigh limits d in
    let window = fitting weigh limits.window a.window in
    let cs = reverse (beyond weigh limits.window a.window) in
    let rest = all_admitted weigh freq limits (narrowed window s.areas) cs in
    omega (
      arith,
      all-all_admitted f weigh freq limits (narrowed window s.areas) cs,
      all-trimmed f weigh limits d,
      sum_by-append f s.dropped rest.dropped,
      total-demoted f weigh limits a,
      parts f weigh limits.window a.window,
      sum-reverse f (beyond weigh limits.window a.window),
    )
