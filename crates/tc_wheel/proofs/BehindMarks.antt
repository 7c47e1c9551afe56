-- The dues of slots are those of the nodes behind the marks.
use Rattle.std.specs.Prelude.{Option, None, slice_set}
use Rattle.std.proofs.Common.{◌≡◌, ℕ, ◌+◌, ◌-◌, ◌≤◌, List, ◌++◌, length, ◌∙◌, ap, arith}
use Rattle.std.proofs.lemmas.List.{drop-append-le, drop-set-add, get_or-drop, length-drop}
use Rattle.tc_wheel.specs.Dues.{due_at}
use Rattle.tc_wheel.specs.Turning.{slot_dues}

pub due_at-slot_dues : (dues : List (Option ℕ)) (n : ℕ) → due_at (slot_dues dues) n ≡ due_at dues (n + 4097)
unfolding slot_dues
due_at-slot_dues dues n =
    let same : 4097 + n ≡ n + 4097 = omega arith in get_or-drop 4097 dues n None ∙ ap (λ i. due_at dues i) same

pub slot_dues-set : (dues : List (Option ℕ)) (n : ℕ) (x : Option ℕ)
    → slot_dues (slice_set dues (n + 4097) x) ≡ slice_set (slot_dues dues) n x
unfolding slot_dues
slot_dues-set dues n x =
    let same : n + 4097 ≡ 4097 + n = omega arith in
    ap (λ i. slot_dues (slice_set dues i x)) same ∙ drop-set-add 4097 dues n x

pub slot_dues-append : (dues more : List (Option ℕ)) → 4097 ≤ length dues → slot_dues (dues ++ more) ≡ slot_dues dues ++ more
unfolding slot_dues
slot_dues-append dues more h = drop-append-le 4097 dues more h

pub length-slot_dues : (dues : List (Option ℕ)) → length (slot_dues dues) ≡ length dues - 4097
unfolding slot_dues
length-slot_dues dues = length-drop 4097 dues
