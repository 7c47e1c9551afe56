use Rattle.std.proofs.Common.{◌≡◌, ℕ, ◌<◌, Bool, false, count_by, take}
use Rattle.tc_index.specs.Tags.{Tells, is_place}
use Rattle.tc_index.proofs.shard.find_more.Given as goal

abbrev pub invariant-loop-place : goal.invariant-loop-place
invariant-loop-place g l =
    (right : ℕ → Bool) → Tells (goal.F-post g l.is_right) right → (slot : ℕ)
    → 0 < count_by (is_place l.tag.0 slot) (take l.place-index l.places) → right slot ≡ false
