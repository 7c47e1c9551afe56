use Rattle.std.proofs.Common.{sym, ◌∙◌, ap, arith, get_or, List, ℕ}
use Rattle.std.specs.Prelude.{count_by}
use Rattle.std.proofs.lemmas.List.{take_all}
use Rattle.tc_index.specs.Tags.{is_place}
use Rattle.tc_index.proofs.Sought.{stands_seen, passed_on}
use Rattle.tc_index.proofs.shard.find_more.Goals as goal
use Rattle.tc_index.proofs.shard.find_more.Goals.{then-place-tag+else-is_right, else-place-tag}

pub returns-then-is_right : goal.returns-then-is_right
returns-then-is_right g c = λ right tells. (
  stands_seen c.args.tag.0 c.loop-place.place-index c.args.places.now c.loop-place-test.true c.if-place-tag.true,
  sym (tells (get_or c.args.places.now c.loop-place.place-index (0, 0)).1 c.is_right.result (omega arith) c.is_right.ensures)
      ∙ c.if-is_right.true,
)

pub loop-place-preserved : goal.loop-place-preserved
loop-place-preserved g c = λ right tells slot.
    passed_on right c.args.tag.0 slot c.loop-place.place-index c.args.places.now c.loop-place-test.true
    (λ own. elim c.if-place-tag.branch [
      | then-place-tag+else-is_right w ↦
          sym (tells (get_or c.args.places.now c.loop-place.place-index (0, 0)).1 w.is_right.result (omega arith) w.is_right.ensures)
          ∙ w.if-is_right.false
      | else-place-tag w ↦ absurd (w.if-place-tag.false own)
    ])
    (c.loop-place.invariant right tells slot)

pub returns : goal.returns
returns g c = λ right tells slot some.
    c.loop-place.invariant right tells slot
    (omega (
      arith,
      some,
      ap (λ (ps : List (ℕ × ℕ)). count_by (is_place c.args.tag.0 slot) ps)
          (take_all c.loop-place.place-index c.args.places.now c.loop-place-test.false),
    ))
