use Rattle.std.specs.Prelude.{drop, map, min}
use Rattle.std.proofs.Common.{◌≡◌, ℕ, zero, suc, List, [], ◌∷◌, length, sym, ◌∙◌, ap, refl, arith, length-drop}
use Rattle.std.proofs.lemmas.List.{drop-drop}
use Rattle.tc_slots.proofs.Tally.{length_map}
use Rattle.tc_model.specs.Areas.{Limits}
use Rattle.tc_partition.specs.WaitingSlots.{waiting_of}
use Rattle.tc_partition.proofs.Draining.{drained_none, drained_more, first_after}
use Rattle.tc_partition.proofs.deferred_work.drain.Goals as goal

pub loop-record-init : goal.loop-record-init
loop-record-init c = record { drained = drained_none c.args.live.now c.args.waiting.now; rest = refl; rests = tt }

pub drain_one-last-requires-clause-light : goal.drain_one-last-requires-clause-light
drain_one-last-requires-clause-light c =
    omega (
      arith,
      ap (λ (k : Limits). k.window) c.loop-record.invariant.drained.limits,
      ap (λ (k : Limits). k.main) c.loop-record.invariant.drained.limits,
      c.requires.light,
    )

pub drain_one-last-requires-clause-first : goal.drain_one-last-requires-clause-first
drain_one-last-requires-clause-first c =
    first_after c.args.live.now c.args.waiting.now c.loop-record.live c.loop-record.waiting c.requires.first
    c.loop-record.invariant.drained

pub loop-record-preserved : goal.loop-record-preserved
loop-record-preserved c = record {
  drained =
      drained_more c.args.live.now c.args.waiting.now c.loop-record.live c.loop-record.waiting c.drain_one-last.new.live
      c.drain_one-last.new.waiting c.loop-record.invariant.drained c.drain_one-last.ensures.drained;
  rest =
      c.drain_one-last.ensures.rest ∙ ap (drop 1) c.loop-record.invariant.rest
      ∙ drop-drop 1 c.loop-record._record (map (waiting_of c.args.live.now.held.slots) c.args.waiting.now);
  rests = c.drain_one-last.ensures.rests;
}

-- to drop more than there is drops all
drop_most : {A : Type 0} (i limit : ℕ) (xs : List A) → i ≡ min limit (length xs) → drop i xs ≡ drop limit xs
drop_most zero zero xs e = refl
drop_most zero (suc limit) [] e = refl
drop_most zero (suc limit) (x ∷ xs) e = absurd (omega (arith, e))
drop_most (suc i) zero xs e = absurd (omega (arith, e))
drop_most (suc i) (suc limit) [] e = refl
drop_most (suc i) (suc limit) (x ∷ xs) e = drop_most i limit xs (omega (arith, e))

no_items : {A : Type 0} (xs : List A) → length xs ≡ 0 → xs ≡ []
no_items [] e = refl
no_items (x ∷ xs) e = absurd (omega (arith, e))

pub returns-clause-rest : goal.returns-clause-rest
returns-clause-rest c =
    let old = map (waiting_of c.args.live.now.held.slots) c.args.waiting.now in
    c.loop-record.invariant.rest
    ∙ drop_most c.loop-record._record c.args.limit old
    (omega (
      arith,
      c.min-count.ensures,
      c.len.ensures.count,
      length_map (waiting_of c.args.live.now.held.slots) c.args.waiting.now,
    ))

pub returns-clause-none : goal.returns-clause-none
returns-clause-none c = λ big.
    let old = map (waiting_of c.args.live.now.held.slots) c.args.waiting.now in
    no_items c.loop-record.waiting (omega (
      arith,
      big,
      length_map (waiting_of c.loop-record.live.held.slots) c.loop-record.waiting,
      ap length c.loop-record.invariant.rest,
      length-drop c.loop-record._record old,
      length_map (waiting_of c.args.live.now.held.slots) c.args.waiting.now,
      c.min-count.ensures,
      c.len.ensures.count,
      c.len.ensures.at_most,
    ))
