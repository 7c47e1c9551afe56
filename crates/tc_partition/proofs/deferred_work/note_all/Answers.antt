use Rattle.std.proofs.Common.{◌≡◌, ℕ, ◌+◌, suc, List, [], ◌∷◌, ◌++◌, length, drop, get_or, Option, None, refl, sym, ◌∙◌, ap, subst}
use Rattle.std.proofs.Common.{append_assoc, arith, add-one}
use Rattle.std.proofs.lemmas.List.{append-nil, length-append}
use Rattle.tc_model.specs.Areas.{Limits}
use Rattle.tc_readbuf.specs.declared.look_up.LookUp.{LookUp}
use Rattle.tc_partition.specs.WaitingSlots.{IsDrained}
use Rattle.tc_partition.specs.Seeking.{noted_at, all_noted}
use Rattle.tc_partition.specs.FastState.{waits_next, waits_after}
use Rattle.tc_partition.proofs.Draining.{drained_none, drained_more, drained_before, left_first}
use Rattle.tc_partition.proofs.OneLook.{noted_drop, none_noted}
use Rattle.tc_partition.proofs.deferred_work.note_all.Goals as goal

pub loop-i-init : goal.loop-i-init
loop-i-init c = record {
  drained = drained_none c.args.live.now (c.args.waiting.now ++ all_noted c.args.hashes.now c.args.found.now c.args.moment);
  waits = refl;
}

pub make_place-requires-clause-light : goal.make_place-requires-clause-light
make_place-requires-clause-light c =
    omega (
      arith,
      ap (λ (k : Limits). k.window) c.loop-i.invariant.drained.limits,
      ap (λ (k : Limits). k.main) c.loop-i.invariant.drained.limits,
      c.requires.light,
    )

pub make_place-requires-clause-first : goal.make_place-requires-clause-first
make_place-requires-clause-first c =
    left_first c.args.live.now (c.args.waiting.now ++ all_noted c.args.hashes.now c.args.found.now c.args.moment) c.args.moment
    c.loop-i.live c.loop-i.waiting
    (all_noted (drop c.loop-i.i c.args.hashes.now) (drop c.loop-i.i c.args.found.now) c.args.moment) c.requires.both
    c.loop-i.invariant.drained

pub bounds-found-i : goal.bounds-found-i
bounds-found-i c = omega (arith, c.requires.long, c.loop-i-test.true)

pub loop-i-preserved : goal.loop-i-preserved
loop-i-preserved c =
    let hashes = c.args.hashes.now in
    let found = c.args.found.now in
    let m = c.args.moment in
    let i = c.loop-i.i in
    let none : ℕ = 0 in
    let first : LookUp = noted_at (get_or hashes i none) (get_or found i None) in
    let rest : List (LookUp × ℕ) = all_noted (drop (i + 1) hashes) (drop (i + 1) found) m in
    let place = c.make_place.new.waiting in
    let same : place ++ all_noted (drop i hashes) (drop i found) m ≡ c.push.new.waiting ++ rest =
    ap (λ xs. place ++ xs) (noted_drop hashes found m i none c.loop-i-test.true c.requires.long
    ∙ ap (λ j. (first, m) ∷ all_noted (drop j hashes) (drop j found) m) (sym (add-one i)))
    ∙ sym (append_assoc place ((first, m) ∷ []) rest)
    ∙ ap (λ n. (place ++ (n, m) ∷ []) ++ rest) (sym c.noted_at.ensures)
    ∙ ap (λ xs. xs ++ rest) (sym c.push.ensures) in
    record {
      drained =
          subst (IsDrained c.args.live.now (c.args.waiting.now ++ all_noted hashes found m) c.make_place.new.live) same
          (drained_more c.args.live.now (c.args.waiting.now ++ all_noted hashes found m) c.loop-i.live
          (c.loop-i.waiting ++ all_noted (drop i hashes) (drop i found) m) c.make_place.new.live
          (place ++ all_noted (drop i hashes) (drop i found) m) c.loop-i.invariant.drained
          (drained_before c.loop-i.live c.loop-i.waiting c.make_place.new.live place
          (all_noted (drop i hashes) (drop i found) m) c.make_place.ensures.drained));
      waits =
          ap length c.push.ensures ∙ length-append place ((c.noted_at.result, m) ∷ []) ∙ c.make_place.ensures.waits
          ∙ ap waits_next c.loop-i.invariant.waits ∙ ap (λ n. waits_after n (length c.args.waiting.now)) (sym (add-one i));
    }

pub returns-clause-drained : goal.returns-clause-drained
returns-clause-drained c =
    let hashes = c.args.hashes.now in
    let found = c.args.found.now in
    let m = c.args.moment in
    let end : c.loop-i.i ≡ length hashes = omega arith in
    subst (IsDrained c.args.live.now (c.args.waiting.now ++ all_noted hashes found m) c.loop-i.live)
    (ap (λ xs. c.loop-i.waiting ++ xs) (none_noted found m c.loop-i.i hashes end) ∙ append-nil c.loop-i.waiting)
    c.loop-i.invariant.drained

pub returns-clause-waits : goal.returns-clause-waits
returns-clause-waits c =
    let end : c.loop-i.i ≡ length c.args.hashes.now = omega arith in
    c.loop-i.invariant.waits ∙ ap (λ n. waits_after n (length c.args.waiting.now)) end
