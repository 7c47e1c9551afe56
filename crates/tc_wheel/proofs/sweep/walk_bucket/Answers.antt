use Rattle.std.proofs.Common.{◌+◌, arith, sym, ◌∙◌, subst}
use Rattle.tc_wheel.specs.Links.{Links}
use Rattle.tc_wheel.proofs.Walked.{Walks, mark_within, walk_starts, walk_place, walk_put, walk_over, walk_moves, walk_done}
use Rattle.tc_wheel.proofs.Walked.{walk_ends}
use Rattle.tc_wheel.proofs.sweep.walk_bucket.Goals as goal
use Rattle.tc_wheel.proofs.sweep.walk_bucket.Goals.{then-is_due, else-is_due}

pub node-at-requires : goal.node-at-requires
node-at-requires c = (omega arith, mark_within 4096 _ _ _ c.bucket_of.result (omega arith) c.requires.swept)

pub loop-step-init : goal.loop-step-init
loop-step-init c =
    walk_starts c.args.moment c.args.back c.seconds.result c.bucket_of.result c.node-at.result.next c.slots-step-end.result
    c.args.nodes.now c.seconds.ensures.seconds c.bucket_of.ensures c.node-at.ensures.next c.slots-step-end.ensures
    c.requires.swept

pub returns-then-at-lt-MARKS-clause-swept : goal.returns-then-at-lt-MARKS-clause-swept
returns-then-at-lt-MARKS-clause-swept c =
    walk_done c.args.moment c.args.back c.slots-step-end.result c.loop-step._step c.args.nodes.now c.loop-step.nodes
    c.loop-step.at c.if-at-lt-MARKS.true c.loop-step.invariant

pub node-next-requires : goal.node-next-requires
node-next-requires c = (
  omega arith,
  (walk_place c.args.moment c.args.back c.slots-step-end.result c.loop-step._step c.args.nodes.now c.loop-step.nodes
      c.loop-step.at c.if-at-lt-MARKS.false c.loop-step.invariant).own,
)

pub is_due-requires : goal.is_due-requires
is_due-requires c =
    (walk_place c.args.moment c.args.back c.slots-step-end.result c.loop-step._step c.args.nodes.now c.loop-step.nodes
    c.loop-step.at c.if-at-lt-MARKS.false c.loop-step.invariant).own

pub unlink-requires : goal.unlink-requires
unlink-requires c = (
  omega arith,
  walk_place c.args.moment c.args.back c.slots-step-end.result c.loop-step._step c.args.nodes.now c.loop-step.nodes
      c.loop-step.at c.if-at-lt-MARKS.false c.loop-step.invariant,
)

pub link_behind-requires : goal.link_behind-requires
link_behind-requires c =
    let put = walk_put c.args.moment c.args.back c.slots-step-end.result c.loop-step._step c.args.nodes.now c.loop-step.nodes
    c.unlink.new.self c.loop-step.at c.if-at-lt-MARKS.false (sym c.is_due.ensures ∙ c.if-is_due.true) c.unlink.ensures
    c.loop-step.invariant in
    (omega arith, (put.0.own, (put.1, put.0.behind)))

pub loop-step-preserved : goal.loop-step-preserved
loop-step-preserved c =
    elim c.if-is_due.branch [
      | then-is_due w ↦
          subst
          (λ (x : Links). Walks c.args.moment c.args.back c.slots-step-end.result
          (c.loop-step._step + 1) c.args.nodes.now x c.node-next.result.next)
          (sym w.nodes-is)
          (walk_moves c.args.moment c.args.back c.slots-step-end.result c.loop-step._step c.node-next.result.next c.args.nodes.now
          c.loop-step.nodes w.unlink.new.self w.link_behind.new.self c.loop-step.at c.if-at-lt-MARKS.false
          c.node-next.ensures.next (sym c.is_due.ensures ∙ w.if-is_due.true) w.unlink.ensures w.link_behind.ensures
          c.loop-step.invariant)
      | else-is_due w ↦
          subst
          (λ (x : Links). Walks c.args.moment c.args.back c.slots-step-end.result
          (c.loop-step._step + 1) c.args.nodes.now x c.node-next.result.next)
          (sym w.nodes-is)
          (walk_over c.args.moment c.args.back c.slots-step-end.result c.loop-step._step c.node-next.result.next c.args.nodes.now
          c.loop-step.nodes c.loop-step.at c.if-at-lt-MARKS.false c.node-next.ensures.next
          (sym c.is_due.ensures ∙ w.if-is_due.false) c.loop-step.invariant)
    ]

pub returns-clause-swept : goal.returns-clause-swept
returns-clause-swept c =
    walk_ends c.args.moment c.args.back c.slots-step-end.result c.loop-step._step c.args.nodes.now c.loop-step.nodes
    c.loop-step.at (omega arith) c.loop-step.invariant
