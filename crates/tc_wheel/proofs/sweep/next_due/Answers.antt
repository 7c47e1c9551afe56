use Rattle.std.proofs.Common.{arith, sym, ◌∙◌}
use Rattle.tc_wheel.proofs.Walked.{mark_within, seek_starts, seek_place, seek_over, seek_done, seek_ends}
use Rattle.tc_wheel.proofs.sweep.next_due.Goals as goal

pub node-at-requires : goal.node-at-requires
node-at-requires c = (omega arith, mark_within 4096 _ _ _ 4096 (omega arith) c.requires.2)

pub loop-step-init : goal.loop-step-init
loop-step-init c =
    seek_starts c.args.moment c.node-at.result.next c.slots-step-end.result c.args.nodes.now c.node-at.ensures.next
    c.slots-step-end.ensures

pub returns-then-at-lt-MARKS : goal.returns-then-at-lt-MARKS
returns-then-at-lt-MARKS c =
    seek_done c.args.moment c.slots-step-end.result c.loop-step._step c.args.nodes.now c.loop-step.at c.if-at-lt-MARKS.true
    c.loop-step.invariant

pub is_due-requires : goal.is_due-requires
is_due-requires c =
    (seek_place c.requires.0 c.requires.1 c.args.moment c.slots-step-end.result c.loop-step._step c.args.nodes.now c.loop-step.at
    c.if-at-lt-MARKS.false c.requires.2 c.loop-step.invariant).own

pub node-at-requires-in-loop-step : goal.node-at-requires-in-loop-step
node-at-requires-in-loop-step c = (
  omega arith,
  (seek_place c.requires.0 c.requires.1 c.args.moment c.slots-step-end.result c.loop-step._step c.args.nodes.now c.loop-step.at
      c.if-at-lt-MARKS.false c.requires.2 c.loop-step.invariant).own,
)

pub loop-step-preserved : goal.loop-step-preserved
loop-step-preserved c =
    seek_over c.args.moment c.slots-step-end.result c.loop-step._step c.node-at-in-loop-step.result.next c.args.nodes.now
    c.loop-step.at c.if-at-lt-MARKS.false c.node-at-in-loop-step.ensures.next
    (sym c.is_due.ensures ∙ c.if-is_due.false) c.loop-step.invariant

pub returns : goal.returns
returns c =
    seek_ends c.args.moment c.slots-step-end.result c.loop-step._step c.args.nodes.now c.loop-step.at
    (omega arith) c.loop-step.invariant
