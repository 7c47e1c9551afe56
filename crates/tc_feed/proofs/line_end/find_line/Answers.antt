use Rattle.std.proofs.Common.{sym, arith}
use Rattle.tc_feed.proofs.Lines.{line_in_run, line_past_run}
use Rattle.tc_feed.proofs.line_end.find_line.Goals as goal

pub returns-then-run-lt-LANES : goal.returns-then-run-lt-LANES
returns-then-run-lt-LANES c =
    sym (line_in_run c.args.bytes.now c.args.from 16 c.run_in_lanes-run.result (omega arith) c.requires.none
    c.run_in_lanes-run.ensures c.if-run-lt-LANES.true)

pub seek_line-requires-2-clause-none : goal.seek_line-requires-2-clause-none
seek_line-requires-2-clause-none c =
    line_past_run c.args.bytes.now c.args.from 16 c.run_in_lanes-run.result (omega arith) c.requires.none
    c.run_in_lanes-run.ensures c.if-run-lt-LANES.false
