use Rattle.std.specs.Prelude.{min}
use Rattle.std.proofs.Common.{◌≡◌, length, take, sym, ◌∙◌, ap}
use Rattle.tc_feed.specs.Stream.{line_length, line_room}
use Rattle.tc_feed.proofs.Lines.{take_seen, line_room-is, end_within, end_below}
use Rattle.tc_feed.proofs.reading.find_end.Goals as goal

pub returns-clause-value : goal.returns-clause-value
returns-clause-value c =
    let u = c.args.unread.now in
    let seen : take c.min-seen.result u ≡ take line_room u =
    ap (λ n. take n u) (c.min-seen.ensures ∙ ap (λ n. min (length u) n) (sym line_room-is)) ∙ take_seen line_room u in
    c.find_line.ensures ∙ ap line_length seen

pub returns-clause-within : goal.returns-clause-within
returns-clause-within c = end_within c.args.unread.now c.min-seen.result c.find_line.result (sym c.find_line.ensures)

pub returns-clause-short : goal.returns-clause-short
returns-clause-short c =
    end_below c.args.unread.now c.min-seen.result c.find_line.result (sym c.find_line.ensures) c.min-seen.ensures
