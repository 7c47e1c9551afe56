use Rattle.std.proofs.Common.{◌≡◌, ◌+◌, ◌<◌, length, take, drop, length-drop, sym, ap, arith}
use Rattle.tc_grammar.specs.Reading.{reading}
use Rattle.tc_feed.specs.Looking.{needed_of}
use Rattle.tc_feed.specs.Stream.{trimmed}
use Rattle.tc_feed.proofs.Lines.{scanned_line, awaited_line, remembered_line, lacking_line}
use Rattle.tc_feed.proofs.feed.Feed.next_block.Goals as goal

pub wait-requires-clause-scanned : goal.wait-requires-clause-scanned
wait-requires-clause-scanned c = scanned_line c.args.self.now.unread c.args.end c.requires.end

pub wait-requires-clause-awaited : goal.wait-requires-clause-awaited
wait-requires-clause-awaited c =
    awaited_line c.args.limit c.args.self.now.unread c.args.end (c.args.end + 1 + (c.args.length + 2)) c.requires.end
    (sym (ap (needed_of (c.args.end + 1)) c.requires.line)) (omega (arith, c.requires.short, c.requires.few))

pub wait-requires-clause-remembered : goal.wait-requires-clause-remembered
wait-requires-clause-remembered c =
    let u = c.args.self.now.unread in
    let end = c.args.end in
    let said = reading c.args.limit (trimmed (take end u)) in
    let needed : needed_of (end + 1) said ≡ end + 1 + (c.args.length + 2) = ap (needed_of (end + 1)) c.requires.line in
    let behind = length-drop (end + 1) u in
    let lacking : end + 1 + length (drop (end + 1) u) < needed_of (end + 1) said =
    omega (arith, needed, behind, c.requires.within, c.unread_len.ensures, c.if-unread_len-needed.true) in
    remembered_line u end (end + 1 + (c.args.length + 2)) said c.requires.end (sym needed)
    (lacking_line (end + 1) (drop (end + 1) u) said lacking)
