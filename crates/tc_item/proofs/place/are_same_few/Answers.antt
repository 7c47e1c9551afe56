use Rattle.std.specs.Prelude.{◌&&◌}
use Rattle.std.proofs.Common.{◌≡◌, ◌∙◌, length, take, drop, ap, sym, rules}
use Rattle.std.specs.Str.{bytes_eq}
use Rattle.tc_item.proofs.Places.{same_overlapping, filled_alike, filled_otherwise}
use Rattle.tc_item.proofs.place.are_same_few.Goals as goal

pub returns-then-are_same_half : goal.returns-then-are_same_half
returns-then-are_same_half c =
    let xs = c.args.one.now in
    let ys = c.args.other.now in
    let back = bytes_eq (take 8 (drop 6 xs)) (take 8 (drop 6 ys)) in
    c.are_same_half-then-are_same_half.ensures
    ∙ (ap (λ b. b && back) (sym c.if-are_same_half.true ∙ c.are_same_half.ensures)
    ∙ (same_overlapping 6 2 8 xs ys (search rules) (search rules)
    ∙ filled_alike 14 c.args.one_length c.args.other_length xs ys c.if-one_length-other_length.false
    c.requires.one.1 c.requires.other.1))

pub returns-else-are_same_half : goal.returns-else-are_same_half
returns-else-are_same_half c =
    let xs = c.args.one.now in
    let ys = c.args.other.now in
    let back = bytes_eq (take 8 (drop 6 xs)) (take 8 (drop 6 ys)) in
    c.if-are_same_half.false
    ∙ (ap (λ b. b && back) (sym c.if-are_same_half.false ∙ c.are_same_half.ensures)
    ∙ (same_overlapping 6 2 8 xs ys (search rules) (search rules)
    ∙ filled_alike 14 c.args.one_length c.args.other_length xs ys c.if-one_length-other_length.false
    c.requires.one.1 c.requires.other.1))

pub returns-then-one_length-other_length : goal.returns-then-one_length-other_length
returns-then-one_length-other_length c =
    let one : length c.args.one.now ≡ 14 = search rules in
    let other : length c.args.other.now ≡ 14 = search rules in
    filled_otherwise 14 c.args.one_length c.args.other_length c.args.one.now c.args.other.now one other
    c.requires.one.0 c.requires.other.0 c.if-one_length-other_length.true
