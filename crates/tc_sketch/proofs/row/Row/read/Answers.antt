use Rattle.std.proofs.Common.{ℕ, ◌<◌, List, length, sym, subst, arith}
use Rattle.tc_sketch.proofs.Packed.{word_within}
use Rattle.tc_sketch.proofs.row.Row.read.Goals as goal

pub index-requires : goal.index-requires
index-requires c =
    let h = subst (λ (row : List ℕ). c.args.place < length row) (sym c.self.view_is) c.requires in
    omega (arith, word_within c.self.inside.words.items c.args.place h, c.self.inside.words.ok.0)
