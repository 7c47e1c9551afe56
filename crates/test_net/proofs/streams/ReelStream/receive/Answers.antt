use Rattle.std.proofs.Common.{◌≡◌, ℕ, ◌++◌, List, length, take, drop, sym, ◌∙◌, ap, arith}
use Rattle.std.proofs.lemmas.Grind.{common_steps}
use Rattle.std.proofs.lemmas.List.{take_at}
use Rattle.std.proofs.Math.Seq.{take-add}
use Rattle.test_net.proofs.streams.ReelStream.receive.Goals as goal

pub returns-clause-gives : goal.returns-clause-gives
returns-clause-gives c =
    let t = c.args.self.now in
    let n : ℕ = c.min-n.result in
    let copied : List ℕ = c.copy_from_slice.new.self in
    let same : copied ≡ take n (drop t.at t.sends.items) = grind (arith, common_steps) in
    let whole : length copied ≡ n = grind (arith, common_steps) in
    take-add t.at n t.sends.items
    ∙ ap (λ xs. take t.at t.sends.items ++ xs) (sym same ∙ sym (take_at copied (drop n c.args.into.now) n whole))
