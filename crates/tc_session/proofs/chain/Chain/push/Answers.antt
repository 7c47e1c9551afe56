use Rattle.std.proofs.Common.{arith, List, [], ◌∷◌}
use Rattle.tc_session.specs.declared.chain.Piece.{Piece}
use Rattle.tc_session.proofs.Waiting.{reach-append, weight-append, data-append}
use Rattle.tc_session.proofs.chain.Chain.push.Goals as goal

pub invariant_of-self-2 : goal.invariant_of-self-2
invariant_of-self-2 c =
    let ps = c.self.inside.pieces.items in
    let p : Piece = record { before = c.args.before; blob = c.args.blob } in
    let qs : List Piece = p ∷ [] in
    rw c.in_ok-push_back.ensures.items (
      omega (arith, reach-append ps qs, c.in_ok-reach.ensures, c.self.invariant.0),
      omega (arith, weight-append ps qs, c.in_ok-weight.ensures, c.len.ensures, c.self.invariant.1),
      omega (arith, c.in_ok-weight.ensures),
      data-append ps qs c.self.invariant.3 (c.requires, tt),
    )
