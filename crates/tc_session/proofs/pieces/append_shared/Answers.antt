use Rattle.std.proofs.Common.{◌≡◌, ◌≤◌, ◌++◌, ◌+◌, ◌-◌, ℕ, List, [], ◌∷◌, ap, arith, length, vec_len, drop, rules}
use Rattle.std.proofs.Common.{length-append, ◌∙◌}
use Rattle.tc_session.specs.Replies.{value_line, value_text}
use Rattle.tc_session.specs.Texts.{line_end}
use Rattle.tc_session.specs.declared.chain.Piece.{Piece}
use Rattle.tc_session.specs.Unsent.{joined, reach}
use Rattle.tc_session.proofs.Waiting.{shared_hit, reach-append}
use Rattle.tc_session.proofs.pieces.append_shared.Goals as goal

pub returns-clause-bytes : goal.returns-clause-bytes
unfolding value_text
returns-clause-bytes c =
    let own = c.args.to.now.items in
    let line = value_line c.args.form c.args.hit.now in
    let p : Piece = record { before = c.len-2.result - c.args.from - c.reach.result; blob = c.in_ok-data.data } in
    let lined = c.append_value_line.ensures.bytes ∙ ap (λ (l : List ℕ). l ++ line) c.reserve.ensures.items in
    let new : c.extend_from_slice.new.self.items ≡ (own ++ line) ++ line_end =
    c.in_ok-extend_from_slice.ensures.items ∙ ap (λ (l : List ℕ). l ++ line_end) lined in
    let old : vec_len c.args.to.now ≡ length own = search rules in
    let grown : vec_len c.append_value_line.new.to ≡ length c.append_value_line.new.to.items = search rules in
    let long : length c.append_value_line.new.to.items ≡ length (own ++ line) = ap length lined in
    let within : c.args.from + reach c.args.chain.now ≤ length own = omega (arith, c.requires.within) in
    let placed : c.args.from + reach c.args.chain.now + p.before ≡ length (own ++ line) =
    omega (arith, length-append own line, c.len-2.ensures, c.reach.ensures) in
    ap (joined (drop c.args.from c.extend_from_slice.new.self.items)) c.in_ok-push.ensures.pushed
    ∙ (shared_hit c.args.from own line line_end c.extend_from_slice.new.self.items c.args.chain.now p within new placed
    ∙ ap (λ (b : List ℕ). joined (drop c.args.from own) c.args.chain.now ++ (line ++ (b ++ line_end))) c.in_ok-data.ensures)

pub returns-clause-within : goal.returns-clause-within
returns-clause-within c =
    let own = c.args.to.now.items in
    let line = value_line c.args.form c.args.hit.now in
    let p : Piece = record { before = c.len-2.result - c.args.from - c.reach.result; blob = c.in_ok-data.data } in
    let lined = c.append_value_line.ensures.bytes ∙ ap (λ (l : List ℕ). l ++ line) c.reserve.ensures.items in
    let old : vec_len c.args.to.now ≡ length own = search rules in
    let grown : vec_len c.append_value_line.new.to ≡ length c.append_value_line.new.to.items = search rules in
    let long : length c.append_value_line.new.to.items ≡ length (own ++ line) = ap length lined in
    let reached = ap reach c.in_ok-push.ensures.pushed ∙ reach-append c.args.chain.now (p ∷ []) in
    omega (
      arith,
      reached,
      length-append own line,
      c.requires.within,
      c.len-2.ensures,
      c.reach.ensures,
      c.in_ok-extend_from_slice.ensures.len,
    )
