use Rattle.std.proofs.Common.{◌≡◌, length, sym, ◌∙◌, arith}
use Rattle.std.proofs.lemmas.Bool.Decides.{nat_tests}
use Rattle.tc_grammar.proofs.Parts.{tokens-empty}
use Rattle.tc_grammar.proofs.tokens.Tokens.is_at_end.Goals as goal

pub returns : goal.returns
returns c = λ end.
    let none : length c.self.inside.rest.now ≡ 0 = grind (arith, nat_tests, c.is_empty.ensures, end) in
    sym c.self.view_is ∙ tokens-empty c.self.inside.rest.now none
