use Rattle.std.proofs.Common.{◌∙◌, length}
use Rattle.std.proofs.lemmas.Bool.{ne_eqb}
use Rattle.tc_grammar.proofs.Parts.{key_whole, key_cut}
use Rattle.tc_grammar.proofs.tokens.is_key_run.Goals as goal

pub returns-then-run-token : goal.returns-then-run-token
returns-then-run-token c = key_whole c.args.token.now c.args.run c.requires.some c.requires.run c.if-run-token.true

pub returns-else-run-token : goal.returns-else-run-token
returns-else-run-token c =
    ne_eqb c.args.run (length c.args.token.now) c.if-run-token.false
    ∙ key_cut c.args.token.now c.args.run c.requires.run c.if-run-token.false
