use Rattle.tc_grammar.proofs.Rows.{each_line_spells_one_thing}
use Rattle.tc_grammar.proofs.spelling.each_line_spells_one_thing.Goals as goal

pub returns : goal.returns
returns c = each_line_spells_one_thing
