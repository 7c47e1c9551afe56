use Rattle.std.proofs.Common.{sym, ◌∙◌, ap, subst, arith}
use Rattle.tc_model.specs.Areas.{Areas}
use Rattle.tc_sketch.specs.Sketch.{Sketch}
use Rattle.tc_plain.specs.declared.shared.entry.Entry.{Entry}
use Rattle.tc_plain.specs.Soundness.{AreSound}
use Rattle.tc_plain.proofs.Sound.{sound_none}
use Rattle.tc_plain.proofs.Widths.{empty_width}
use Rattle.tc_plain.proofs.reference.plain.Plain.new.Goals as goal

pub invariant_of-result : goal.invariant_of-result
invariant_of-result c = record {
  least_budget = c.requires.least_budget;
  most_budget = c.requires.most_budget;
  least_largest = c.requires.least_largest;
  most_largest = c.requires.most_largest;
  limits = c.of.ensures;
  width = ap (λ (s : Sketch). s.width) c.in_ok-new.ensures ∙ empty_width c.width_of.result ∙ c.width_of.ensures.value;
  areas = subst (λ (a : Areas Entry). AreSound c.of.result a) (sym c.new.ensures) (sound_none c.of.result);
  last = omega arith;
}
