use Rattle.std.specs.Prelude.{map}
use Rattle.std.specs.Map.Iter.{deref_pair}
use Rattle.std.proofs.Common.{◌≡◌, ◌∙◌, ap, rules}
use Rattle.std.proofs.lemmas.Map.Iter.{iter_end}
use Rattle.tc_core.specs.Steps.{numbered_of}
use Rattle.tc_core.specs.Sending.{output_of}
use Rattle.tc_core.proofs.outputs.outputs_of.Goals as goal

pub returns : goal.returns
returns c =
    let e : map deref_pair c.loop-number.yielded ≡ c.args.sessions.now.entries = search (rules, iter_end) in
    c.new.ensures ∙ (c.loop-number.invariant ∙ ap (λ es. map output_of (map numbered_of es)) e)
