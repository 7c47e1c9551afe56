use Rattle.std.proofs.Common.{◌≡◌, ◌+◌, ◌<◌, MatchOption, subst, arith}
use Rattle.std.proofs.lemmas.Grind.{common_steps}
use Rattle.tc_fairness.specs.declared.half_blocks.Parts.{Parts}
use Rattle.tc_fairness.specs.HalfBlocks.{lead_seconds, parts_of}
use Rattle.tc_fairness.proofs.half_blocks.HalfBlocks.reads.Goals as goal

pub returns-in-Some-clause-gives_way : goal.returns-in-Some-clause-gives_way
returns-in-Some-clause-gives_way c = λ other e.
    let same : c.in-Some.parts.now ≡ parts_of c.args.self.now.users.items c.args.part.user = grind (arith, common_steps) in
    subst (λ (p : Parts). MatchOption p.lead ⊥ (λ lead. (lead.key ≡ other) × (lead.heard + lead_seconds < c.args.now))) same
    (c.reads.ensures.gives_way other e)
