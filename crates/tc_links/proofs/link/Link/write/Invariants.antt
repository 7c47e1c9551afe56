use Rattle.std.proofs.Common.{ℕ, List, []}
use Rattle.tc_links.specs.Talks.{Carries}
use Rattle.tc_links.proofs.link.Link.write.Given as goal

-- the wire took the front of what waited
abbrev pub invariant-loop : goal.invariant-loop
invariant-loop g l = (sent : List ℕ) × Carries sent [] l.initial.self l.self
