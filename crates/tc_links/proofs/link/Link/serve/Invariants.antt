use Rattle.std.proofs.Common.{[]}
use Rattle.tc_links.specs.Talks.{Talks}
use Rattle.tc_links.proofs.link.Link.serve.Given as goal

-- a call for each round at most
abbrev pub invariant-loop : goal.invariant-loop
invariant-loop g l = Talks l.counter l.service.users.now [] [] l.initial.self l.self l.initial.desk l.desk
