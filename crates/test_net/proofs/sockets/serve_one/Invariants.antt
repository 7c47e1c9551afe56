use Rattle.std.proofs.Common.{map}
use Rattle.tc_fresh.specs.Beginning.{fresh_cache}
use Rattle.test_net.proofs.sockets.serve_one.Given as goal

-- the hall over the table that was opened, with a fresh cache for each user
abbrev pub ghosts-serve_in : goal.ghosts-serve_in
ghosts-serve_in g a = record {
  table = a.opened;
  terms = record { begins = map fresh_cache a.users.now; seats = 1; journal = 16; keeps = a.keeps };
}
