use Rattle.std.proofs.Common.{map}
use Rattle.tc_fresh.specs.Beginning.{fresh_cache}
use Rattle.test_server.proofs.stage.play_once.Given as goal

-- the hall over the table that was opened for these users
abbrev pub ghosts-perform_on : goal.ghosts-perform_on
ghosts-perform_on g a = record {
  table = a.beginning.opened;
  terms = record { begins = map fresh_cache a.beginning.users; seats = a.seats; journal = a.journal; keeps = a.keeps };
}
