use Rattle.std.proofs.Common.{◌+◌, map}
use Rattle.tc_fresh.specs.Beginning.{fresh_cache}
use Rattle.tc_net.specs.Ends.{journal_of, page_length}
use Rattle.partcached.proofs.main.Given as goal

-- the hall over the table that was opened for these users, with a seat for each worker and one for the metrics
abbrev pub ghosts-serve : goal.ghosts-serve
ghosts-serve g a = record {
  table = a.beginning.opened;
  terms = record {
    begins = map fresh_cache a.beginning.settings.users;
    seats = a.beginning.settings.workers + 1;
    journal = page_length a.at_end a.beginning.settings.journal;
    keeps = journal_of a.at_end;
  };
}
