use Rattle.tc_fresh.proofs.Empty.{fresh_caches-empty}
use Rattle.tc_fresh.proofs.fresh.fresh_caches.Goals as goal

pub returns-clause-empty : goal.returns-clause-empty
returns-clause-empty c = fresh_caches-empty c.args.users.now
