use Rattle.std.proofs.Common.{refl}
use Rattle.std.proofs.lemmas.Result.{on_err_weaker}
use Rattle.tc_core.proofs.server.Server.connection_step.Goals as goal

pub returns-clause-refused : goal.returns-clause-refused
returns-clause-refused g c =
    on_err_weaker c.numbered_step.result (λ h. rw (← c.self.view_is) (record { users = refl; clock = refl; on = h }))
    c.numbered_step.ensures.refused
