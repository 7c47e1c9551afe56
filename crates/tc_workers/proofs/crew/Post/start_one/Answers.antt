use denote.Param.{param}
use denote.Param.Send.{IsSend, IsSync, param_send, arg_send, shr_send}
use denote.Exit.{no}
use mir.Syntax.{named}
use Rattle.tc_workers.proofs.Sent.{post_sync, worker_send, three_send}
use Rattle.tc_workers.proofs.crew.Post.start_one.Given as given
use Rattle.tc_workers.proofs.crew.Post.start_one.Lts as lts
use Rattle.tc_workers.proofs.crew.Post.start_one.Goals as goal

working_send : (g : given.Over) (κs : _) → IsSync (param 0 g.row.R) → IsSend (param 1 g.row.C) → IsSync (param 3 g.row.G)
    → IsSend (param 5 g.row.W) → IsSend (param 6 g.row.I)
    → IsSend (lts.arg-1-2 g.row.R g.row.C g.row.N g.row.G g.row.E g.row.W g.row.I g.R.laws g.C.laws g.N.laws g.G.laws
    g.E.laws g.W.laws g.I.laws g.R.Threads g.R.Threads-dict g.R.Wait g.R.Wait-dict g.C.Cache g.C.Cache-dict g.N.Naming
    g.N.Naming-dict g.G.Gate g.G.Gate-dict g.C.Destruct-dict g.W.Wire g.W.Wire-dict g.I.Inlet g.I.Inlet-dict
    g.W.Destruct-dict g.I.Destruct-dict κs)
working_send g κs r k q w i =
    arg_send _ no _ (three_send _ _ _ _
    (shr_send (named 6) κs.1.1.1.1.1.1.0 _
    (post_sync (record { mir = named 7; lft = κs.1.1.1.1.1.1.1.0 }) (param 0 g.row.R) (param 1 g.row.C) (param 2 g.row.N) (param 3 g.row.G)
    g.C.Cache g.N.Naming r k q))
    (worker_send (param 5 g.row.W) (param 2 g.row.N) g.W.Wire g.N.Naming w) i)

pub spawn_with-requires-send-F : goal.spawn_with-requires-send-F
spawn_with-requires-send-F g c κs within =
    param_send 2 _ (working_send g κs c.type_bounds.sync-R c.type_bounds.send-C c.type_bounds.sync-G c.type_bounds.send-W
    c.type_bounds.send-I)
