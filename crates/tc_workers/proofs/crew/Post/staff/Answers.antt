use denote.Param.{param}
use denote.Param.Send.{IsSend, IsSync, param_send, arg_send, shr_send}
use denote.Exit.{no}
use mir.Syntax.{named}
use Rattle.tc_workers.proofs.Sent.{post_sync, keeper_send, three_send}
use Rattle.tc_workers.proofs.crew.Post.staff.Given as given
use Rattle.tc_workers.proofs.crew.Post.staff.Lts as lts
use Rattle.tc_workers.proofs.crew.Post.staff.Goals as goal

keeping_send : (g : given.Over) (κs : _) → IsSync (param 0 g.row.R) → IsSend (param 1 g.row.C) → IsSync (param 3 g.row.G)
    → IsSend (param 7 g.row.S)
    → IsSend (lts.arg-0-1 g.row.R g.row.C g.row.N g.row.G g.row.E g.row.W g.row.I g.row.S g.R.laws g.C.laws g.N.laws g.G.laws
    g.E.laws g.W.laws g.I.laws g.S.laws g.R.Threads g.R.Threads-dict g.R.Wait g.R.Wait-dict g.C.Cache g.C.Cache-dict g.N.Naming
    g.N.Naming-dict g.G.Gate g.G.Gate-dict g.C.Destruct-dict g.W.Wire g.W.Wire-dict g.I.Inlet g.I.Inlet-dict g.S.Source
    g.S.Source-dict g.W.Destruct-dict g.I.Destruct-dict g.S.Destruct-dict κs)
keeping_send g κs r k q s =
    arg_send _ no _ (three_send _ _ _ _
    (shr_send (named 5) κs.1.1.1.1.1.0 _
    (post_sync (record { mir = named 6; lft = κs.1.1.1.1.1.1.0 }) (param 0 g.row.R) (param 1 g.row.C) (param 2 g.row.N) (param 3 g.row.G)
    g.C.Cache g.N.Naming r k q))
    keeper_send s)

pub spawn-requires-send-F : goal.spawn-requires-send-F
spawn-requires-send-F g c κs within =
    param_send 1 _ (keeping_send g κs c.type_bounds.sync-R c.type_bounds.send-C c.type_bounds.sync-G c.type_bounds.send-S)
