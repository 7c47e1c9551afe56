use mir.Syntax.{Sym}
use denote.RattleType.{RattleType}
use denote.Param.{param}
use denote.Param.Send.{IsSend, IsSync, param_sync, arg_sync, shr_sync}
use denote.Param.SendFields.{declared_sync, as_row_sync}
use denote.Exit.{no}
use denote.Struct.Field.{row_field}
use denote.Struct.Tuple.{TupleAt, type_at}
use Rattle.std.proofs.Common.{[], ◌∷◌}
use Rattle.std.proofs.Crossing.{sync as heap_sync}
use Rattle.tc_locked.proofs.Sent.{hall_sync}
use Rattle.test_server.proofs.hall.crowd.do_all.Given as given
use Rattle.test_server.proofs.hall.crowd.do_all.Lts as lts
use Rattle.test_server.proofs.hall.crowd.do_all.Goals as goal

-- threads may share what a closure of three captures holds
three_sync : (ν : Sym) (A B C : RattleType) → IsSync A → IsSync B → IsSync C → IsSync (TupleAt ν (A ∷ B ∷ C ∷ []))
three_sync ν A B C a b c =
    declared_sync (type_at ν (A ∷ B ∷ C ∷ []))
    (as_row_sync (row_field A) a, (as_row_sync (row_field B) b, (as_row_sync (row_field C) c, tt)))

doing_sync : (g : given.Over) (κs : _) → IsSync (param 2 g.row.R) → IsSend (param 0 g.row.C)
    → IsSync (lts.arg-0-4 g.row.C g.row.N g.row.R g.C.laws g.N.laws g.R.laws g.C.Cache g.C.Cache-dict g.N.Naming
    g.N.Naming-dict g.R.Threads g.R.Threads-dict g.R.Wait g.R.Wait-dict g.R.Abort g.R.Abort-dict g.C.Destruct-dict κs)
doing_sync g κs r k =
    arg_sync _ no _ (three_sync _ _ _ _ (shr_sync _ _ _ r) (shr_sync _ _ _ heap_sync)
    (shr_sync _ _ _ (hall_sync (param 0 g.row.C) (param 1 g.row.N) g.C.Cache g.N.Naming k)))

pub map_vec-requires-sync-F : goal.map_vec-requires-sync-F
map_vec-requires-sync-F g c κs within = param_sync 4 _ (doing_sync g κs c.type_bounds.sync-R c.type_bounds.send-C)
