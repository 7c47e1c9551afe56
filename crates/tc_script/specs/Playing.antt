-- The steps of a script, and what its connections are sent. Source: docs/PROTOCOL.md, 'Scripts'.
use Rattle.std.specs.Prelude.{List, [], ◌∷◌, map, replicate}
use Rattle.std.specs.List.{flat_map}
use Rattle.tc_model.specs.Connection.{Open, Piece, Act, Shut}
use Rattle.tc_model.specs.Server.{Step, On, Tick, Maintain, run}
use Rattle.tc_core.specs.declared.outputs.Output.{Output}
use Rattle.tc_core.specs.Sending.{output_of}
use Rattle.tc_core.specs.ServerMachine.{server_machine}
use Rattle.tc_script.specs.declared.action.Action.{Action}
use Rattle.tc_script.specs.declared.action.Action.TheVariants.{Open as OpenAction, Piece as PieceAction, Fill as FillAction}
use Rattle.tc_script.specs.declared.action.Action.TheVariants.{Act as ActAction, Shut as ShutAction, Tick as TickAction}
use Rattle.tc_script.specs.declared.action.Action.TheVariants.{Keep as KeepAction}
use Rattle.tc_script.specs.Plans.{Plan}

-- the steps of the server that an action is
abbrev pub steps_of : Action → List Step
steps_of (OpenAction c) = On c Open ∷ []
steps_of (PieceAction c bytes) = On c (Piece bytes) ∷ []
steps_of (FillAction c count byte) = On c (Piece (replicate count byte)) ∷ []
steps_of (ActAction c count) = replicate count (On c Act)
steps_of (ShutAction c) = On c Shut ∷ []
steps_of (TickAction moment) = Tick moment ∷ []
steps_of (KeepAction user limit) = Maintain user limit ∷ []

-- all steps of a plan
abbrev pub plan_steps : Plan → List Step
plan_steps p = flat_map steps_of p.actions

-- what connections are sent: what the server's machine sends them on the plan's steps, by rising number
abbrev pub outputs_for : Plan → List Output
outputs_for p = map output_of (run server_machine p.users (plan_steps p)).world.connections
