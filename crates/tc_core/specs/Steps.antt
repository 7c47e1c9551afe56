-- Steps and connections as the machine has them. Source: this project's own.
use Rattle.std.specs.Prelude.{ℕ}
use Rattle.tc_model.specs.Connection.{Happening, Open, Piece, Act, Shut}
use Rattle.tc_model.specs.Server.{Connection, Step, On, Tick, Maintain}
use Rattle.tc_session.specs.SessionView.{SessionView}
use Rattle.tc_core.specs.declared.step.Step.{Step as StepCode}
use Rattle.tc_core.specs.declared.step.Step.TheVariants.{On as OnStep, Tick as TickStep, Maintain as MaintainStep}
use Rattle.tc_core.specs.declared.step.Happening.{Happening as HappeningCode}
use Rattle.tc_core.specs.declared.step.Happening.TheVariants.{Open as IsOpen, Piece as IsPiece, Act as IsAct, Shut as IsShut}
use Rattle.tc_core.specs.ServerMachine.{server_machine}

-- what comes to a connection
abbrev pub happening_of : HappeningCode → Happening
happening_of IsOpen = Open
happening_of (IsPiece bytes) = Piece bytes.now
happening_of IsAct = Act
happening_of IsShut = Shut

-- a step of the machine
abbrev pub step_of : StepCode → Step
step_of (OnStep c x) = On c (happening_of x)
step_of (TickStep moment) = Tick moment
step_of (MaintainStep user limit) = Maintain user limit

-- a session, as the machine's connection
abbrev pub connection_of : SessionView → Connection server_machine
connection_of s = record { endpoint = s.endpoint; out = s.out }

-- a session under its number
abbrev pub numbered_of : ℕ × SessionView → ℕ × Connection server_machine
numbered_of e = (e.0, connection_of e.1)
