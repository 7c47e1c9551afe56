-- Whether a line is taken, and why a text is no script. Source: this project's own.
use Rattle.std.specs.Prelude.{◌≡◌, Bool, true, false, Option, Some, None, ⊤}
use Rattle.tc_script.specs.declared.script.ScriptFault.{ScriptFault}
use Rattle.tc_script.specs.declared.script.ScriptFault.TheVariants.{BadLine, NoMemory}
use Rattle.tc_script.specs.Plans.{Plan, Reading, Bad}

-- the plan after a line that is good; nothing for one that is not
abbrev pub taken_as : Bool → Plan → Option Plan
taken_as true p = Some p
taken_as false p = None

-- why a text is no script: its first refused line, or want of memory
abbrev pub IsFaultOf : Reading → ScriptFault → Type 0
IsFaultOf reading (BadLine n) = reading ≡ Bad n
IsFaultOf reading NoMemory = ⊤
