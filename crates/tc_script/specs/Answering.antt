-- What running a script from a reader to a writer does. Source: docs/PROTOCOL.md, 'Scripts'.
use Rattle.std.specs.Prelude.{◌≡◌, ℕ, List, ◌++◌, Option, ⊤}
use Rattle.std.specs.Io.KnownBytes.{Keeps, Appends}
use Rattle.tc_core.specs.Sending.{IsPromised}
use Rattle.tc_core.specs.declared.outputs.Output.{Output}
use Rattle.tc_script.specs.declared.running.Ended.{Ended}
use Rattle.tc_script.specs.declared.running.Ended.TheVariants.{Done, BadLine, NoMemory, Stream}
use Rattle.tc_script.specs.declared.script.ScriptFault.{ScriptFault}
use Rattle.tc_script.specs.declared.script.ScriptFault.TheVariants.{BadLine as BadLineFault, NoMemory as NoMemoryFault}
use Rattle.tc_script.specs.Plans.{Plan, Good, Bad, reading_of}
use Rattle.tc_script.specs.Playing.{plan_steps}
use Rattle.tc_script.specs.Printing.{printed}

-- the text is a script, and this is what its run prints: the text of outputs of which all is promised that a server promises
pub record IsPrintOf (text print : List ℕ) : Type 0 where
  pub plan : Plan
  pub outputs : List Output
  pub read : reading_of text ≡ Good plan
  pub promised : IsPromised plan.users (plan_steps plan) outputs
  pub is : print ≡ printed outputs

-- the text is a script, and what its run prints is written
pub record IsPlayed (text : List ℕ) (old new : Option (List ℕ)) : Type 0 where
  pub print : List ℕ
  pub is : IsPrintOf text print
  pub written : Appends old new print

-- of these bytes the front is written, and the rest is not
pub record IsWrittenTo (bytes rest : List ℕ) (old new : Option (List ℕ)) : Type 0 where
  pub front : List ℕ
  pub whole : bytes ≡ front ++ rest
  pub written : Appends old new front

-- a front of these bytes is written, and nothing else
pub record IsBegun (bytes : List ℕ) (old new : Option (List ℕ)) : Type 0 where
  pub rest : List ℕ
  pub written : IsWrittenTo bytes rest old new

-- reading failed, and nothing is written; or writing failed, the text is a script, and a front of what its run prints is written
pub data IsBroken (text : List ℕ) (old new : Option (List ℕ)) : Type 0 where
  Unread : Keeps old new → IsBroken text old new
  Unwritten : (print : List ℕ) → IsPrintOf text print → IsBegun print old new → IsBroken text old new

-- how the run of a text that is no script ends
abbrev pub ended_of : ScriptFault → Ended
ended_of (BadLineFault n) = BadLine n
ended_of NoMemoryFault = NoMemory

-- nothing was read to the end
abbrev pub IsUnread : Ended → Type 0
IsUnread Done = ⊥
IsUnread (BadLine n) = ⊥
IsUnread NoMemory = ⊤
IsUnread Stream = ⊤

-- how a run that read this text ends, by what the writer holds before and after it
abbrev pub IsEndOf : List ℕ → Option (List ℕ) → Option (List ℕ) → Ended → Type 0
IsEndOf text old new Done = IsPlayed text old new
IsEndOf text old new (BadLine n) = (reading_of text ≡ Bad n) × Keeps old new
IsEndOf text old new NoMemory = Keeps old new
IsEndOf text old new Stream = IsBroken text old new

-- nothing is written where a line or memory was refused, and what was written stands where a read or a write failed
abbrev pub IsUnwritten : Option (List ℕ) → Option (List ℕ) → Ended → Type 0
IsUnwritten old new Done = ⊤
IsUnwritten old new (BadLine n) = Keeps old new
IsUnwritten old new NoMemory = Keeps old new
IsUnwritten old new Stream = (bytes : List ℕ) × Appends old new bytes
