-- The calls that a hall refused. Source: this project's own.
use Rattle.std.specs.Prelude.{ℕ}
use Rattle.tc_grammar.specs.declared.command.Command.{Command}
use Rattle.tc_locked.specs.declared.call_fault.CallFault.{CallFault}
use Rattle.tc_locked.specs.declared.refusals.Refused.{Refused}

-- a refused call: whose, on which connection and why, and its command
abbrev pub Refusal : Type 0
Refusal = Refused × Command

-- the refused call of these
abbrev pub refusal : ℕ → ℕ → CallFault → Command → Refusal
refusal user conn fault command = (record { user = user; conn = conn; fault = fault }, command)
