-- What is said without a cache. Source: memcached's doc/protocol.txt, "Error strings" and "Authentication".
use Rattle.std.specs.Prelude.{ℕ, Bool, cond, List, [], ◌∷◌, ◌++◌}
use Rattle.tc_grammar.specs.declared.fault.Fault.{Fault}
use Rattle.tc_grammar.specs.Faults.{fault_text}

-- a carriage return and a line feed
abbrev pub line_end : List ℕ
line_end = 13 ∷ 10 ∷ []

-- a fault's line
abbrev pub fault_line : Fault → List ℕ
fault_line fault = fault_text fault ++ line_end

-- what is said unless the line has `noreply`
abbrev pub unless_quiet : Bool → List ℕ → List ℕ
unless_quiet quiet text = cond quiet [] text
