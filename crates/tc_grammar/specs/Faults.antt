-- The faults, their numbers and their texts. Source: memcached's doc/protocol.txt, 'Error
-- strings'; the texts behind the first words are this project's own.
use Rattle.std.specs.Prelude.{ℕ, List, codes}
use Rattle.tc_grammar.specs.declared.fault.Fault.{Fault}
use Rattle.tc_grammar.specs.declared.fault.Fault.TheVariants.{UnknownCommand, BadFormat, BadChunk, LineTooLong, TooLarge}
use Rattle.tc_grammar.specs.declared.fault.Fault.TheVariants.{NoMemory, NotNumeric, BadDelta, Unauthenticated}
use Rattle.tc_grammar.specs.declared.fault.Fault.TheVariants.{AuthenticationFailure, CasWorn}

-- the number of a fault, from 1
abbrev pub fault_number : Fault → ℕ
fault_number UnknownCommand = 1
fault_number BadFormat = 2
fault_number BadChunk = 3
fault_number LineTooLong = 4
fault_number TooLarge = 5
fault_number NoMemory = 6
fault_number NotNumeric = 7
fault_number BadDelta = 8
fault_number Unauthenticated = 9
fault_number AuthenticationFailure = 10
fault_number CasWorn = 11

-- what a fault is answered with, without the line end
abbrev pub fault_text : Fault → List ℕ
fault_text UnknownCommand = codes "ERROR"
fault_text BadFormat = codes "CLIENT_ERROR bad command line format"
fault_text BadChunk = codes "CLIENT_ERROR bad data chunk"
fault_text LineTooLong = codes "CLIENT_ERROR line too long"
fault_text TooLarge = codes "SERVER_ERROR object too large for cache"
fault_text NoMemory = codes "SERVER_ERROR out of memory"
fault_text NotNumeric = codes "CLIENT_ERROR cannot increment or decrement non-numeric value"
fault_text BadDelta = codes "CLIENT_ERROR invalid numeric delta argument"
fault_text Unauthenticated = codes "CLIENT_ERROR unauthenticated"
fault_text AuthenticationFailure = codes "CLIENT_ERROR authentication failure"
fault_text CasWorn = codes "SERVER_ERROR cas numbers exhausted"
