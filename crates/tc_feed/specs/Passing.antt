-- A request that is passed over without its keys and its block. Source: this project's own.
use Rattle.tc_grammar.specs.Outlines.{is_quiet}
use Rattle.tc_grammar.specs.declared.command.Command.{Command}
use Rattle.tc_grammar.specs.declared.command.Command.TheVariants.{Quit}
use Rattle.tc_feed.specs.declared.request.Request.{Request}
use Rattle.tc_feed.specs.declared.request.Request.TheVariants.{Ask, Refused}
use Rattle.tc_feed.specs.declared.request.Framed.{Framed}
use Rattle.tc_feed.specs.declared.passing.Passed.{Passed}
use Rattle.tc_feed.specs.declared.passing.Passed.TheVariants.{Command as Asks, Quit as Parts, Refused as Fails}
use Rattle.tc_feed.specs.declared.passing.Passing.{Passing}

-- what is known of a command that was passed over
abbrev pub passed_command : Command → Passed
passed_command Quit = Parts
passed_command command = Asks (is_quiet command)

-- what is known of a request that was passed over
abbrev pub passed_of : Request → Passed
passed_of (Ask command) = passed_command command
passed_of (Refused fault quiet) = Fails fault quiet

-- the same, with how many bytes it takes
abbrev pub passing_of : Framed → Passing
passing_of t = record { request = passed_of t.request; length = t.length; skip = t.skip }
