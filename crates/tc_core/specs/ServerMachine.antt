-- The server's machine: the protocol over the cache of a user. Source: this project's own.
use Rattle.std.specs.Prelude.{List}
use Rattle.tc_model.specs.Server.{Machine, World}
use Rattle.tc_grammar.specs.declared.command.Command.{Command}
use Rattle.tc_stats.specs.declared.outcome.Outcome.{Outcome}
use Rattle.tc_users.specs.declared.users.UserSpec.{UserSpec}
use Rattle.tc_plain.specs.Laws.{user_caching}
use Rattle.tc_session.specs.TextProtocol.{text_protocol}
use Rattle.tc_fresh.specs.Beginning.{fresh_cache}

-- the server's machine
abbrev pub server_machine : Machine
server_machine = record {
  Command = Command;
  Outcome = Outcome;
  protocol = text_protocol;
  cache = user_caching;
  fresh = fresh_cache;
}

-- a server: the users' table and the machine's state
pub record State : Type 0 where
  pub users : List UserSpec
  pub world : World server_machine
