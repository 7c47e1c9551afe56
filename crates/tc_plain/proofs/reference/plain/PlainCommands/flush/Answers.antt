use Rattle.std.proofs.Common.{true}
use Rattle.tc_grammar.specs.declared.command.Command.TheVariants.{Flush}
use Rattle.tc_plain.specs.UserCache.{UserCache, advance}
use Rattle.tc_plain.specs.AreaLists.{live_of}
use Rattle.tc_plain.proofs.Stays.{sound_advance, sound_done}
use Rattle.tc_plain.proofs.reference.plain.PlainCommands.flush.Goals as goal

pub invariant_of-self : goal.invariant_of-self
invariant_of-self c =
    let i = c.self.inside in
    let k : UserCache = record {
      budget = i.budget;
      largest = i.largest;
      live = live_of i.live;
      last = i.last;
      counters = i.counters;
    } in
    rw (c.flush.ensures, c.advance.ensures.live)
    (sound_done (advance k c.args.now) (Flush c.args.delay true) tt (sound_advance k c.args.now c.self.invariant))
