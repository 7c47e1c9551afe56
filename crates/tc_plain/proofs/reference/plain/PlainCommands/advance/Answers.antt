use Rattle.tc_plain.proofs.Stays.{sound_advance}
use Rattle.tc_plain.proofs.reference.plain.PlainCommands.advance.Goals as goal

pub invariant_of-self : goal.invariant_of-self
invariant_of-self c = rw c.advance.ensures.live (sound_advance _ c.args.now c.self.invariant)
