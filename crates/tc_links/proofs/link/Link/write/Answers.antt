use Rattle.tc_links.proofs.Talking.{carries-both}
use Rattle.tc_links.proofs.link.Link.write.Goals as goal

pub returns-in-Wrote-eq0 : goal.returns-in-Wrote-eq0
returns-in-Wrote-eq0 g c = record { sends = carries-both c.loop.invariant c.put.ensures.sends }

pub returns-in-Later : goal.returns-in-Later
returns-in-Later g c = record { sends = carries-both c.loop.invariant c.put.ensures.sends }

pub returns-in-Failed : goal.returns-in-Failed
returns-in-Failed g c = record { sends = carries-both c.loop.invariant c.put.ensures.sends }

pub loop-preserved : goal.loop-preserved
loop-preserved g c = carries-both c.loop.invariant c.put.ensures.sends
