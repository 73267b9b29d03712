use Rattle.trace_cut.proofs.Taking.{no_samples_more}
use Rattle.trace_cut.proofs.streams.no_samples.Goals as goal

pub loop-preserved : goal.loop-preserved
loop-preserved c = no_samples_more c.loop.lanes.items c.push.new.self.items c.new.result c.loop.counter c.in_ok-push.ensures.items c.new.ensures.items c.loop.invariant
