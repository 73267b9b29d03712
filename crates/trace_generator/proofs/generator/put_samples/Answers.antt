use Rattle.trace_generator.proofs.Steps.{five_more, lines_more}
use Rattle.trace_generator.proofs.generator.put_samples.Goals as goal

pub loop-before-preserved : goal.loop-before-preserved
loop-before-preserved c = record {
  lines = lines_more c.loop-before.lines.items c.push.new.self.items c.put_records.new.lines.items c.sample.result _ c.args.seed c.loop-before.before c.loop-before.draws.state
      c.loop-before.invariant.lines c.loop-before.invariant.state c.sample.ensures.said c.in_ok-push.ensures.items c.in_ok-put_records.ensures;
  state = five_more c.args.seed c.loop-before.before c.loop-before.draws.state c.sample.new.self.state c.loop-before.invariant.state c.sample.ensures.state;
}
