use Rattle.std.proofs.Common.{◌≡◌, ◌*◌, ◌++◌}
use Rattle.trace_generator.specs.Draws.{state_after}
use Rattle.trace_generator.specs.Generator.{samples_to}
use Rattle.trace_generator.specs.Making.{said_of}
use Rattle.trace_generator.proofs.generator.put_samples.Given as goal

abbrev pub invariant-loop-before : goal.invariant-loop-before
invariant-loop-before l = record {
  lines : said_of l.lines.items ≡ said_of l.initial.lines.items ++ samples_to l.seed l.before;
  state : l.draws.state ≡ state_after l.seed (5 * l.before);
}
