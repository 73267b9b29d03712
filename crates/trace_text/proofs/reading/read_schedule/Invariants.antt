use Rattle.std.proofs.Common.{◌≡◌, ◌+◌, [], length}
use Rattle.std.specs.Io.KnownBytes.{prepend_known}
use Rattle.trace_text.specs.State.{AreSteps, said_with_steps}
use Rattle.trace_text.specs.Progress.{Went}
use Rattle.trace_text.proofs.reading.read_schedule.Given as goal

-- each turn reads one good step
abbrev pub invariant-loop : goal.invariant-loop
invariant-loop g l = record {
  steps : AreSteps l.body l.steps.items;
  count : length l.steps.items ≡ l.counter;
  went : Went (prepend_known l.fn.input.reader (g.S.Source.left l.fn.source)) (prepend_known l.input.reader (g.S.Source.left l.source)) (said_with_steps l.body []) (said_with_steps l.body l.steps.items) l.counter;
  number : l.input.number ≡ l.fn.input.number + l.counter;
  faults : g.S.Source.faults l.source ≡ g.S.Source.faults l.fn.source;
}
