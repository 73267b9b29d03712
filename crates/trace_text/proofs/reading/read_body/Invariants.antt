use Rattle.std.proofs.Common.{◌≡◌, ◌+◌}
use Rattle.std.specs.Io.KnownBytes.{prepend_known}
use Rattle.trace_text.specs.State.{IsSound, frame_of, said_in_body}
use Rattle.trace_text.specs.Progress.{Went}
use Rattle.trace_text.proofs.reading.read_body.Given as goal

-- each turn reads one good line
abbrev pub invariant-loop : goal.invariant-loop
invariant-loop g l = record {
  sound : IsSound l.body;
  frame : frame_of l.body ≡ frame_of l.fn.body;
  went : Went (prepend_known l.fn.input.reader (g.S.Source.left l.fn.source)) (prepend_known l.input.reader (g.S.Source.left l.source)) (said_in_body l.fn.body) (said_in_body l.body) l.counter;
  number : l.input.number ≡ 1 + l.counter;
  first : IsSound l.fn.body;
  faults : g.S.Source.faults l.source ≡ g.S.Source.faults l.fn.source;
}
