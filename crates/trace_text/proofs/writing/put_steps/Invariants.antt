use Rattle.std.proofs.Common.{◌≡◌, ◌++◌, map, drop}
use Rattle.text_num.specs.Lines.{text_of_lines}
use Rattle.trace_model.specs.Said.{line_text}
use Rattle.trace_model.specs.Recording.{step_said}
use Rattle.trace_text.proofs.writing.put_steps.Given as goal

abbrev pub invariant-loop-step : goal.invariant-loop-step
invariant-loop-step l = l.out.items ++ text_of_lines (map line_text (map step_said (drop l.step-index l.steps))) ≡ l.initial.out.items ++ text_of_lines (map line_text (map step_said l.steps))
