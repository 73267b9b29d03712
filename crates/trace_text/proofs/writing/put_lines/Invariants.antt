use Rattle.std.proofs.Common.{◌≡◌, ◌++◌, map, drop, length, true}
use Rattle.std.specs.List.{list_all}
use Rattle.text_num.specs.Lines.{text_of_lines}
use Rattle.trace_model.specs.Said.{line_text}
use Rattle.trace_model.specs.Recording.{line_said}
use Rattle.trace_text.specs.State.{line_is_among}
use Rattle.trace_text.proofs.writing.put_lines.Given as goal

abbrev pub invariant-loop-line : goal.invariant-loop-line
invariant-loop-line l = record {
  text : l.out.items ++ text_of_lines (map line_text (map (line_said l.images) (drop l.line-index l.lines))) ≡ l.initial.out.items ++ text_of_lines (map line_text (map (line_said l.images) l.lines));
  among : list_all (line_is_among (length l.images)) (drop l.line-index l.lines) ≡ true;
}
