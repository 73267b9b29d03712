use Rattle.std.proofs.Common.{◌≡◌, ◌≤◌, length}
use Rattle.std.specs.Io.KnownBytes.{Consumes, prepend_known}
use Rattle.text_num.specs.Lines.{HasNoLineFeed}
use Rattle.line_reader.proofs.readers.LineReader.read_line.Given as goal

-- the bytes taken so far are the line so far, at least one for each turn
abbrev pub invariant-loop : goal.invariant-loop
invariant-loop g l = record {
  line : HasNoLineFeed l.line.items;
  least : l.counter ≤ length l.line.items;
  most : length l.line.items ≤ l.limit;
  taken : Consumes (prepend_known l.fn.self (g.S.Source.left l.fn.source)) (prepend_known l.self (g.S.Source.left l.source)) l.line.items;
  faults : g.S.Source.faults l.source ≡ g.S.Source.faults l.fn.source;
}
