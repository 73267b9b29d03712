-- Each turn reads one good line.
use Rattle.std.proofs.Common.{◌≡◌, ◌+◌, ◌≤◌, [], length}
use Rattle.std.specs.Io.KnownBytes.{prepend_known}
use Rattle.symbol_ranges.specs.declared.symbols.TheConstants.{MOST_LINES}
use Rattle.symbol_ranges.specs.Reading.{Went}
use Rattle.symbol_ranges.proofs.reading.read_symbols.Given as goal

abbrev pub invariant-loop-number : goal.invariant-loop-number
invariant-loop-number g l = record {
  went : Went (g.S.Source.left l.fn.source) (prepend_known l.reader (g.S.Source.left l.source)) [] l.symbols;
  number : l.number ≡ length l.symbols + 1;
  few : length l.symbols ≤ MOST_LINES;
  faults : g.S.Source.faults l.source ≡ g.S.Source.faults l.fn.source;
}
