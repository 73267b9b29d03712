-- A line is read and added, or refused at its number.
use Rattle.std.proofs.Common.{sym, ap, ◌∙◌, length}
use Rattle.std.specs.Io.KnownBytes.{prepend_known}
use Rattle.std.proofs.lemmas.Bool.{eqb-false}
use Rattle.symbol_ranges.proofs.Walking.{stepped, halted, stops_long, stops_unfinished}
use Rattle.symbol_ranges.proofs.reading.step.Goals as goal

pub returns-in-Ok-clause-steps : goal.returns-in-Ok-clause-steps
returns-in-Ok-clause-steps g c = stepped (prepend_known c.args.reader.now (g.S.Source.left c.args.source.now)) (prepend_known c.read_line.new.self (g.S.Source.left c.read_line.new.source)) c.read_line.new.line.items c.deref.result.now c.args.symbols.now c.add_line.new.self
    c.deref.ensures.value (rw c.in-Finished.is at c.in_ok-ending.ensures.line) c.in-Ok.ensures.added

pub returns-in-Err-clause-stops : goal.returns-in-Err-clause-stops
returns-in-Err-clause-stops g c = halted (prepend_known c.args.reader.now (g.S.Source.left c.args.source.now)) (prepend_known c.read_line.new.self (g.S.Source.left c.read_line.new.source)) c.read_line.new.line.items c.deref.result.now c.args.symbols.now c.args.number c.in-Err.error c.refused.result
    c.deref.ensures.value c.requires.number (rw c.in-Finished.is at c.in_ok-ending.ensures.line) c.in-Err.ensures.refused c.refused.ensures

pub returns-else-is_empty-clause-stops : goal.returns-else-is_empty-clause-stops
returns-else-is_empty-clause-stops g c = stops_unfinished (prepend_known c.args.reader.now (g.S.Source.left c.args.source.now)) (prepend_known c.read_line.new.self (g.S.Source.left c.read_line.new.source)) c.read_line.new.line.items c.args.symbols.now c.args.number c.bad.result
    c.bad.ensures c.requires.number (λ e. eqb-false _ 0 (sym c.is_empty.ensures ∙ c.if-is_empty.false) (c.read_line.new.line.ok.0 ∙ ap length e)) (rw c.in-Unfinished.is at c.in_ok-ending.ensures.line)

pub returns-in-TooLong-clause-stops : goal.returns-in-TooLong-clause-stops
returns-in-TooLong-clause-stops g c = stops_long (prepend_known c.args.reader.now (g.S.Source.left c.args.source.now)) (prepend_known c.read_line.new.self (g.S.Source.left c.read_line.new.source)) c.read_line.new.line.items c.args.symbols.now c.args.number c.bad-in-TooLong.result
    c.bad-in-TooLong.ensures c.requires.number (rw c.in-TooLong.is at c.in_ok-ending.ensures.line)
