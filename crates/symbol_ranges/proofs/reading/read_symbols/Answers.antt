-- The lines that were read are the list, or lead to the first bad one.
use Rattle.std.proofs.Common.{◌∙◌, [], arith}
use Rattle.std.specs.Io.KnownBytes.{prepend_known}
use Rattle.std.proofs.lemmas.Result.{err_from_is_err_and}
use Rattle.line_reader.proofs.Fronts.{nothing_left}
use Rattle.symbol_ranges.proofs.Walking.{first_bad, reads_all, went_on, within}
use Rattle.symbol_ranges.proofs.reading.read_symbols.Goals as goal

pub returns-in_err-more-clause-bad : goal.returns-in_err-more-clause-bad
returns-in_err-more-clause-bad g c = let p = err_from_is_err_and c.from_residual-in_err-more.result c.from_residual-in_err-more.ensures.1 in
    rw (p.1, p.2) (first_bad (g.S.Source.left c.args.source.now) (prepend_known c.loop-number.reader (g.S.Source.left c.loop-number.source)) c.loop-number.symbols c.in_err-more.field-0.0 c.loop-number.invariant.went c.in_err-more.ensures.stops)

pub returns-in-false-clause-reads : goal.returns-in-false-clause-reads
returns-in-false-clause-reads g c = reads_all (g.S.Source.left c.args.source.now) (prepend_known c.loop-number.reader (g.S.Source.left c.loop-number.source)) (prepend_known c.step.new.reader (g.S.Source.left c.step.new.source)) c.loop-number.symbols c.step.new.symbols c.loop-number.invariant.went (rw c.in-false.is at c.in_ok-more.ensures.steps)

pub returns-in-false-clause-whole : goal.returns-in-false-clause-whole
returns-in-false-clause-whole g c = let s = rw c.in-false.is at c.in_ok-more.ensures.steps in nothing_left (g.S.Source.left c.step.new.source) c.step.new.reader s.2

pub loop-number-preserved : goal.loop-number-preserved
loop-number-preserved g c = let s = rw c.in-true.is at c.in_ok-more.ensures.steps in record {
  went = went_on (g.S.Source.left c.args.source.now) (prepend_known c.loop-number.reader (g.S.Source.left c.loop-number.source)) (prepend_known c.step.new.reader (g.S.Source.left c.step.new.source)) [] c.loop-number.symbols c.step.new.symbols c.loop-number.invariant.went s.0;
  number = omega (arith, s.1, c.loop-number.invariant.number);
  few = c.in_ok-more.ensures.few;
  faults = c.in_ok-more.ensures.faults ∙ c.loop-number.invariant.faults;
}

pub returns-in_err-more-clause-within : goal.returns-in_err-more-clause-within
returns-in_err-more-clause-within g c = let p = err_from_is_err_and c.from_residual-in_err-more.result c.from_residual-in_err-more.ensures.1 in
    rw (p.1, p.2) (within (prepend_known c.loop-number.reader (g.S.Source.left c.loop-number.source)) c.loop-number.symbols c.in_err-more.field-0.0 c.loop-number.invariant.few c.in_err-more.ensures.stops)
