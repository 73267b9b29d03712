use Rattle.std.proofs.Common.{sym, ap, refl, ◌∙◌, [], arith}
use Rattle.std.specs.Io.KnownBytes.{prepend_known}
use Rattle.trace_text.specs.Judging.{size_shown}
use Rattle.trace_text.proofs.Walking.{went_line, stops_finished, stops_stopped, stops_long}
use Rattle.trace_text.proofs.Phasing.{halted_at, within_at}
use Rattle.std.proofs.Common.{◌∷◌}
use Rattle.trace_model.specs.Grammar.{verdict}
use Rattle.trace_text.proofs.reading.read_header.Goals as goal

pub returns-in-Ok-clause-went : goal.returns-in-Ok-clause-went
returns-in-Ok-clause-went g c = went_line (prepend_known c.args.input.now.reader (g.S.Source.left c.args.source.now)) (prepend_known c.next.new.self.reader (g.S.Source.left c.next.new.source)) c.next.new.self.line.items [] (size_shown c.in-Ok.sizes ∷ []) (size_shown c.in-Ok.sizes) (rw c.in-Finished.is at c.in_ok-ending.ensures.line) (ap (verdict []) (sym c.deref.ensures.value) ∙ c.in-Ok.ensures.judged) refl

pub returns-in-Err-clause-stops : goal.returns-in-Err-clause-stops
returns-in-Err-clause-stops g c = halted_at (prepend_known c.args.input.now.reader (g.S.Source.left c.args.source.now)) [] 0 c.next.new.self.number c.in-Err.why c.bad.result c.bad.ensures
    (stops_finished (prepend_known c.args.input.now.reader (g.S.Source.left c.args.source.now)) (prepend_known c.next.new.self.reader (g.S.Source.left c.next.new.source)) c.next.new.self.line.items [] 0 c.next.new.self.number c.in-Err.why (omega (arith, c.requires, c.in_ok-ending.ensures.number)) (rw c.in-Finished.is at c.in_ok-ending.ensures.line) (ap (verdict []) (sym c.deref.ensures.value) ∙ c.in-Err.ensures.judged))

pub returns-in-Unfinished-clause-stops : goal.returns-in-Unfinished-clause-stops
returns-in-Unfinished-clause-stops g c = halted_at (prepend_known c.args.input.now.reader (g.S.Source.left c.args.source.now)) [] 0 c.next.new.self.number _ c.bad-in-Unfinished.result c.bad-in-Unfinished.ensures
    (stops_stopped (prepend_known c.args.input.now.reader (g.S.Source.left c.args.source.now)) (prepend_known c.next.new.self.reader (g.S.Source.left c.next.new.source)) c.next.new.self.line.items [] 0 c.next.new.self.number (omega (arith, c.requires, c.in_ok-ending.ensures.number)) (rw c.in-Unfinished.is at c.in_ok-ending.ensures.line) refl)

pub returns-in-TooLong-clause-stops : goal.returns-in-TooLong-clause-stops
returns-in-TooLong-clause-stops g c = halted_at (prepend_known c.args.input.now.reader (g.S.Source.left c.args.source.now)) [] 0 c.next.new.self.number _ c.bad-in-TooLong.result c.bad-in-TooLong.ensures
    (stops_long (prepend_known c.args.input.now.reader (g.S.Source.left c.args.source.now)) (prepend_known c.next.new.self.reader (g.S.Source.left c.next.new.source)) c.next.new.self.line.items [] 0 c.next.new.self.number _ (omega (arith, c.requires, c.in_ok-ending.ensures.number)) (rw c.in-TooLong.is at c.in_ok-ending.ensures.line) refl)

pub returns-in-Err-clause-within : goal.returns-in-Err-clause-within
returns-in-Err-clause-within g c = within_at (1) c.next.new.self.number _ c.bad.result c.bad.ensures (omega (arith, c.requires, c.in_ok-ending.ensures.number))

pub returns-in-Unfinished-clause-within : goal.returns-in-Unfinished-clause-within
returns-in-Unfinished-clause-within g c = within_at (1) c.next.new.self.number _ c.bad-in-Unfinished.result c.bad-in-Unfinished.ensures (omega (arith, c.requires, c.in_ok-ending.ensures.number))

pub returns-in-TooLong-clause-within : goal.returns-in-TooLong-clause-within
returns-in-TooLong-clause-within g c = within_at (1) c.next.new.self.number _ c.bad-in-TooLong.result c.bad-in-TooLong.ensures (omega (arith, c.requires, c.in_ok-ending.ensures.number))
