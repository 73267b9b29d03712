use Rattle.std.proofs.Common.{◌∷◌, ◌++◌, sym, ap, refl, subst, ◌∙◌, ◌+◌, [], arith}
use Rattle.std.specs.Io.KnownBytes.{prepend_known}
use Rattle.trace_text.specs.State.{frame_of, said_in_body}
use Rattle.std.proofs.lemmas.Result.{err_from_is_err_and}
use Rattle.trace_text.proofs.Walking.{went_on, went_length}
use Rattle.trace_text.proofs.Phasing.{halts_on, body_bound, within_more}
use Rattle.trace_model.specs.Said.{Ended}
use Rattle.trace_text.specs.declared.body.Body.{Body}
use Rattle.trace_text.specs.declared.reading.TheConstants.{MOST_BODY_LINES}
use Rattle.trace_text.specs.Progress.{Went}
use Rattle.trace_text.proofs.reading.read_body.Goals as goal

pub returns-in_err-taken-clause-stops : goal.returns-in_err-taken-clause-stops
returns-in_err-taken-clause-stops g c = let p = err_from_is_err_and c.from_residual.result c.from_residual.ensures.1 in
    rw (p.1, p.2) (halts_on (prepend_known c.args.input.now.reader (g.S.Source.left c.args.source.now)) (prepend_known c.loop.input.reader (g.S.Source.left c.loop.source)) (said_in_body c.args.body.now) (said_in_body c.loop.body) c.loop.counter 1 c.loop.input.number c.in_err-taken.field-0.0 c.loop.invariant.went c.loop.invariant.number c.in_err-taken.ensures.stops)

pub unreachable-requires : goal.unreachable-requires
unreachable-requires g c = omega (arith, body_bound c.loop.body c.loop.invariant.sound, went_length (prepend_known c.args.input.now.reader (g.S.Source.left c.args.source.now)) (prepend_known c.loop.input.reader (g.S.Source.left c.loop.source)) (said_in_body c.args.body.now) (said_in_body c.loop.body) c.loop.counter c.loop.invariant.went, c.loop-test.false)

pub returns-in-End-clause-went : goal.returns-in-End-clause-went
returns-in-End-clause-went g c = let t = rw c.in-End.is at c.in_ok-taken.ensures.taken in (
  c.loop.counter + 1,
  omega (arith, c.loop-test.true),
  went_on (prepend_known c.args.input.now.reader (g.S.Source.left c.args.source.now)) (prepend_known c.loop.input.reader (g.S.Source.left c.loop.source)) (prepend_known c.step_body.new.input.reader (g.S.Source.left c.step_body.new.source)) (said_in_body c.args.body.now) (said_in_body c.loop.body) (said_in_body c.step_body.new.body ++ Ended ∷ []) c.loop.counter 1 (c.loop.counter + 1) c.loop.invariant.went
      (subst (λ (b : Body). Went (prepend_known c.loop.input.reader (g.S.Source.left c.loop.source)) (prepend_known c.step_body.new.input.reader (g.S.Source.left c.step_body.new.source)) (said_in_body c.loop.body) (said_in_body b ++ Ended ∷ []) 1) (sym t.0) t.1) refl,
  omega (arith, c.in_ok-taken.ensures.number, c.loop.invariant.number),
)

pub loop-preserved : goal.loop-preserved
loop-preserved g c = let t = rw c.in-Line.is at c.in_ok-taken.ensures.taken in record {
  sound = t.0;
  frame = t.1 ∙ c.loop.invariant.frame;
  went = went_on (prepend_known c.args.input.now.reader (g.S.Source.left c.args.source.now)) (prepend_known c.loop.input.reader (g.S.Source.left c.loop.source)) (prepend_known c.step_body.new.input.reader (g.S.Source.left c.step_body.new.source)) (said_in_body c.args.body.now) (said_in_body c.loop.body) (said_in_body c.step_body.new.body) c.loop.counter 1 (c.loop.counter + 1) c.loop.invariant.went t.2 refl;
  number = omega (arith, c.in_ok-taken.ensures.number, c.loop.invariant.number);
  first = c.loop.invariant.first;
  faults = c.in_ok-taken.ensures.faults ∙ c.loop.invariant.faults;
}

pub returns-in_err-taken-clause-within : goal.returns-in_err-taken-clause-within
returns-in_err-taken-clause-within g c = let p = err_from_is_err_and c.from_residual.result c.from_residual.ensures.1 in
    rw (p.1, p.2) (within_more (c.loop.input.number + 1) (1 + MOST_BODY_LINES) c.in_err-taken.field-0.0 (omega (arith, c.loop.invariant.number, c.loop-test.true)) c.in_err-taken.ensures.within)

pub returns-in-End-clause-frame : goal.returns-in-End-clause-frame
returns-in-End-clause-frame g c = ap frame_of (rw c.in-End.is at c.in_ok-taken.ensures.taken).0 ∙ c.loop.invariant.frame
