use Rattle.std.proofs.Common.{refl, ◌+◌, arith, [], ◌∷◌, ◌++◌}
use Rattle.std.specs.Io.KnownBytes.{prepend_known}
use Rattle.std.proofs.lemmas.Result.{err_from_is_err_and}
use Rattle.trace_laws.specs.declared.bounds.TheConstants.{MOST_TRACE_LINES}
use Rattle.trace_model.specs.declared.limits.TheConstants.{MOST_STEPS}
use Rattle.trace_model.specs.Said.{Ended}
use Rattle.trace_text.specs.declared.reading.TheConstants.{MOST_BODY_LINES}
use Rattle.trace_text.specs.Judging.{size_shown}
use Rattle.trace_text.specs.State.{said_in_body, said_with_steps}
use Rattle.line_reader.proofs.Fronts.{nothing_left}
use Rattle.trace_text.proofs.Phasing.{bad_at_start, bad_behind, behind_body, reads_all, none_yet, within_more}
use Rattle.trace_text.proofs.reading.read_parts.Goals as goal

pub returns-in_err-sizes-clause-bad : goal.returns-in_err-sizes-clause-bad
returns-in_err-sizes-clause-bad g c = let p = err_from_is_err_and c.from_residual-in_err-sizes.result c.from_residual-in_err-sizes.ensures.1 in
    rw (p.1, p.2) (bad_at_start c.in_ok-input.input.reader (g.S.Source.left c.args.source.now) c.in_err-sizes.field-0.0 c.in_ok-input.ensures.0 c.in_err-sizes.ensures.stops)

pub returns-in_err-read_body-clause-bad : goal.returns-in_err-read_body-clause-bad
returns-in_err-read_body-clause-bad g c = let p = err_from_is_err_and c.from_residual-in_err-read_body.result c.from_residual-in_err-read_body.ensures.1 in
    rw (p.1, p.2) (bad_behind c.in_ok-input.input.reader (g.S.Source.left c.args.source.now) (prepend_known c.read_header.new.input.reader (g.S.Source.left c.read_header.new.source)) (said_in_body c.new-body.result) 1 1 c.in_err-read_body.field-0.0 c.in_ok-input.ensures.0
    (rw c.new-body.ensures.said c.in_ok-sizes.ensures.went) refl c.in_err-read_body.ensures.stops)

pub read_schedule-requires-clause-none : goal.read_schedule-requires-clause-none
read_schedule-requires-clause-none g c = none_yet c.read_body.new.body c.in_ok-read_body.ensures.sound

pub returns-in_err-schedule-clause-bad : goal.returns-in_err-schedule-clause-bad
returns-in_err-schedule-clause-bad g c = let p = err_from_is_err_and c.from_residual-in_err-schedule.result c.from_residual-in_err-schedule.ensures.1 in let w = c.in_ok-read_body.ensures.went in
    rw (p.1, p.2) (bad_behind c.in_ok-input.input.reader (g.S.Source.left c.args.source.now) (prepend_known c.read_body.new.input.reader (g.S.Source.left c.read_body.new.source)) (said_with_steps c.read_body.new.body []) (1 + w.0) c.read_body.new.input.number c.in_err-schedule.field-0.0 c.in_ok-input.ensures.0
    (behind_body (prepend_known c.in_ok-input.input.reader (g.S.Source.left c.args.source.now)) (prepend_known c.read_header.new.input.reader (g.S.Source.left c.read_header.new.source)) (prepend_known c.read_body.new.input.reader (g.S.Source.left c.read_body.new.source)) (size_shown c.in_ok-sizes.sizes ∷ []) (said_in_body c.new-body.result) (said_in_body c.read_body.new.body ++ Ended ∷ []) w.0 c.new-body.ensures.said c.in_ok-sizes.ensures.went w.2) w.3 c.in_err-schedule.ensures.stops)

pub returns-clause-reads : goal.returns-clause-reads
returns-clause-reads g c = λ trace says images. let w = c.in_ok-read_body.ensures.went in let v = c.in_ok-schedule.ensures.went in
    reads_all c.in_ok-input.input.reader (g.S.Source.left c.args.source.now) (prepend_known c.read_body.new.input.reader (g.S.Source.left c.read_body.new.source)) (prepend_known c.read_schedule.new.input.reader (g.S.Source.left c.read_schedule.new.source)) c.read_body.new.body c.in_ok-schedule.schedule.items trace (1 + w.0) v.0 c.in_ok-input.ensures.0
    (behind_body (prepend_known c.in_ok-input.input.reader (g.S.Source.left c.args.source.now)) (prepend_known c.read_header.new.input.reader (g.S.Source.left c.read_header.new.source)) (prepend_known c.read_body.new.input.reader (g.S.Source.left c.read_body.new.source)) (size_shown c.in_ok-sizes.sizes ∷ []) (said_in_body c.new-body.result) (said_in_body c.read_body.new.body ++ Ended ∷ []) w.0 c.new-body.ensures.said c.in_ok-sizes.ensures.went w.2)
    v.1 c.in_ok-schedule.ensures.end says images

pub returns-clause-whole : goal.returns-clause-whole
returns-clause-whole g c = nothing_left (g.S.Source.left c.read_schedule.new.source) c.read_schedule.new.input.reader c.in_ok-schedule.ensures.end

pub returns-in_err-sizes-clause-within : goal.returns-in_err-sizes-clause-within
returns-in_err-sizes-clause-within g c = let p = err_from_is_err_and c.from_residual-in_err-sizes.result c.from_residual-in_err-sizes.ensures.1 in
    rw (p.1, p.2) (within_more 1 (MOST_TRACE_LINES + 1) c.in_err-sizes.field-0.0 (omega arith) c.in_err-sizes.ensures.within)

pub returns-in_err-read_body-clause-within : goal.returns-in_err-read_body-clause-within
returns-in_err-read_body-clause-within g c = let p = err_from_is_err_and c.from_residual-in_err-read_body.result c.from_residual-in_err-read_body.ensures.1 in
    rw (p.1, p.2) (within_more (1 + MOST_BODY_LINES) (MOST_TRACE_LINES + 1) c.in_err-read_body.field-0.0 (omega arith) c.in_err-read_body.ensures.within)

pub returns-in_err-schedule-clause-within : goal.returns-in_err-schedule-clause-within
returns-in_err-schedule-clause-within g c = let p = err_from_is_err_and c.from_residual-in_err-schedule.result c.from_residual-in_err-schedule.ensures.1 in let w = c.in_ok-read_body.ensures.went in
    rw (p.1, p.2) (within_more (c.read_body.new.input.number + 1 + MOST_STEPS) (MOST_TRACE_LINES + 1) c.in_err-schedule.field-0.0 (omega (arith, w.1, w.3)) c.in_err-schedule.ensures.within)
