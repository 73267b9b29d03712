use Rattle.std.proofs.Common.{◌∙◌}
use Rattle.std.proofs.lemmas.Result.{err_from_is_err_and}
use Rattle.var_bytes.proofs.FormLaws.{repeat_goes_on}
use Rattle.database_model.specs.SegmentForm.{drain}
use Rattle.run_record.proofs.Steps.{ends, drain_is, drain_fails}
use Rattle.run_record.proofs.reading.drains_of.Goals as goal

pub returns-in_err-drain-clause-value : goal.returns-in_err-drain-clause-value
returns-in_err-drain-clause-value c =
    let p = err_from_is_err_and c.from_residual.result c.from_residual.ensures.1 in
    rw (p.1, p.2) (ends c.in_err-drain.field-0.0 (λ before. drain) c.args.count c.loop.counter c.loop.drains.items c.args.bytes.now c.loop.at _ c.loop-test.true (drain_fails c.in_err-drain.field-0.0 c.args.bytes.now c.loop.at c.in_err-drain.ensures.value) c.loop.invariant.told)

pub loop-preserved : goal.loop-preserved
loop-preserved c =
    record {
      within = c.in_ok-drain.ensures.within;
      told = rw c.in_ok-push.ensures.items (repeat_goes_on (λ before. drain) c.args.count c.loop.counter c.loop.drains.items c.args.bytes.now c.loop.at c.in_ok-drain.drain c.in_ok-drain.after _ c.loop-test.true (drain_is c.args.bytes.now c.loop.at ∙ c.in_ok-drain.ensures.value) c.loop.invariant.told);
    }
