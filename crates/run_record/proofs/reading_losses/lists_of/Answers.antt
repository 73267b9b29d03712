use Rattle.std.proofs.Common.{map}
use Rattle.std.specs.Global.{Vec}
use Rattle.std.proofs.lemmas.List.{map_push}
use Rattle.std.proofs.lemmas.Result.{err_from_is_err_and}
use Rattle.var_bytes.proofs.FormLaws.{repeat_goes_on}
use Rattle.sample_key.specs.declared.losses.Loss.{Loss}
use Rattle.database_model.specs.SegmentForm.{processor}
use Rattle.run_record.proofs.Steps.{ends}
use Rattle.run_record.proofs.reading_losses.lists_of.Goals as goal

pub returns-in_err-losses-clause-value : goal.returns-in_err-losses-clause-value
returns-in_err-losses-clause-value c =
    let p = err_from_is_err_and c.from_residual.result c.from_residual.ensures.1 in
    rw (p.1, p.2) (ends c.in_err-losses.field-0.0 (λ before. processor) c.args.count c.loop.counter (map (λ (v : Vec Loss). v.items) c.loop.lists.items) c.args.bytes.now c.loop.at _ c.loop-test.true c.in_err-losses.ensures.value c.loop.invariant.told)

pub loop-preserved : goal.loop-preserved
loop-preserved c =
    record {
      within = c.in_ok-losses.ensures.within;
      told = rw (c.in_ok-push.ensures.items, map_push (λ (v : Vec Loss). v.items) c.loop.lists.items c.in_ok-losses.losses) (repeat_goes_on (λ before. processor) c.args.count c.loop.counter (map (λ (v : Vec Loss). v.items) c.loop.lists.items) c.args.bytes.now c.loop.at c.in_ok-losses.losses.items c.in_ok-losses.after _ c.loop-test.true c.in_ok-losses.ensures.value c.loop.invariant.told);
    }
