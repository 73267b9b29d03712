use Rattle.std.proofs.lemmas.Result.{err_from_is_err_and}
use Rattle.run_record.proofs.Steps.{none_read, one_more_read, none_is_read, all_read}
use Rattle.run_record.proofs.reading.entries_of.Goals as goal

pub loop-init : goal.loop-init
loop-init c = record { within = c.requires; told = rw (c.new-entries.ensures.items, c.new-known.ensures.items) (none_read c.args.count c.args.bytes.now c.args.at) }

pub returns-in_err-entry-clause-value : goal.returns-in_err-entry-clause-value
returns-in_err-entry-clause-value c =
    let p = err_from_is_err_and c.from_residual.result c.from_residual.ensures.1 in
    rw (p.1, p.2) (none_is_read c.args.count c.loop.counter c.loop.entries.items c.loop.known.items c.args.bytes.now c.loop.at c.args.at c.in_err-entry.field-0.0.at c.loop-test.true c.loop.invariant.told c.in_err-entry.ensures.value)

pub loop-preserved : goal.loop-preserved
loop-preserved c =
    record {
      within = c.in_ok-entry.ensures.within;
      told = rw (c.in_ok-push.ensures.items, c.in_ok-push-2.ensures.items) (one_more_read c.args.count c.loop.counter c.loop.entries.items c.loop.known.items c.args.bytes.now c.loop.at c.args.at c.in_ok-entry.entry c.in_ok-entry.is_known c.in_ok-entry.after c.loop-test.true c.loop.invariant.told c.in_ok-entry.ensures.value);
    }

pub returns-clause-value : goal.returns-clause-value
returns-clause-value c = all_read c.args.count c.loop.counter c.loop.entries.items c.loop.known.items c.args.bytes.now c.loop.at c.args.at c.loop-test.false c.loop.invariant.told
