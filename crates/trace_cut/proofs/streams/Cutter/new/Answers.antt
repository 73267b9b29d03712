use Rattle.trace_cut.proofs.Taking.{count_of, none_taken}
use Rattle.trace_cut.proofs.streams.Cutter.new.Goals as goal

pub invariant_of-result : goal.invariant_of-result
invariant_of-result c = none_taken c.in_ok-no_samples.field-0.items c.new-2.result.items c.new.result.items c.args.cpus c.in_ok-no_samples.ensures c.new-2.ensures.items c.new.ensures

pub returns : goal.returns
returns c = λ i. record { lines = c.new.ensures i; cpus = count_of c.in_ok-no_samples.field-0.items c.args.cpus c.in_ok-no_samples.ensures i }
