use Rattle.std.proofs.Common.{◌∙◌, ap, ◌++◌}
use Rattle.trace_generator.specs.Generator.{samples_to}
use Rattle.trace_generator.proofs.Holding.{is_trace}
use Rattle.trace_generator.proofs.generator.make_trace.Goals as goal

pub invariant_of-result : goal.invariant_of-result
invariant_of-result c =
    let trace = is_trace c.in_ok-images.images.items c.put_samples.new.lines.items c.new.result.items c.args.seed c.args.samples
    c.in_ok-images.ensures (c.in_ok-put_samples.ensures ∙ ap (λ l. l ++ samples_to c.args.seed c.args.samples) c.in_ok-put_mappings.ensures) c.new.ensures.items c.requires in
    record { good = trace.0; in_order = trace.1 }
