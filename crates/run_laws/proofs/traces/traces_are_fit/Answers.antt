use Rattle.run_laws.proofs.traces.traces_are_fit.Goals as goal

pub returns : goal.returns
returns c = record {
  some = c.streams_are_in_order.ensures.sizes.some_cpus;
  cpus = c.streams_are_in_order.ensures.sizes.cpus;
  buckets = c.streams_are_in_order.ensures.sizes.some_buckets;
  buffer = c.streams_are_in_order.ensures.sizes.some_entries;
  records = c.streams_are_in_order.ensures.records;
  parts = c.limits_are_kept.ensures.parts;
  streams = c.streams_are_in_order.ensures.samples;
  named = c.processors_are_there.ensures.samples;
}
