-- The laws of the trace that is seen.
use Rattle.std.proofs.Common.{arith}
use Rattle.trace_model.specs.Recording.{said_in}
use Rattle.trace_outline.specs.Views.{viewed}
use Rattle.trace_outline.proofs.Seen.{in_order}
use Rattle.dcpid_core.proofs.Images.{apart}
use Rattle.dcpid_core.proofs.progress.Task.of.Goals as goal

pub returns-clause-is : goal.returns-clause-is
returns-clause-is c = record {
  records = c.requires;
  few = c.views_keep_limits.ensures.limits.records;
  parts = c.views_keep_limits.ensures.limits.parts;
  ranges = c.views_keep_limits.ensures.ranges.ranges;
  some_cpus = c.views_keep_limits.ensures.sizes.some_cpus;
  cpus = c.views_keep_limits.ensures.sizes.cpus;
  apart = apart (viewed c.args.trace.now).images (said_in (viewed c.args.trace.now)) (in_order c.args.trace.now);
  images = c.views_keep_limits.ensures.places;
  run = omega arith;
}
