-- The laws of a trace, at the one that is seen.
use Rattle.trace_cut.proofs.Bounding.{is_stream}
use Rattle.trace_laws.proofs.Keeping.{limits_of, processors_of, sizes_of}
use Rattle.trace_outline.specs.Views.{viewed}
use Rattle.trace_outline.proofs.Seen.{good}
use Rattle.trace_outline.proofs.laws.views_are_fit.Goals as goal

pub returns : goal.returns
returns c =
    let trace = viewed c.args.view.now in
    let lines = good c.args.view.now in
    let kept = sizes_of trace lines in
    record {
      some = kept.some_cpus;
      cpus = kept.cpus;
      buckets = kept.some_buckets;
      buffer = kept.some_entries;
      records = (limits_of trace lines).records;
      parts = (limits_of trace lines).parts;
      streams = is_stream trace (limits_of trace lines);
      named = (processors_of trace lines).samples;
    }
