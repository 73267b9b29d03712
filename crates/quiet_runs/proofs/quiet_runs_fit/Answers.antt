use Rattle.std.proofs.Common.{[], ◌∷◌, ◌++◌, map}
use Rattle.trace_model.specs.Recording.{line_said, step_said}
use Rattle.trace_model.specs.Said.{LongHeader, Ended}
use Rattle.trace_model.specs.Streams.{records_in}
use Rattle.trace_model.specs.Traces.{recording_of}
use Rattle.run_rounds.specs.Rounds.{reference_record}
use Rattle.trace_laws.proofs.Passing.{rest_is_good}
use Rattle.quiet_runs.proofs.Bounding.{lines_addresses, small_run}
use Rattle.quiet_runs.proofs.quiet_runs_fit.Goals as goal

pub returns : goal.returns
returns c = λ quiet.
    let t = c.args.trace.now in
    let r = recording_of t in
    let rest = Ended ∷ map step_said t.schedule.items in
    let lines = map (line_said t.images.items) t.lines.items ++ rest in
    c.small_runs_fit.ensures t.images.items (records_in r) (reference_record r 1 0)
    (small_run r c.traces_are_fit.ensures c.ranges_are_kept.ensures.ranges
    (lines_addresses (LongHeader t.cpus t.buckets t.buffer ∷ []) t.images.items t.lines.items rest (rest_is_good [] (LongHeader t.cpus t.buckets t.buffer) lines t.good))
    (c.runs_end_well.ensures r 1 0 c.traces_are_fit.ensures).valid
    (c.unscheduled_runs_lose_nothing.ensures r 1 0 c.traces_are_fit.ensures quiet.unscheduled) quiet)
