-- A `Trace` as a value.
use Rattle.trace_model.specs.declared.recordings.Trace.{Trace}
use Rattle.trace_model.specs.Recording.{Recording, recording}

-- the trace as it is seen by definitions
abbrev pub recording_of : Trace → Recording
recording_of t = recording t.cpus t.buckets t.buffer t.images.items t.lines.items t.schedule.items
