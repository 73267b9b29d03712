-- A trace whose lines are gone.
use Rattle.trace_model.specs.Recording.{Recording, recording}
use Rattle.trace_lines.specs.declared.outlines.Outline.{Outline}

-- the trace that an outline is of
abbrev pub outlined : Outline → Recording
outlined o = recording o.cpus o.buckets o.buffer o.images.items o.lines.items o.schedule.items
