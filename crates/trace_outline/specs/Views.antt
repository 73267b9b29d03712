-- The trace that a run sees, whole or in outline.
use Rattle.trace_model.specs.Recording.{Recording}
use Rattle.trace_model.specs.Traces.{recording_of}
use Rattle.trace_lines.specs.Outlines.{outlined}
use Rattle.trace_outline.specs.declared.views.TraceView.{TraceView}
use Rattle.trace_outline.specs.declared.views.TraceView.TheVariants as views

-- the trace that is seen
abbrev pub viewed : TraceView → Recording
viewed (views.Whole trace) = recording_of trace.now
viewed (views.Outline outline) = outlined outline.now
