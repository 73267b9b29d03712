-- What the type of a trace, or of an outline, says of the trace that is seen.
use Rattle.std.proofs.Common.{◌≡◌, true, []}
use Rattle.trace_model.specs.Recording.{are_good, images_in_order, said_in}
use Rattle.trace_outline.specs.Views.{viewed}
use Rattle.trace_outline.specs.declared.views.TraceView.{TraceView}
use Rattle.trace_outline.specs.declared.views.TraceView.TheVariants as views

-- its lines are good
pub good : (view : TraceView) → are_good [] (said_in (viewed view)) ≡ true
good (views.Whole trace) = trace.now.good
good (views.Outline outline) = outline.now.good

-- its images are those that its lines name, in order of first use
pub in_order : (view : TraceView) → (viewed view).images ≡ images_in_order (said_in (viewed view))
in_order (views.Whole trace) = trace.now.in_order
in_order (views.Outline outline) = outline.now.in_order
