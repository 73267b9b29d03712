use Rattle.trace_model.specs.Streams.{records_in}
use Rattle.trace_model.specs.Traces.{recording_of}
use Rattle.trace_laws.proofs.Naming.{place_has}
use Rattle.trace_laws.proofs.kept.places_have_images.Goals as goal

pub returns : goal.returns
returns c = place_has c.args.trace.now.images.items (records_in (recording_of c.args.trace.now)) c.ranges_are_kept.ensures.names
