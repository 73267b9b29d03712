use Rattle.std.proofs.Common.{map}
use Rattle.run_record.proofs.LossLaws.{ends_recorded}
use Rattle.run_record.proofs.Parts.{items_of}
use Rattle.database_tests.proofs.segments.record_of.Goals as goal

pub returns : goal.returns
returns c =
    let is = rw (← c.segment.view_is) at c.requires in
    let ends = ends_recorded c.segment.inside.last (map items_of c.segment.inside.losses.items) is.losses in
    record { drains = is.drains; processors = ends.0; losses = ends.1 }
