-- A run that is joined of stored parts is one that can be tallied.
use Rattle.std.proofs.lemmas.List.Elements.{All-append}
use Rattle.database_model.specs.Ranges.{IsDrained, IsRecorded, IsSegment}
use Rattle.database_model.specs.Runs.{Segment}
use Rattle.run_record.proofs.LossLaws.{ends_recorded}
use Rattle.run_listing.specs.Steps.{appended, started}
use Rattle.run_listing.specs.declared.joins.JoinedRun.{JoinedRun}

pub started_recorded : (s : Segment) → IsSegment s → IsRecorded (started s).kept
started_recorded s is =
    let losses = ends_recorded s.last s.losses is.losses in
    record { drains = is.drains; processors = losses.0; losses = losses.1 }

pub appended_recorded : (j : JoinedRun) (s : Segment) → IsRecorded j.kept → IsSegment s → IsRecorded (appended j s).kept
appended_recorded j s before is =
    let losses = ends_recorded s.last s.losses is.losses in
    record { drains = All-append IsDrained j.kept.drains s.drains before.drains is.drains; processors = losses.0; losses = losses.1 }
