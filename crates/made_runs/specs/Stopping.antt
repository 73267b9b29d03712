-- What stops no run.
use Rattle.std.specs.Prelude.{◌≡◌, ℕ, true}
use Rattle.std.specs.List.{IsDistinct}
use Rattle.std.specs.Str.{bytes_eq}
use Rattle.store_io.specs.Files.{Files}
use Rattle.trace_model.specs.Recording.{Recording}
use Rattle.trace_model.specs.Streams.{records_in}
use Rattle.database_model.specs.Runs.{Recorded}
use Rattle.database_state.specs.Heads.{Head}
use Rattle.database_state.specs.Standing.{database_of}
use Rattle.database_state.specs.declared.faults.DbFault.{DbFault}
use Rattle.growth_model.specs.Fitting.{KeepsLimits}
use Rattle.dcpid_core.specs.Storing.{is_found_before}
use Rattle.replay_drive.specs.Growing.{StopsAt}

-- Where a run keeps the limits after each of its parts, no bad file and no want of room stops it at any part.
abbrev pub FittingRunsDoNotStop : Type 0
FittingRunsDoNotStop = (trace : Recording) (kept : Recorded) (parts : ℕ) (begin : Head) (f g : Files)
    (fault : DbFault) → IsDistinct bytes_eq trace.images →
    KeepsLimits trace.images (records_in trace) kept begin (database_of begin f) →
    is_found_before fault ≡ true → StopsAt trace kept parts begin f g fault → ⊥
