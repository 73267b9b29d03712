-- The run of a trace that has no schedule.
use Rattle.std.specs.Prelude.{◌≡◌, ℕ, []}
use Rattle.trace_model.specs.Recording.{Recording}
use Rattle.driver_model.specs.Lists.{AllOf}
use Rattle.run_laws.specs.Laws.{IsFit}
use Rattle.run_rounds.specs.Rounds.{reference_record}

-- Rounds alone lose no sample: what is kept of the run has no loss of any processor.
abbrev pub UnscheduledRunsLoseNothing : Type 0
UnscheduledRunsLoseNothing = (trace : Recording) (run first_epoch : ℕ) → IsFit trace
    → trace.schedule ≡ []
    → AllOf (λ losses. losses ≡ []) (reference_record trace run first_epoch).losses
