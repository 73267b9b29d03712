-- Rounds finish a run at the free pace, whatever its schedule did before.
use Rattle.std.specs.Prelude.{◌≡◌, ℕ, ◌+◌, ◌*◌, ◌≤◌, true, List, ◌++◌, length}
use Rattle.sample_key.specs.declared.losses.Pace.TheVariants.{Free}
use Rattle.trace_model.specs.Recording.{Recording}
use Rattle.trace_model.specs.Streams.{records_in}
use Rattle.trace_model.specs.declared.notices.Step.{Step}
use Rattle.database_model.specs.Runs.{Recorded}
use Rattle.run_model.specs.Running.{rounds, sample_count, reference_run, record_of}
use Rattle.run_model.specs.Validity.{IsValidRun, StatisticsAgree}
use Rattle.run_laws.specs.Laws.{IsFit, run_so_far, stats_of}

-- A round for each sample, two for each record and three more finish a run.
abbrev pub RoundsFinish : Type 0
RoundsFinish = (trace : Recording) (first_epoch count : ℕ) (steps : List Step) → IsFit trace
    → sample_count trace + 2 * length (records_in trace) + 3 ≤ count
    → (run_so_far Free trace first_epoch (steps ++ rounds count trace)).daemon.finished ≡ true

-- what is kept of the run of a trace with this number
abbrev pub reference_record : Recording → ℕ → ℕ → Recorded
reference_record trace run first_epoch =
    record_of run first_epoch (reference_run Free trace first_epoch)

-- The run of a trace is finished, and its record is valid with statistics that agree.
pub record EndsWell (trace : Recording) (run first_epoch : ℕ) : Type 0 where
  pub finished : (reference_run Free trace first_epoch).daemon.finished ≡ true
  pub valid : IsValidRun Free trace (reference_record trace run first_epoch)
  pub agree : StatisticsAgree trace (reference_record trace run first_epoch)
      (stats_of (reference_run Free trace first_epoch))

-- So it is with every trace.
abbrev pub RunsEndWell : Type 0
RunsEndWell = (trace : Recording) (run first_epoch : ℕ) → IsFit trace
    → EndsWell trace run first_epoch
