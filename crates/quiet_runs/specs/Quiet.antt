-- Traces whose run fits an empty database.
use Rattle.std.specs.Prelude.{◌≡◌, ◌*◌, ◌≤◌, [], length, count_by}
use Rattle.trace_model.specs.Parts.{begins_epoch}
use Rattle.trace_model.specs.Recording.{Recording}
use Rattle.trace_model.specs.Streams.{records_in}
use Rattle.database_state.specs.Database.{empty_database}
use Rattle.database_state.specs.Heads.{empty_head}
use Rattle.growth_model.specs.Fitting.{KeepsLimits}
use Rattle.growth_model.specs.Grown.{part_count}
use Rattle.run_rounds.specs.Rounds.{reference_record}

-- no schedule, no epoch, and few images and parts
pub record IsQuietTrace (trace : Recording) : Type 0 where
  pub unscheduled : trace.schedule ≡ []
  pub one_epoch : count_by begins_epoch (records_in trace) ≡ 0
  pub few : length trace.images * part_count (records_in trace) ≤ 4096

-- The first run of such a trace, in epoch 0, fits an empty database.
abbrev pub QuietRunFits : Recording → Type 0
QuietRunFits trace = IsQuietTrace trace →
    KeepsLimits trace.images (records_in trace) (reference_record trace 1 0)
    empty_head empty_database
