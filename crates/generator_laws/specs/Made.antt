-- The runs of made traces.
use Rattle.std.specs.Prelude.{◌≡◌, ℕ, ◌≤◌, []}
use Rattle.sample_key.specs.declared.limits.TheConstants.{MOST_SAMPLES}
use Rattle.trace_model.specs.Recording.{Recording, said_in}
use Rattle.trace_model.specs.Streams.{records_in}
use Rattle.trace_generator.specs.Generator.{made_trace}
use Rattle.driver_model.specs.Lists.{AllOf}
use Rattle.database_state.specs.Database.{empty_database}
use Rattle.database_state.specs.Heads.{empty_head}
use Rattle.growth_model.specs.Fitting.{KeepsLimits}
use Rattle.run_rounds.specs.Rounds.{reference_record}

-- a trace that was made from a seed
pub record IsMade (trace : Recording) : Type 0 where
  pub seed : ℕ
  pub samples : ℕ
  pub few : samples ≤ MOST_SAMPLES
  pub said : said_in trace ≡ made_trace seed samples
  pub unscheduled : trace.schedule ≡ []

-- No processor loses a sample in its run.
abbrev pub MadeRunLosesNothing : Recording → Type 0
MadeRunLosesNothing trace = IsMade trace → (run first_epoch : ℕ) →
    AllOf (λ losses. losses ≡ []) (reference_record trace run first_epoch).losses

-- Its run, as the first one, in epoch 0, fits an empty database.
abbrev pub MadeRunFits : Recording → Type 0
MadeRunFits trace = IsMade trace →
    KeepsLimits trace.images (records_in trace) (reference_record trace 1 0)
    empty_head empty_database
