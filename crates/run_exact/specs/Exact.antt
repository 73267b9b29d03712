-- The exact pace: a valid record counts each place as often as samples of the trace lie there, each
-- by the records that stand before it.
use Rattle.std.specs.Prelude.{◌≡◌, ℕ, ◌+◌, ◌<◌, Bool, if◌then◌else◌, List, [], ◌∷◌, count_by}
use Rattle.sample_key.specs.Counted.{Counted}
use Rattle.sample_key.specs.declared.keys.Key.{Key}
use Rattle.sample_key.specs.declared.losses.Pace.TheVariants.{Exact}
use Rattle.trace_model.specs.Attribution.{place_at}
use Rattle.trace_model.specs.Counting.{Spot, spot_at, same_spot, spots_in}
use Rattle.trace_model.specs.Recording.{Recording}
use Rattle.trace_model.specs.Streams.{stream_of, records_in}
use Rattle.trace_model.specs.declared.notices.Record.{Record}
use Rattle.driver_model.specs.Lists.{AllOf}
use Rattle.database_model.specs.Runs.{Drained, Recorded}
use Rattle.run_model.specs.Shares.{share_of}
use Rattle.run_model.specs.Validity.{IsValidRun}
use Rattle.run_laws.specs.Laws.{IsFit, GoesUpToDue}
use Rattle.run_joins.specs.Joins.{WasJoined}

-- how often entries count the keys that pass
abbrev pub counted_where : (Key → Bool) → List Counted → ℕ
counted_where test [] = 0
counted_where test (counted ∷ entries) =
    (if test counted.key then counted.count else 0) + counted_where test entries

-- whether a key lies at a place, in an epoch and by the records up to a position
abbrev pub lies_at : Spot → ℕ → List (List ℕ) → List Record → ℕ → Key → Bool
lies_at spot epoch images records at key =
    same_spot spot (spot_at epoch images key (place_at records at key.pid key.pc))

-- how often drains count a place, each by its own epoch and position
abbrev pub drained_at : Spot → List (List ℕ) → List Record → List Drained → ℕ
drained_at spot images records [] = 0
drained_at spot images records (drain ∷ drains) =
    counted_where (lies_at spot drain.epoch images records drain.at) drain.batch.entries
    + drained_at spot images records drains

-- no sample was lost, and each table batch goes up to just the samples that were due
pub record IsExactRecord (trace : Recording) (kept : Recorded) : Type 0 where
  pub losses : (cpu : ℕ) → cpu < trace.cpus → (share_of kept cpu).losses ≡ []
  pub due_then : (cpu : ℕ) → cpu < trace.cpus
      → AllOf (GoesUpToDue (stream_of cpu trace)) (share_of kept cpu).third

-- the record counts each place as often as samples of the trace lie there
abbrev pub CountsPlainly : Recording → Recorded → Type 0
CountsPlainly trace kept = (spot : Spot)
    → drained_at spot trace.images (records_in trace) kept.drains
    ≡ count_by (same_spot spot) (spots_in trace kept.first_epoch)

-- So does each valid record of the exact pace.
abbrev pub ExactRunsArePlain : Type 0
ExactRunsArePlain = (trace : Recording) (kept : Recorded) → IsFit trace
    → IsValidRun Exact trace kept → IsExactRecord trace kept → CountsPlainly trace kept

-- A joined run of the exact pace has such a record.
abbrev pub JoinsAreExact : Type 0
JoinsAreExact = (trace : Recording) (kept : Recorded)
    → ((cpu : ℕ) → cpu < trace.cpus → WasJoined Exact trace cpu (share_of kept cpu))
    → IsExactRecord trace kept
