-- What the end of a run does: the rest is committed with the losses, and the record of the whole run is answered.
use Rattle.std.specs.Prelude.{◌≡◌, ℕ, true, List, length, Option, Some, None, Ok, Err}
use Rattle.std.specs.List.{All}
use Rattle.std.specs.declared.result.Result.{Result}
use Rattle.sample_key.specs.declared.losses.Loss.{Loss}
use Rattle.store_io.specs.Files.{Files}
use Rattle.database_model.specs.Ranges.{AreLosses}
use Rattle.database_model.specs.Runs.{Recorded}
use Rattle.database_state.specs.Heads.{Head}
use Rattle.database_state.specs.declared.faults.DbFault.{DbFault}
use Rattle.dcpid_core.specs.Collection.{Collection}
use Rattle.dcpid_core.specs.Storing.{IsCommitted, HasFailed}
use Rattle.dcpid_core.specs.Parts.{part_in}

-- a list of losses for each processor, each with rising indices below 2,000,000
pub record AreLossesOf (cpus : ℕ) (losses : List (List Loss)) : Type 0 where
  pub count : length losses ≡ cpus
  pub each : All AreLosses losses

-- the record of the whole run
abbrev pub record_in : Collection → List (List Loss) → Recorded
record_in daemon losses = record {
  run = daemon.run;
  first_epoch = daemon.first_epoch;
  drains = daemon.state.drains;
  losses = losses;
}

-- What the end of a run answers: a fault that was kept, with no call of the store; or else the rest was committed, or failed.
abbrev pub Finishes : {D : Type 0} → (D → Option Files) → (D → ℕ) → (D → ℕ)
    → (D → ℕ → Files → Type 0) → Collection → List (List Loss) → Option DbFault → D
    → Result Recorded DbFault → D → Type 0
Finishes files faults moment left_since daemon losses (Some fault) store result after =
    (result ≡ Err fault) × (after ≡ store)
Finishes files faults moment left_since daemon losses None store (Ok kept) after =
    (kept ≡ record_in daemon losses)
    × ((next : Head) × IsCommitted files faults moment left_since
    (part_in daemon daemon.state.epoch true losses) next store after)
Finishes files faults moment left_since daemon losses None store (Err fault) after =
    HasFailed files faults moment left_since (part_in daemon daemon.state.epoch true losses)
    fault store after
