-- The database after the first parts of a run.
use Rattle.std.specs.Prelude.{◌≡◌, ℕ, zero, suc, ◌+◌, ◌<◌, ◌≤◌, List, take, filter}
use Rattle.trace_model.specs.Parts.{ends_part, epoch_after}
use Rattle.trace_model.specs.declared.notices.Record.{Record}
use Rattle.database_model.specs.Runs.{Recorded}
use Rattle.run_model.specs.Shares.{last_part, segment_of}
use Rattle.database_state.specs.Database.{Database}
use Rattle.growth_model.specs.Growth.{GrowsByPart}

-- how many parts a run has: one more than the records that end a part
abbrev pub part_count : List Record → ℕ
part_count records = last_part records + 1

-- the last epoch after the first parts: each of the records that end them may begin one
abbrev pub epoch_after_parts : ℕ → List Record → ℕ → ℕ
epoch_after_parts first_epoch records parts =
    epoch_after first_epoch (take parts (filter ends_part records))

-- part after part, each with its drains and its segment
abbrev pub GrowsTo : List (List ℕ) → List Record → Recorded → ℕ → Database → Database → Type 0
GrowsTo images records kept zero db new = new ≡ db
GrowsTo images records kept (suc part) db new =
    (before : Database) × GrowsTo images records kept part db before
    × GrowsByPart images records (epoch_after_parts kept.first_epoch records (suc part))
    (segment_of records kept part) before new

-- The database after the first parts of a run. The run is the one after the last of the database, and begins in its last epoch.
pub record Grown (images : List (List ℕ)) (records : List Record) (kept : Recorded) (parts : ℕ)
    (db new : Database)
    : Type 0 where
  pub within : parts ≤ part_count records
  pub run : 0 < parts → kept.run ≡ db.runs + 1
  pub first_epoch : 0 < parts → kept.first_epoch ≡ db.last_epoch
  pub steps : GrowsTo images records kept parts db new

-- the database after the whole run
abbrev pub GrownWhole : List (List ℕ) → List Record → Recorded → Database → Database → Type 0
GrownWhole images records kept db new = Grown images records kept (part_count records) db new
