-- What becomes of the books when a record is put in force, before the daemon itself moves on.
use Rattle.std.specs.Prelude.{◌≡◌, ℕ, ◌+◌, ◌⊎◌, Bool, true, false, if◌then◌else◌, [], Option, Ok, Err, None}
use Rattle.std.specs.List.{All}
use Rattle.std.specs.declared.result.Result.{Result}
use Rattle.trace_model.specs.Parts.{begins_epoch}
use Rattle.trace_model.specs.declared.notices.Record.{Record}
use Rattle.database_model.specs.Ranges.{IsDrained}
use Rattle.store_io.specs.Files.{Files}
use Rattle.database_state.specs.declared.faults.DbFault.{DbFault}
use Rattle.database_state.specs.declared.faults.DbFault.TheVariants.{Memory}
use Rattle.epoch_store.specs.Databases.{failed_of, head_of}
use Rattle.profile_merge.specs.Gathering.{EpochsAreUpTo, Gathers, ImagesAreIn}
use Rattle.dcpid_core.specs.Collection.{Collection}
use Rattle.dcpid_core.specs.Storing.{HasFailed, IsCommitted, Part}
use Rattle.dcpid_core.specs.Parts.{part_in}
use Rattle.dcpid_core.specs.Insides.{records_of}
use Rattle.dcpid_core.specs.declared.progress.Task.{Task}
use Rattle.trace_outline.specs.Views.{viewed}
use Rattle.dcpid_core.specs.declared.progress.Progress.{Progress}

-- The books after a record was put in force, where it ends a part and where not, and this is the epoch afterwards.
abbrev pub KeepsBooks : {D T : Type 0} → (D → Option Files) → (D → ℕ) → (D → ℕ)
    → (D → ℕ → Files → Type 0) → Bool → ℕ → Collection → D → Result T DbFault → Collection → D
    → Type 0
KeepsBooks files faults moment left_since true epoch daemon store (Ok done) new after =
    (new ≡ record daemon { part = daemon.part + 1; noted = []; head = new.head })
    × IsCommitted files faults moment left_since (part_in daemon epoch false []) new.head
    store after
KeepsBooks files faults moment left_since true epoch daemon store (Err fault) new after =
    (new ≡ record daemon {
      state = record daemon.state { drains = new.state.drains };
      noted = new.noted;
    })
    × HasFailed files faults moment left_since (part_in daemon epoch false []) fault store after
KeepsBooks files faults moment left_since false epoch daemon store (Ok done) new after =
    (new ≡ daemon) × (after ≡ store)
KeepsBooks files faults moment left_since false epoch daemon store (Err fault) new after =
    (new ≡ daemon) × (fault ≡ Memory) × (after ≡ store)

-- A part was committed: nothing is gathered for the next one, and the database is at this epoch and at the task's run.
pub record IsSettled (task : Task) (epoch : ℕ) (progress : Progress) : Type 0 where
  pub gathers : Gathers progress.gathered (viewed task.trace).images (records_of task) []
  pub images : ImagesAreIn (viewed task.trace).images progress.gathered
  pub epochs : EpochsAreUpTo epoch progress.gathered
  pub works : failed_of progress.db ≡ None
  pub run : task.run ≡ (head_of progress.db).runs
  pub epoch_is : epoch ≡ (head_of progress.db).epoch

-- the epoch after a record
abbrev pub epoch_next : ℕ → Record → ℕ
epoch_next epoch notice = epoch + (if begins_epoch notice then 1 else 0)

-- A part may be committed with this epoch afterwards, the last one or the next.
pub record IsReady (task : Task) (epoch : ℕ) (progress : Progress) : Type 0 where
  pub gathers : Gathers progress.gathered (viewed task.trace).images (records_of task)
      progress.noted.items
  pub images : ImagesAreIn (viewed task.trace).images progress.gathered
  pub epochs : EpochsAreUpTo epoch progress.gathered
  pub drains : All IsDrained progress.noted.items
  pub works : failed_of progress.db ≡ None
  pub run : (task.run ≡ (head_of progress.db).runs) ⊎ (task.run ≡ (head_of progress.db).runs + 1)
  pub epoch_is : (epoch ≡ (head_of progress.db).epoch) ⊎ (epoch ≡ (head_of progress.db).epoch + 1)

-- the same as a predicate of the fault
abbrev pub HasFailedWith : {D : Type 0} → (D → Option Files) → (D → ℕ) → (D → ℕ)
    → (D → ℕ → Files → Type 0) → Part → D → D → DbFault → Type 0
HasFailedWith files faults moment left_since part store after fault =
    HasFailed files faults moment left_since part fault store after
