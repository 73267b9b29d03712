-- What an advance does: the run's own advance, over the daemon's counts of what it took; at a record that ends a part the part
-- is committed.
use Rattle.std.specs.Prelude.{◌≡◌, ℕ, ◌+◌, ◌&&◌, ◌⊎◌, is_none, Bool, true, false, if◌then◌else◌, List, [], slice_get, Option, Some, None}
use Rattle.sample_key.specs.declared.losses.Pace.{Pace}
use Rattle.trace_model.specs.Parts.{ends_part}
use Rattle.trace_model.specs.Streams.{records_in}
use Rattle.trace_model.specs.declared.notices.Record.{Record}
use Rattle.store_io.specs.Files.{Files}
use Rattle.database_state.specs.declared.faults.DbFault.{DbFault}
use Rattle.database_state.specs.declared.faults.DbFault.TheVariants.{Memory}
use Rattle.run_model.specs.Daemon.{Advancing, Daemon, begin, flush_before, go_on}
use Rattle.run_model.specs.declared.advances.Advanced.{Advanced}
use Rattle.run_model.specs.declared.advances.Advanced.TheVariants.{Moved, Opened, Waiting, Finished}
use Rattle.dcpid_core.specs.Flushes.{first_incomplete}
use Rattle.dcpid_core.specs.Collection.{Collection}
use Rattle.dcpid_core.specs.Storing.{IsCommitted, HasFailed}
use Rattle.dcpid_core.specs.Parts.{part_in}
use Rattle.dcpid_core.specs.declared.flushes.Flush.{Flush}

-- one advance of a run's daemon that took so many batches
abbrev pub advance_by : Pace → List Record → List Flush → Daemon → Advancing
advance_by pace records flushes daemon =
    if daemon.asking
    then go_on records daemon (first_incomplete (flush_before daemon.applied) 0 flushes)
    else begin pace daemon (slice_get records daemon.applied)

-- one advance of the daemon
abbrev pub advance_of : Collection → Advancing
advance_of daemon =
    advance_by daemon.pace (records_in daemon.trace) daemon.flushes daemon.state

-- whether a record was put in force
abbrev pub is_moved : Advanced → Bool
is_moved Moved = true
is_moved Opened = false
is_moved (Waiting cpu) = false
is_moved Finished = false

-- whether the next record ends a part
abbrev pub ends_next : Option Record → Bool
ends_next None = false
ends_next (Some notice) = ends_part notice

-- whether a part is to be committed: the record that is put in force ends one, and no fault is kept
abbrev pub commits : Collection → Advanced → Bool
commits daemon answer =
    is_moved answer && is_none daemon.failure
    && ends_next (slice_get (records_in daemon.trace) daemon.state.applied)

-- Where nothing is to be committed, a fault that is kept stays, and none begins but want of memory for a record that is put in
-- force.
abbrev pub FaultAfter : Option DbFault → Advanced → Option DbFault → Type 0
FaultAfter (Some fault) answer new = new ≡ Some fault
FaultAfter None answer new = (new ≡ None) ⊎ ((answer ≡ Moved) × (new ≡ Some Memory))

-- Nothing was to be committed: the daemon moved on, and the store is as it was.
pub record MovesOn {D : Type 0} (daemon : Collection) (done : Advancing) (store : D)
    (new : Collection) (after : D) : Type 0 where
  pub moved : new ≡ record daemon { state = done.daemon; failure = new.failure }
  pub fault : FaultAfter daemon.failure done.answer new.failure
  pub untouched : after ≡ store

-- A part was to be committed: it was, and the next one begins with no drains; or the fault is kept, and of the drains nothing is
-- said any more.
abbrev pub EndsPart : {D : Type 0} → (D → Option Files) → (D → ℕ) → (D → ℕ)
    → (D → ℕ → Files → Type 0) → Collection → Advancing → D → Option DbFault → Collection → D
    → Type 0
EndsPart files faults moment left_since daemon done store None new after =
    (new ≡ record daemon {
      state = done.daemon;
      part = daemon.part + 1;
      noted = [];
      head = new.head;
    })
    × IsCommitted files faults moment left_since (part_in daemon done.daemon.epoch false [])
    new.head store after
EndsPart files faults moment left_since daemon done store (Some fault) new after =
    (new ≡ record daemon {
      state = record done.daemon { drains = new.state.drains };
      noted = new.noted;
      failure = Some fault;
    })
    × HasFailed files faults moment left_since (part_in daemon done.daemon.epoch false [])
    fault store after

-- what an advance makes of the daemon and of the store
abbrev pub Outcome : {D : Type 0} → (D → Option Files) → (D → ℕ) → (D → ℕ)
    → (D → ℕ → Files → Type 0) → Bool → Collection → Advancing → D → Collection → D → Type 0
Outcome files faults moment left_since true daemon done store new after =
    EndsPart files faults moment left_since daemon done store new.failure new after
Outcome files faults moment left_since false daemon done store new after =
    MovesOn daemon done store new after

-- What an advance answers and does, where the run's daemon does this.
pub record Advances {D : Type 0} (files : D → Option Files) (faults moment : D → ℕ)
    (left_since : D → ℕ → Files → Type 0) (done : Advancing) (daemon : Collection) (store : D)
    (answer : Advanced) (new : Collection) (after : D) : Type 0 where
  pub answer_is : answer ≡ done.answer
  pub outcome : Outcome files faults moment left_since (commits daemon done.answer) daemon done
      store new after
