-- What the end of a replay answers, and what it leaves of the store.
use Rattle.std.proofs.Common.{◌≡◌, refl, sym, ◌∙◌, subst, ℕ, ◌+◌, List, true, Some, None, Option, Ok, Err, inr}
use Rattle.std.specs.declared.result.Result.{Result}
use Rattle.sample_key.specs.declared.losses.Loss.{Loss}
use Rattle.sample_key.specs.declared.losses.Pace.TheVariants.{Free}
use Rattle.trace_model.specs.Recording.{Recording}
use Rattle.trace_model.specs.Streams.{records_in}
use Rattle.trace_model.specs.declared.notices.Step.{Step}
use Rattle.database_model.specs.Runs.{Recorded}
use Rattle.store_io.specs.Files.{Files}
use Rattle.database_state.specs.Heads.{Head}
use Rattle.database_state.specs.declared.faults.DbFault.{DbFault}
use Rattle.database_state.specs.declared.faults.DbFault.TheVariants.{Memory}
use Rattle.growth_model.specs.Grown.{part_count}
use Rattle.run_model.specs.Running.{record_of}
use Rattle.run_laws.specs.Laws.{run_so_far}
use Rattle.run_laws.proofs.Driven.{DriverLaws}
use Rattle.dcpid_core.specs.Collection.{Collection}
use Rattle.dcpid_core.specs.Finishing.{Finishes, record_in}
use Rattle.dcpid_core.specs.Parts.{part_in}
use Rattle.dcpid_core.specs.Storing.{HasFailed, IsCommitted, Part}
use Rattle.replay_drive.specs.Outcomes.{LeavesParts, fault_in}
use Rattle.replay_drive.specs.Replaying.{IsStored}
use Rattle.replay_drive.specs.Ending.{HasEnded}
use Rattle.replay_drive.specs.declared.replays.Replay.{Replay}
use Rattle.replay_drive.proofs.AdvanceStores.{store_as}
use Rattle.replay_drive.proofs.RunEnded.{last_next}
use Rattle.replay_drive.proofs.StoreKept.{FollowsOn, IsNextPart, store_fails, store_grows, store_rests, store_starts}

some_none : {A B : Type 0} (x : A) → Some x ≡ None → B
some_none x e = absurd cc

-- the fault that the daemon keeps
pub fault_leaves : {D : Type 0} (files : D → Option Files) (faults moment : D → ℕ) (left : D → ℕ → Files → Type 0) (trace : Recording) (run first_epoch : ℕ) (steps : List Step) (begin : Head) (start store : D) (replay : Replay) (fault : DbFault)
    → IsStored files faults moment left trace run first_epoch steps begin start store replay → replay.daemon.failure ≡ Some fault
    → LeavesParts files faults moment left trace (record_of run first_epoch (run_so_far Free trace first_epoch steps)) begin start store (Some fault)
fault_leaves files faults moment left trace run first_epoch steps begin start store replay fault stored is = record {
  parts = replay.daemon.part;
  head = replay.daemon.head;
  whole = λ fine. some_none fault fine;
  store = store_as files faults moment left trace _ begin start store replay.daemon.part replay.daemon.part replay.daemon.head replay.daemon.head replay.daemon.failure (Some fault) refl refl is stored.store;
}

-- want of memory before the last commit
pub memory_leaves : {D : Type 0} (files : D → Option Files) (faults moment : D → ℕ) (left : D → ℕ → Files → Type 0) (trace : Recording) (run first_epoch : ℕ) (steps : List Step) (begin : Head) (start store : D) (replay : Replay)
    → IsStored files faults moment left trace run first_epoch steps begin start store replay → replay.daemon.failure ≡ None
    → LeavesParts files faults moment left trace (record_of run first_epoch (run_so_far Free trace first_epoch steps)) begin start store (Some Memory)
memory_leaves files faults moment left trace run first_epoch steps begin start store replay stored fine = record {
  parts = replay.daemon.part;
  head = replay.daemon.head;
  whole = λ none. some_none Memory none;
  store = store_rests files faults moment left trace _ begin start store replay.daemon.part replay.daemon.head None (Some Memory) (inr refl)
      (store_as files faults moment left trace _ begin start store replay.daemon.part replay.daemon.part replay.daemon.head replay.daemon.head replay.daemon.failure None refl refl fine stored.store);
}

-- the last commit, or its fault
ends_with : {D : Type 0} (files : D → Option Files) (faults moment : D → ℕ) (left : D → ℕ → Files → Type 0) (trace : Recording) (run first_epoch : ℕ) (steps : List Step) (begin : Head) (start store after : D) (replay : Replay) (losses : List (List Loss)) (result : Result Recorded DbFault)
    → IsStored files faults moment left trace run first_epoch steps begin start store replay → replay.daemon.failure ≡ None
    → IsNextPart trace (record_of run first_epoch (run_so_far Free trace first_epoch steps)) replay.daemon.part (part_in replay.daemon replay.daemon.state.epoch true losses)
    → replay.daemon.part + 1 ≡ part_count (records_in trace)
    → Finishes files faults moment left replay.daemon losses None store result after
    → LeavesParts files faults moment left trace (record_of run first_epoch (run_so_far Free trace first_epoch steps)) begin start after (fault_in result)
ends_with files faults moment left trace run first_epoch steps begin start store after replay losses (Ok kept) stored fine next last ends =
    let whole = record_of run first_epoch (run_so_far Free trace first_epoch steps) in
    let follows : FollowsOn whole begin = record { run = stored.run_is; first_epoch = stored.first_is } in
    let now = store_as files faults moment left trace whole begin start store replay.daemon.part replay.daemon.part replay.daemon.head replay.daemon.head replay.daemon.failure None refl refl fine stored.store in
    let committed = subst (λ (p : Part). IsCommitted files faults moment left p ends.1.0 store after) next.same ends.1.1 in
    record {
      parts = replay.daemon.part + 1;
      head = ends.1.0;
      whole = λ none. last;
      store = store_grows files faults moment left trace whole begin replay.daemon.head ends.1.0 start store after replay.daemon.part follows next.within now committed;
    }
ends_with files faults moment left trace run first_epoch steps begin start store after replay losses (Err fault) stored fine next last ends =
    let whole = record_of run first_epoch (run_so_far Free trace first_epoch steps) in
    let follows : FollowsOn whole begin = record { run = stored.run_is; first_epoch = stored.first_is } in
    let now = store_as files faults moment left trace whole begin start store replay.daemon.part replay.daemon.part replay.daemon.head replay.daemon.head replay.daemon.failure None refl refl fine stored.store in
    let failed = subst (λ (p : Part). HasFailed files faults moment left p fault store after) next.same ends in
    record {
      parts = replay.daemon.part;
      head = replay.daemon.head;
      whole = λ none. some_none fault none;
      store = store_fails files faults moment left trace whole begin replay.daemon.head start store after replay.daemon.part fault follows next.within now failed;
    }

pub finish_leaves : {D : Type 0} (files : D → Option Files) (faults moment : D → ℕ) (left : D → ℕ → Files → Type 0) → DriverLaws → (trace : Recording) (run first_epoch : ℕ) (steps : List Step) (begin : Head) (start store after : D) (replay : Replay) (losses : List (List Loss)) (result : Result Recorded DbFault)
    → HasEnded trace run first_epoch steps replay → IsStored files faults moment left trace run first_epoch steps begin start store replay → replay.daemon.failure ≡ None
    → losses ≡ (record_of run first_epoch (run_so_far Free trace first_epoch steps)).losses
    → Finishes files faults moment left replay.daemon losses replay.daemon.failure store result after
    → LeavesParts files faults moment left trace (record_of run first_epoch (run_so_far Free trace first_epoch steps)) begin start after (fault_in result)
finish_leaves files faults moment left laws trace run first_epoch steps begin start store after replay losses result ended stored fine lost ends =
    let next = last_next laws trace run first_epoch steps replay losses ended fine stored.parts lost in
    ends_with files faults moment left trace run first_epoch steps begin start store after replay losses result stored fine next.0 next.1
    (subst (λ (o : Option DbFault). Finishes files faults moment left replay.daemon losses o store result after) fine ends)

-- the record that it answers
kept_with : {D : Type 0} (files : D → Option Files) (faults moment : D → ℕ) (left : D → ℕ → Files → Type 0) (daemon : Collection) (losses : List (List Loss)) (store after : D) (result : Result Recorded DbFault) (kept : Recorded)
    → result ≡ Ok kept → Finishes files faults moment left daemon losses None store result after → kept ≡ record_in daemon losses
kept_with files faults moment left daemon losses store after (Ok mine) kept is ends = let same : mine ≡ kept = cc in sym same ∙ ends.0
kept_with files faults moment left daemon losses store after (Err fault) kept is ends = absurd cc

pub kept_is : {D : Type 0} (files : D → Option Files) (faults moment : D → ℕ) (left : D → ℕ → Files → Type 0) (trace : Recording) (run first_epoch : ℕ) (steps : List Step) (store after : D) (replay : Replay) (losses : List (List Loss)) (result : Result Recorded DbFault) (kept : Recorded)
    → HasEnded trace run first_epoch steps replay → replay.daemon.failure ≡ None → losses ≡ (record_of run first_epoch (run_so_far Free trace first_epoch steps)).losses
    → Finishes files faults moment left replay.daemon losses replay.daemon.failure store result after → result ≡ Ok kept
    → kept ≡ record_of run first_epoch (run_so_far Free trace first_epoch steps)
kept_is files faults moment left trace run first_epoch steps store after replay losses result kept ended fine lost ends is =
    let stands = ended.taken.stands in
    kept_with files faults moment left replay.daemon losses store after result kept is
    (subst (λ (o : Option DbFault). Finishes files faults moment left replay.daemon losses o store result after) fine ends)
    ∙ (λ i. record { run = stands.run_is i; first_epoch = stands.first_is i; drains = stands.drains fine i; losses = lost i })

-- want of memory before the first step
pub nothing_done : {D : Type 0} (files : D → Option Files) (faults moment : D → ℕ) (left : D → ℕ → Files → Type 0) (trace : Recording) (kept : Recorded) (begin : Head) (start : D)
    → LeavesParts files faults moment left trace kept begin start start (Some Memory)
nothing_done files faults moment left trace kept begin start = record {
  parts = 0;
  head = begin;
  whole = λ none. some_none Memory none;
  store = store_rests files faults moment left trace kept begin start start 0 begin None (Some Memory) (inr refl) (store_starts files faults moment left trace kept begin start);
}
