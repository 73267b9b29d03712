-- A run after calls that only read: what it leaves since their start.
use Rattle.std.proofs.Common.{◌≡◌, ◌∙◌, ℕ, refl, subst}
use Rattle.std.specs.Prelude.{IfOk}
use Rattle.std.specs.declared.option.Option.{Option}
use Rattle.std.specs.declared.result.Result.{Result}
use Rattle.std.specs.declared.result.Result.TheVariants.{Ok, Err}
use Rattle.sample_key.specs.declared.losses.Pace.{Pace}
use Rattle.sample_key.specs.declared.losses.Pace.TheVariants.{Exact}
use Rattle.trace_model.specs.Recording.{Recording}
use Rattle.store_io.specs.Files.{Files}
use Rattle.store_io.proofs.Chains.{after_reads}
use Rattle.database_model.specs.Runs.{Recorded}
use Rattle.database_state.specs.Heads.{Head}
use Rattle.database_state.specs.Standing.{HaveHead, database_of}
use Rattle.database_state.specs.declared.faults.DbFault.{DbFault}
use Rattle.database_state.specs.declared.faults.DbFault.TheVariants as faults
use Rattle.dcpid_core.specs.Storing.{TellsNow}
use Rattle.dcpid_core.specs.declared.outcomes.Outcome.{Outcome}
use Rattle.replay_drive.specs.Growing.{CountsFaults, KeepsStore, MayBeGrown, parts_at_most}
use Rattle.run_drive.specs.Outcomes.{GivesRun, GrowsPlainly, LeavesRun}
use Rattle.dcpi_top.specs.Heads.{OpenedWith}
use Rattle.dcpi_top.specs.Moments.{ReadsOnly}
use Rattle.dcpi_top.specs.Replays.{IsReadInto}
use Rattle.dcpi_top.specs.Streams.{Stream, seen}
use Rattle.dcpi_top.proofs.Replayed.{none_yet, of_told}
use Rattle.dcpi_run_top.specs.Runs.{HasRun, LeavesDisk}

module _ {D : Type 0} (files : D → Option Files) (counts moment : D → ℕ) (left_since : D → ℕ → Files → Type 0) (old middle new : D)
    (reads : ReadsOnly files moment left_since old middle) (same : counts middle ≡ counts old) where
  -- files that were told at their start are told behind them
  later : (h : Head) (f : Files) → TellsNow files moment left_since old h f → TellsNow files moment left_since middle h f
  later h f tells = record {
    told = reads.files ∙ tells.told;
    has_head = tells.has_head;
    crash = λ c here. tells.crash c (reads.crash c here);
  }

  keeps_since : (trace : Recording) (kept : Recorded) (begin : Head) (parts : ℕ) (head : Head) (failure : Option DbFault)
      → KeepsStore files counts moment left_since trace kept begin middle new parts head failure
      → KeepsStore files counts moment left_since trace kept begin old new parts head failure
  keeps_since trace kept begin parts head failure keeps = record {
    within = keeps.within;
    heads = keeps.heads;
    rows = keeps.rows;
    grown = λ f told has none. keeps.grown f (reads.files ∙ told) has none;
    count = subst (λ n. CountsFaults n (counts new) failure) same keeps.count;
    cause = λ f fault told has is before. keeps.cause f fault (reads.files ∙ told) has is before;
    any_moment = λ f tells. after_reads (MayBeGrown trace kept 0 (parts_at_most parts failure) (database_of begin f))
        (λ c here. none_yet trace kept (parts_at_most parts failure) begin f c (tells.crash c here).0 (tells.crash c here).1)
        reads.time (keeps.any_moment f (later begin f tells));
    present = λ f g tells now. keeps.present f g (later begin f tells) now;
    after_it = λ f g tells none now. keeps.after_it f g (later begin f tells) none now;
  }

  leaves_since : (pace : Pace) (trace : Recording) (begin : Head) (result : Result Outcome DbFault)
      → LeavesRun files counts moment left_since pace trace begin middle new result
      → LeavesRun files counts moment left_since pace trace begin old new result
  leaves_since pace trace begin (Ok outcome) leaves = record {
    head = leaves.head;
    store = keeps_since trace outcome.kept begin _ leaves.head _ leaves.store;
  }
  leaves_since pace trace begin (Err fault) stops = record {
    kept = stops.kept;
    ended = stops.ended;
    parts = stops.parts;
    head = stops.head;
    follows = stops.follows;
    valid = stops.valid;
    last = stops.last;
    store = keeps_since trace stops.kept begin stops.parts stops.head _ stops.store;
  }

  plainly_since : (trace : Recording) (begin : Head) (result : Result Outcome DbFault)
      → IfOk result (GrowsPlainly files trace begin middle new) → IfOk result (GrowsPlainly files trace begin old new)
  plainly_since trace begin (Ok outcome) grows = record {
    adds = grows.adds;
    counts = λ f told has. grows.counts f (reads.files ∙ told) has;
  }
  plainly_since trace begin (Err fault) grows = tt

-- an outcome is that of a run
pub gives : (pace : Pace) (trace : Recording) (head : Head) (result : Result Outcome DbFault)
    → IfOk result (Rattle.run_drive.specs.Outcomes.IsRunOf pace trace head) → GivesRun pace trace head result
gives pace trace head (Ok outcome) run = run
gives pace trace head (Err fault) run = tt

-- and its record can be stored
pub recorded : (pace : Pace) (trace : Recording) (head : Head) (result : Result Outcome DbFault)
    → IfOk result (Rattle.run_drive.specs.Outcomes.IsRunOf pace trace head)
    → IfOk result (λ outcome. Rattle.database_model.specs.Ranges.IsRecorded outcome.kept)
recorded pace trace head (Ok outcome) run = run.recorded
recorded pace trace head (Err fault) run = tt

-- what is left of the database
disk_left : {D : Type 0} (files : D → Option Files) (counts moment : D → ℕ) (left_since : D → ℕ → Files → Type 0) (pace : Pace) (trace : Recording)
    (head : Head) (old new : D) (result : Result Outcome DbFault) → OpenedWith (seen files counts old new) head
    → LeavesRun files counts moment left_since pace trace head old new result
    → LeavesDisk trace head (seen files counts old new) result
disk_left files counts moment left_since pace trace head old new (Ok outcome) opened leaves = (
  leaves.store.count,
  λ f told. let (g, now, has, grown) = leaves.store.grown f told (of_told (files old) (λ x. HaveHead x head) f opened told) refl in
      (g, leaves.head, now, has, leaves.store.heads refl, grown),
)
disk_left files counts moment left_since pace trace head old new (Err faults.StoreFault) opened stops =
    record { later = stops.store.count.0; rose = stops.store.count.1 }
disk_left files counts moment left_since pace trace head old new (Err (faults.Bad file)) opened stops = stops.store.count
disk_left files counts moment left_since pace trace head old new (Err (faults.Full what held added)) opened stops = stops.store.count
disk_left files counts moment left_since pace trace head old new (Err faults.Memory) opened stops = stops.store.count

-- what the run itself says of the store that it was given
pub record RunsOn {D : Type 0} (files : D → Option Files) (counts moment : D → ℕ) (left_since : D → ℕ → Files → Type 0) (pace : Pace)
    (trace : Recording) (head : Head) (old new : D) (result : Result Outcome DbFault) : Type 0 where
  pub run : IfOk result (Rattle.run_drive.specs.Outcomes.IsRunOf pace trace head)
  pub leaves : LeavesRun files counts moment left_since pace trace head old new result
  pub plain : pace ≡ Exact → IfOk result (GrowsPlainly files trace head old new)

-- the run that was made
pub has_run : {D : Type 0} (files : D → Option Files) (counts moment : D → ℕ) (left_since : D → ℕ → Files → Type 0) (pace : Pace) (input : Stream)
    (trace : Recording) (head : Head) (old middle new : D) (result : Result Outcome DbFault)
    → IsReadInto input trace (seen files counts old middle) head → ReadsOnly files moment left_since old middle → counts middle ≡ counts old
    → RunsOn files counts moment left_since pace trace head middle new result
    → HasRun files counts moment left_since pace input old new result
has_run {D} files counts moment left_since pace input trace head old middle new result into reads same runs =
    let leaves : LeavesRun files counts moment left_since pace trace head old new result =
    leaves_since files counts moment left_since old middle new reads same pace trace head result runs.leaves in
    record {
      recording = trace;
      head = head;
      into = record { reads = into.reads; whole = into.whole; counted = into.counted; opened = into.opened };
      run = gives pace trace head result runs.run;
      leaves = leaves;
      disk = disk_left files counts moment left_since pace trace head old new result into.opened leaves;
      plain = λ exact. plainly_since files counts moment left_since old middle new reads same trace head result (runs.plain exact);
    }
