-- A whole run: what it answers, what is left where it could not begin, and that the exact pace counts plainly.
use Rattle.std.proofs.Common.{◌≡◌, refl, sym, ◌∙◌, subst, ℕ, ◌+◌, false, List, [], length, Option, Some, None, Ok, Err, inr}
use Rattle.std.specs.Prelude.{IfOk}
use Rattle.std.specs.declared.result.Result.{Result}
use Rattle.sample_key.specs.declared.losses.Pace.{Pace}
use Rattle.sample_key.specs.declared.losses.Pace.TheVariants.{Exact}
use Rattle.trace_model.specs.Recording.{Recording}
use Rattle.trace_model.specs.Streams.{records_in}
use Rattle.database_model.specs.Runs.{Recorded}
use Rattle.store_io.specs.Files.{Files}
use Rattle.database_state.specs.Heads.{Head}
use Rattle.database_state.specs.Limits.{IsProfile}
use Rattle.database_state.specs.Standing.{database_of}
use Rattle.database_state.specs.declared.faults.DbFault.{DbFault}
use Rattle.database_state.specs.declared.faults.DbFault.TheVariants.{Memory}
use Rattle.growth_laws.specs.Places.{PlainRecordsAddPlainly}
use Rattle.growth_laws.specs.Whole.{HasProfiles, RunsAddAllDrains}
use Rattle.run_model.specs.Validity.{IsPartialRun, IsValidRun}
use Rattle.run_laws.specs.Laws.{DrainsAreValid, IsFit}
use Rattle.run_exact.specs.Exact.{ExactRunsArePlain}
use Rattle.shared_side.specs.Shown.{Shown}
use Rattle.lane_threads.specs.Pairs.{Pairwise}
use Rattle.lane_threads.specs.Promising.{IsOfWork}
use Rattle.lane_threads.specs.Starting.{AllStart, AreEndsOfOne}
use Rattle.lane_threads.specs.Working.{Working}
use Rattle.lane_threads.specs.declared.starts.Waiting.{Waiting}
use Rattle.dcpid_core.specs.Collection.{Collection, new_collection}
use Rattle.dcpid_core.specs.declared.outcomes.Outcome.{Outcome}
use Rattle.replay_drive.proofs.StoreKept.{store_rests, store_starts}
use Rattle.run_drive.specs.Outcomes.{GivesRun, GrowsPlainly, IsRunOf, LeavesRun, StopsRun}
use Rattle.run_drive.specs.Running.{IsReady}
use Rattle.run_drive.proofs.Scoped.{ends_at_start, pairs_length}

-- a run that answers an outcome answers that of a run of the trace
pub gives_if_ok : (pace : Pace) (trace : Recording) (head : Head) (result : Result Outcome DbFault) → GivesRun pace trace head result → IfOk result (IsRunOf pace trace head)
gives_if_ok pace trace head (Ok outcome) gives = gives
gives_if_ok pace trace head (Err fault) gives = tt

-- nothing was drained
none_drained : DrainsAreValid → (pace : Pace) (trace : Recording) (first_epoch : ℕ) → IsFit trace → IsPartialRun pace trace first_epoch []
none_drained law pace trace first_epoch fit = law pace trace first_epoch [] fit

-- want of memory before the first thread
pub none_begun : {D : Type 0} (files : D → Option Files) (faults moment : D → ℕ) (left : D → ℕ → Files → Type 0) → DrainsAreValid → (pace : Pace) (trace : Recording) (begin : Head) (start : D) → IsFit trace
    → StopsRun files faults moment left pace trace begin start start Memory
none_begun files faults moment left law pace trace begin start fit =
    let kept : Recorded = record { run = begin.runs + 1; first_epoch = begin.epoch; drains = []; losses = [] } in
    record {
      kept = kept;
      ended = false;
      parts = 0;
      head = begin;
      follows = record { run = refl; first_epoch = refl };
      valid = (refl, none_drained law pace trace begin.epoch fit);
      last = λ other here. absurd (other refl);
      store = store_rests files faults moment left trace kept begin start start 0 begin None (Some Memory) (inr refl) (store_starts files faults moment left trace kept begin start);
    }

-- all is ready for the first thread
pub is_ready : (pace : Pace) (trace : Recording) (begin : Head) (works : List Working) (waiting : List Waiting) (sides : List Shown) (daemon : Collection) → IsFit trace → length works ≡ trace.cpus
    → AllStart pace trace 0 works sides → Pairwise IsOfWork works waiting → daemon ≡ new_collection trace pace begin → IsReady pace trace begin waiting sides daemon
is_ready pace trace begin works waiting sides daemon fit count start wait is = record { fit = fit; works = works; wait = wait; count = count; start = start; daemon_is = is }

-- one start cell waits for each side
pub as_many_wait : (pace : Pace) (trace : Recording) (begin : Head) (waiting : List Waiting) (sides : List Shown) (daemon : Collection) → IsReady pace trace begin waiting sides daemon → length sides ≡ length waiting
as_many_wait pace trace begin waiting sides daemon ready =
    sym (pairs_length AreEndsOfOne ready.works sides (ends_at_start pace trace 0 ready.works sides ready.start)) ∙ pairs_length IsOfWork ready.works waiting ready.wait

-- ---- the exact pace

-- The laws of what a run adds to a database.
pub record GrowthLaws : Type 0 where
  pub plain : ExactRunsArePlain
  pub adds : PlainRecordsAddPlainly
  pub all : RunsAddAllDrains
  pub known : (head : Head) (files : Files) (epoch : ℕ) (name : List ℕ) (event : ℕ) → IsProfile ((database_of head files).known epoch name event)
  pub unknown : (head : Head) (files : Files) (epoch event : ℕ) → IsProfile ((database_of head files).unknown epoch event)

profiles : GrowthLaws → (head : Head) (files : Files) → HasProfiles (database_of head files)
profiles laws head files = record { known = laws.known head files; unknown = laws.unknown head files }

pub grows_plainly : {D : Type 0} (files : D → Option Files) (faults moment : D → ℕ) (left : D → ℕ → Files → Type 0) → GrowthLaws → (pace : Pace) (trace : Recording) (begin : Head) (start now : D) (result : Result Outcome DbFault)
    → IsFit trace → pace ≡ Exact → GivesRun pace trace begin result → LeavesRun files faults moment left pace trace begin start now result → IfOk result (GrowsPlainly files trace begin start now)
grows_plainly files faults moment left laws pace trace begin start now (Err fault) fit exact gives leaves = tt
grows_plainly files faults moment left laws pace trace begin start now (Ok outcome) fit exact gives leaves = record {
  adds = laws.adds trace outcome.kept
      (laws.plain trace outcome.kept fit (subst (λ (p : Pace). IsValidRun p trace outcome.kept) exact gives.valid) (gives.exact exact));
  counts = λ f told has.
      let g = leaves.store.grown f told has refl in
      (g.0, leaves.head, g.1, g.2, laws.all trace.images (records_in trace) outcome.kept (database_of begin f) (database_of leaves.head g.0) (profiles laws begin f) g.3);
}
