-- A run whose daemon keeps a fault: what it drained before is that of a run that was cut short.
use Rattle.std.proofs.Common.{◌≡◌, refl, ◌∙◌, ap, subst, arith, ℕ, zero, suc, ◌+◌, List, [], ◌∷◌, ◌++◌, Some}
use Rattle.std.specs.Prelude.{slice_get}
use Rattle.sample_key.specs.Sent.{Sent}
use Rattle.sample_key.specs.declared.losses.Pace.{Pace}
use Rattle.trace_model.specs.Recording.{Recording}
use Rattle.driver_model.specs.Driver.{Setup}
use Rattle.driver_model.specs.Invariant.{DriverInvariant}
use Rattle.database_model.specs.Runs.{Drained}
use Rattle.database_state.specs.declared.faults.DbFault.{DbFault}
use Rattle.run_model.specs.Books.{KeepsBooks}
use Rattle.run_model.specs.Daemon.{Daemon}
use Rattle.run_model.specs.Shares.{batches_in, drains_of, share_in}
use Rattle.run_model.specs.Validity.{IsPartialRun}
use Rattle.run_laws.proofs.Endings.{got_within}
use Rattle.run_joins.specs.Joins.{AreFirst, WasCutShort}
use Rattle.shared_side.specs.Shown.{Shown}
use Rattle.lane_threads.specs.Pairs.{Pairwise}
use Rattle.lane_threads.specs.Starting.{WereClosed}
use Rattle.lane_threads.specs.Working.{Working}
use Rattle.dcpid_core.specs.Collection.{Collection}
use Rattle.daemon_rounds.specs.Knowing.{AreFrontOf, Knows, KnowsFrom, WasCollected}
use Rattle.run_drive.specs.Ending.{AllEnded, WasEnded, WereJoined}
use Rattle.run_drive.specs.Running.{plain_sides}
use Rattle.run_drive.proofs.EndsJoined.{EndLaws}

-- what was drained is the front of what was taken later
drained_first : (drains : List Drained) (front taken : List Sent) → batches_in drains ≡ front → AreFrontOf front taken → AreFirst drains taken
drained_first drains front taken is first = (first.0, ap (λ (z : List Sent). z ++ first.0) is ∙ first.1)

-- one processor
one_cut : EndLaws → (pace : Pace) (trace : Recording) (first_epoch cpu : ℕ) (until : Daemon) (work : Working) (side : Shown)
    → KeepsBooks pace trace first_epoch until → WasEnded pace trace cpu work → WereClosed work side → WasCollected pace trace cpu until side.far
    → WasCutShort pace trace cpu until.applied (share_in until.drains [] cpu)
one_cut laws pace trace first_epoch cpu until work side books ended closed known =
    let mine = known.collected in (
      work.lane.driver,
      work.side.seen,
      record {
        within = books.stands.within;
        lane = subst (λ (setup : Setup). DriverInvariant setup work.lane.driver work.side.seen) ended.setup closed.working.invariant;
        buckets = ended.buckets;
        losses = refl;
        first0 = laws.fronts work.side.seen.first side.far.first (drains_of cpu 0 until.drains) closed.first
            (drained_first (drains_of cpu 0 until.drains) known.then.first.taken side.far.first.taken mine.collects.taken0 known.first);
        first1 = laws.fronts work.side.seen.second side.far.second (drains_of cpu 1 until.drains) closed.second
            (drained_first (drains_of cpu 1 until.drains) known.then.second.taken side.far.second.taken mine.collects.taken1 known.second);
        first2 = laws.fronts work.side.seen.third side.far.third (drains_of cpu 2 until.drains) closed.third
            (drained_first (drains_of cpu 2 until.drains) known.then.third.taken side.far.third.taken mine.collects.taken2 known.third);
        due0 = mine.due0;
        due1 = mine.due1;
        due2 = mine.due2;
        before = mine.collects.before2;
        collected = mine.collects.collected;
      },
    )

-- all processors
all_cut : EndLaws → (pace : Pace) (trace : Recording) (first_epoch cpu : ℕ) (until : Daemon) (fault : DbFault) (works : List Working) (sides : List Shown)
    → KeepsBooks pace trace first_epoch until → AllEnded pace trace cpu works → Pairwise WereClosed works sides → KnowsFrom pace trace cpu until (Some fault) (plain_sides sides)
    → (k : ℕ) (work : Working) → slice_get works k ≡ Some work → WasCutShort pace trace (cpu + k) until.applied (share_in until.drains [] (cpu + k))
all_cut laws pace trace first_epoch cpu until fault [] sides books ended closed known k work got = absurd cc
all_cut laws pace trace first_epoch cpu until fault (w ∷ ws) [] books ended closed known k work got = absurd closed
all_cut laws pace trace first_epoch cpu until fault (w ∷ ws) (s ∷ ss) books ended closed known zero work got =
    let here : cpu ≡ cpu + 0 = omega arith in
    subst (λ (n : ℕ). WasCutShort pace trace n until.applied (share_in until.drains [] n)) here (one_cut laws pace trace first_epoch cpu until w s books ended.0 closed.0 known.0)
all_cut laws pace trace first_epoch cpu until fault (w ∷ ws) (s ∷ ss) books ended closed known (suc k) work got =
    let later : cpu + 1 + k ≡ cpu + suc k = omega arith in
    subst (λ (n : ℕ). WasCutShort pace trace n until.applied (share_in until.drains [] n)) later
    (all_cut laws pace trace first_epoch (cpu + 1) until fault ws ss books ended.1 closed.1 known.1 k work got)

pub run_cut : EndLaws → (pace : Pace) (trace : Recording) (run first_epoch : ℕ) (until : Daemon) (daemon : Collection) (fault : DbFault) (works : List Working) (sides : List Shown)
    → WereJoined pace trace works sides → Knows pace trace run first_epoch until daemon (plain_sides sides) → daemon.failure ≡ Some fault
    → IsPartialRun pace trace first_epoch until.drains
run_cut laws pace trace run first_epoch until daemon fault works sides joined knows fails =
    let known : KnowsFrom pace trace 0 until (Some fault) (plain_sides sides) = subst (λ o. KnowsFrom pace trace 0 until o (plain_sides sides)) fails knows.each in
    laws.cut pace trace first_epoch until.applied until.drains knows.books.drains (λ cpu within.
    let found = got_within works cpu (omega (arith, within, joined.count)) in
    let number : 0 + cpu ≡ cpu = omega arith in
    subst (λ (n : ℕ). WasCutShort pace trace n until.applied (share_in until.drains [] n)) number
    (all_cut laws pace trace first_epoch 0 until fault works sides knows.books joined.ended joined.closed known cpu found.0 found.1))
