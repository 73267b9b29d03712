-- The record of a finished run can be stored, and its outcome is that of a run.
use Rattle.std.proofs.Common.{◌≡◌, refl, sym, ◌∙◌, ap, subst, arith, ℕ, zero, suc, ◌+◌, ◌<◌, ◌≤◌, List, [], ◌∷◌, length, Option, Some, None, Ok}
use Rattle.std.specs.Prelude.{slice_get, IsSomeAnd}
use Rattle.sample_key.specs.declared.losses.Loss.{Loss}
use Rattle.sample_key.specs.declared.losses.Pace.{Pace}
use Rattle.trace_model.specs.Recording.{Recording}
use Rattle.trace_model.specs.Streams.{stream_of}
use Rattle.driver_model.specs.Lists.{AllOf}
use Rattle.driver_model.specs.Invariant.{entries_of}
use Rattle.driver_model.specs.declared.plans.Stats.{Stats}
use Rattle.database_model.specs.Ranges.{IsDrained, IsRecorded}
use Rattle.database_model.specs.Runs.{Drained, Recorded}
use Rattle.store_io.specs.Files.{Files}
use Rattle.database_state.specs.Heads.{Head}
use Rattle.run_model.specs.Shares.{AgreesWith, Share, batches_in, drains_of, share_of}
use Rattle.run_model.specs.Validity.{AreDrains, IsValidRun, StatisticsAgree}
use Rattle.run_exact.specs.Exact.{IsExactRecord}
use Rattle.sample_key.specs.declared.losses.Pace.TheVariants.{Exact}
use Rattle.run_laws.specs.Laws.{IsFit}
use Rattle.run_laws.proofs.Storing.{all_by_cell, all_std, drains_stored}
use Rattle.shared_side.specs.Shown.{Shown}
use Rattle.lane_threads.specs.Working.{Working}
use Rattle.dcpid_core.specs.Collection.{Collection}
use Rattle.dcpid_core.specs.Finishing.{AreLossesOf, Finishes}
use Rattle.dcpid_core.specs.declared.outcomes.Outcome.{Outcome}
use Rattle.run_drive.specs.Ending.{WereJoined}
use Rattle.run_drive.specs.Outcomes.{FollowsOn, IsRunOf}
use Rattle.run_drive.specs.Running.{HasFinished, plain_sides}
use Rattle.run_drive.proofs.EndsJoined.{EndLaws, losses_fit, losses_in, record_with, run_exact, run_valid, statistics_agree, stats_in}
use Rattle.run_drive.proofs.EndsStore.{finished, kept_is, ok_fine}

-- no batch has more entries than all together
small_batches : (drains : List Drained) → entries_of (batches_in drains) ≤ 2000000 → AllOf (λ drain. length drain.batch.entries ≤ 2000000) drains
small_batches [] few = tt
small_batches (d ∷ ds) few = (omega (arith, few), small_batches ds (omega (arith, few)))

some_agrees : (samples : ℕ) (share : Share) (o : Option Stats) → IsSomeAnd o (AgreesWith samples share) → (stats : Stats) × AgreesWith samples share stats
some_agrees samples share None h = absurd h
some_agrees samples share (Some stats) h = (stats, h)

-- of each cell
cell_fits : (trace : Recording) (kept : Recorded) (stats : List Stats) → IsFit trace → StatisticsAgree trace kept stats → (cpu cell : ℕ) → cpu < trace.cpus → cell ≤ 2
    → AllOf (λ drain. length drain.batch.entries ≤ 2000000) (drains_of cpu cell kept.drains)
cell_fits trace kept stats fit agree cpu zero within few =
    let a = (some_agrees (length (stream_of cpu trace)) (share_of kept cpu) (slice_get stats cpu) (agree.each cpu within)).1 in
    small_batches (drains_of cpu 0 kept.drains) (omega (arith, a.written, a.all, (fit.streams cpu).few))
cell_fits trace kept stats fit agree cpu (suc zero) within few =
    let a = (some_agrees (length (stream_of cpu trace)) (share_of kept cpu) (slice_get stats cpu) (agree.each cpu within)).1 in
    small_batches (drains_of cpu 1 kept.drains) (omega (arith, a.written, a.all, (fit.streams cpu).few))
cell_fits trace kept stats fit agree cpu (suc (suc zero)) within few =
    let a = (some_agrees (length (stream_of cpu trace)) (share_of kept cpu) (slice_get stats cpu) (agree.each cpu within)).1 in
    small_batches (drains_of cpu 2 kept.drains) (omega (arith, a.placed, a.all, (fit.streams cpu).few))
cell_fits trace kept stats fit agree cpu (suc (suc (suc n))) within few = absurd (omega (arith, few))

pub recorded : (trace : Recording) (kept : Recorded) (stats : List Stats) → IsFit trace → AreDrains trace kept.first_epoch kept.drains → StatisticsAgree trace kept stats
    → AreLossesOf trace.cpus kept.losses → IsRecorded kept
recorded trace kept stats fit drains agree losses = record {
  drains = all_std IsDrained kept.drains (drains_stored trace kept.first_epoch kept.drains fit drains.placed
      (all_by_cell (λ drain. length drain.batch.entries ≤ 2000000) trace kept.drains drains.of_trace (λ cpu cell within few. cell_fits trace kept stats fit agree cpu cell within few)));
  processors = omega (arith, losses.count, fit.cpus);
  losses = losses.each;
}

-- ---- the outcome

-- what is so of the record of the run is so of the one that is answered
rebuilt : (pace : Pace) (trace : Recording) (begin : Head) (outcome : Outcome) (whole : Recorded) → whole ≡ outcome.kept → FollowsOn begin whole → IsValidRun pace trace whole
    → StatisticsAgree trace whole outcome.stats.items → (pace ≡ Exact → IsExactRecord trace whole) → IsRecorded whole → IsRunOf pace trace begin outcome
rebuilt pace trace begin outcome whole same follows valid agree exact recorded = record {
  follows = subst (λ (z : Recorded). FollowsOn begin z) same follows;
  valid = subst (λ (z : Recorded). IsValidRun pace trace z) same valid;
  agree = subst (λ (z : Recorded). StatisticsAgree trace z outcome.stats.items) same agree;
  exact = λ e. subst (λ (z : Recorded). IsExactRecord trace z) same (exact e);
  recorded = subst (λ (z : Recorded). IsRecorded z) same recorded;
}

pub outcome_is : {D : Type 0} (files : D → Option Files) (faults moment : D → ℕ) (left : D → ℕ → Files → Type 0) → EndLaws → (pace : Pace) (trace : Recording) (begin : Head) (start store after : D) (daemon : Collection) (works : List Working) (sides : List Shown) (losses : List (List Loss)) (outcome : Outcome)
    → WereJoined pace trace works sides → HasFinished files faults moment left pace trace begin start store daemon sides → losses ≡ losses_in works → outcome.stats.items ≡ stats_in works
    → Finishes files faults moment left daemon losses daemon.failure store (Ok outcome.kept) after → IsRunOf pace trace begin outcome
outcome_is files faults moment left laws pace trace begin start store after daemon works sides losses outcome joined h lost counted ends =
    let ok = ok_fine files faults moment left daemon losses daemon.failure store after outcome.kept ends in
    let whole = record_with (begin.runs + 1) begin.epoch h.until (losses_in works) in
    let done = finished files faults moment left pace trace begin start store daemon works sides joined h ok.0 in
    let same : outcome.kept ≡ whole =
    ok.1 ∙ kept_is pace trace (begin.runs + 1) begin.epoch h.until daemon (plain_sides sides) losses h.knows ok.0
    ∙ ap (λ (z : List (List Loss)). record_with (begin.runs + 1) begin.epoch h.until z) lost in
    let agree : StatisticsAgree trace whole (stats_in works) = statistics_agree laws pace trace (begin.runs + 1) begin.epoch h.until daemon works sides done in
    rebuilt pace trace begin outcome whole (sym same) (record { run = refl; first_epoch = refl }) (run_valid laws pace trace (begin.runs + 1) begin.epoch h.until daemon works sides done)
    (subst (λ (z : List Stats). StatisticsAgree trace whole z) (sym counted) agree)
    (run_exact laws pace trace (begin.runs + 1) begin.epoch h.until daemon works sides done)
    (recorded trace whole (stats_in works) joined.fit h.knows.books.drains agree (losses_fit pace trace works sides joined))
