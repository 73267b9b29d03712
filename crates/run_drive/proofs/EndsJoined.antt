-- A finished run whose lanes were joined: its record is valid, and its statistics agree with it.
use Rattle.std.proofs.Common.{◌≡◌, refl, sym, ◌∙◌, ap, subst, arith, ℕ, zero, suc, ◌+◌, ◌/◌, ◌<◌, ◌≤◌, true, List, [], ◌∷◌, length, map, None, Some, Option}
use Rattle.std.specs.Prelude.{slice_get, slice_index_or, IsSomeAnd}
use Rattle.std.specs.List.{AllByRecursion}
use Rattle.std.proofs.lemmas.List.{length-map}
use Rattle.std.proofs.lemmas.List.Elements.{All-from_recursion}
use Rattle.std.proofs.lemmas.Option.{get_or_from_slice_get}
use Rattle.sample_key.specs.declared.losses.Loss.{Loss}
use Rattle.sample_key.specs.declared.losses.Pace.{Pace}
use Rattle.sample_key.specs.declared.losses.Pace.TheVariants.{Exact}
use Rattle.trace_model.specs.Recording.{Recording}
use Rattle.trace_model.specs.Streams.{stream_of, records_in}
use Rattle.driver_model.specs.Driver.{Setup}
use Rattle.driver_model.specs.Invariant.{DriverInvariant}
use Rattle.driver_model.specs.declared.plans.Stats.{Stats}
use Rattle.driver_laws.proofs.Marks.{due_most}
use Rattle.database_model.specs.Ranges.{AreLosses}
use Rattle.database_model.specs.Runs.{Recorded}
use Rattle.run_model.specs.Daemon.{Daemon, flush_before, is_flushed}
use Rattle.run_model.specs.Running.{setup_of}
use Rattle.run_model.specs.Shares.{AgreesWith, drains_of, share_in, share_of}
use Rattle.run_model.specs.Validity.{IsValidRun, StatisticsAgree}
use Rattle.run_laws.specs.Laws.{IsFit}
use Rattle.run_laws.proofs.Endings.{got_within}
use Rattle.run_laws.proofs.Storing.{losses_rise}
use Rattle.run_laws.proofs.Systems.{map_got}
use Rattle.run_joins.specs.Collecting.{CollectsAll}
use Rattle.run_joins.specs.Joins.{CutRunsAreValid, IsJoined, JoinedRunsAreValid, JoinsAreValid, WasJoined}
use Rattle.run_closes.specs.Closes.{ClosesAreJoined, FrontsAreFirst}
use Rattle.run_exact.specs.Exact.{IsExactRecord, JoinsAreExact}
use Rattle.shared_side.specs.Shown.{Shown}
use Rattle.lane_threads.specs.Pairs.{Pairwise}
use Rattle.lane_threads.specs.Starting.{WereClosed}
use Rattle.lane_threads.specs.Working.{Working}
use Rattle.dcpid_core.specs.Collection.{Collection}
use Rattle.dcpid_core.specs.Finishing.{AreLossesOf}
use Rattle.daemon_rounds.specs.Going.{IsOver}
use Rattle.daemon_rounds.specs.Knowing.{IsCollected, Knows, KnowsFrom}
use Rattle.daemon_rounds.specs.Sides.{IsFlushedSide}
use Rattle.run_drive.specs.Ending.{AllEnded, WasEnded, WereJoined}
use Rattle.run_drive.specs.Running.{plain_sides}

-- the laws of the joins
pub record EndLaws : Type 0 where
  pub closes : ClosesAreJoined
  pub fronts : FrontsAreFirst
  pub collects : CollectsAll
  pub one : JoinsAreValid
  pub all : JoinedRunsAreValid
  pub cut : CutRunsAreValid
  pub exact : JoinsAreExact

-- what the lanes lost, and counted
abbrev pub losses_in : List Working → List (List Loss)
losses_in works = map (λ work. work.lane.driver.losses) works

abbrev pub stats_in : List Working → List Stats
stats_in works = map (λ work. work.lane.driver.stats) works

-- the record of a run of which the daemon drained so much
abbrev pub record_with : ℕ → ℕ → Daemon → List (List Loss) → Recorded
record_with run first_epoch until losses = record {
  run = run;
  first_epoch = first_epoch;
  drains = until.drains;
  losses = losses;
}

-- ---- losses

-- each lane's can be stored
lane_losses : (pace : Pace) (trace : Recording) (cpu : ℕ) (work : Working) (side : Shown) → IsFit trace → WasEnded pace trace cpu work → WereClosed work side → AreLosses work.lane.driver.losses
lane_losses pace trace cpu work side fit ended closed =
    let lane : DriverInvariant (setup_of pace trace cpu) work.lane.driver work.side.seen =
    subst (λ (setup : Setup). DriverInvariant setup work.lane.driver work.side.seen) ended.setup closed.working.invariant in
    let samples = stream_of cpu trace in
    let most : work.lane.driver.at ≤ length samples = omega (arith, lane.in_range.at, due_most samples (work.side.seen.heard / 2)) in
    let limit : length samples ≤ 2000000 = (fit.streams cpu).few in
    losses_rise work.lane.driver.at 0 (λ l. IsSomeAnd (slice_get samples l.index) (λ s. l.event ≡ s.key.event)) [] work.lane.driver.losses (omega arith)
    (λ l h. omega arith) lane.losses_in_order

all_losses : (pace : Pace) (trace : Recording) (cpu : ℕ) (works : List Working) (sides : List Shown) → IsFit trace → AllEnded pace trace cpu works → Pairwise WereClosed works sides
    → AllByRecursion AreLosses (losses_in works)
all_losses pace trace cpu [] sides fit ended closed = tt
all_losses pace trace cpu (w ∷ ws) [] fit ended closed = absurd closed
all_losses pace trace cpu (w ∷ ws) (s ∷ ss) fit ended closed = (lane_losses pace trace cpu w s fit ended.0 closed.0, all_losses pace trace (cpu + 1) ws ss fit ended.1 closed.1)

pub losses_fit : (pace : Pace) (trace : Recording) (works : List Working) (sides : List Shown) → WereJoined pace trace works sides → AreLossesOf trace.cpus (losses_in works)
losses_fit pace trace works sides joined = record {
  count = length-map works (λ (w : Working). w.lane.driver.losses) ∙ joined.count;
  each = All-from_recursion AreLosses (losses_in works) (all_losses pace trace 0 works sides joined.fit joined.ended joined.closed);
}

-- ---- one processor

-- the lane of a processor is joined with its share of what was drained
abbrev IsJoinedIn : Pace → Recording → Daemon → ℕ → Working → Type 0
IsJoinedIn pace trace until cpu work =
    IsJoined pace trace cpu work.lane.driver work.side.seen (share_in until.drains work.lane.driver.losses cpu)

one_joined : EndLaws → (pace : Pace) (trace : Recording) (cpu : ℕ) (until : Daemon) (work : Working) (side : Shown)
    → until.applied ≡ length (records_in trace) → WasEnded pace trace cpu work → WereClosed work side → IsCollected pace trace cpu until side.far
    → is_flushed (flush_before until.applied) side.far ≡ true → IsJoinedIn pace trace until cpu work
one_joined laws pace trace cpu until work side all ended closed known flushed =
    laws.closes pace trace cpu work.lane.driver work.side.seen side.far (share_in until.drains work.lane.driver.losses cpu) (record {
      lane = subst (λ (setup : Setup). DriverInvariant setup work.lane.driver work.side.seen) ended.setup closed.working.invariant;
      buckets = ended.buckets;
      done = ended.done;
      losses = refl;
      cell0 = closed.first;
      cell1 = closed.second;
      cell2 = closed.third;
      taken0 = known.collects.taken0;
      taken1 = known.collects.taken1;
      taken2 = known.collects.taken2;
      flushed = subst (λ (n : ℕ). is_flushed (flush_before n) side.far ≡ true) all flushed;
      due0 = known.due0;
      due1 = known.due1;
      due2 = known.due2;
      collected = laws.collects pace (records_in trace) until (drains_of cpu 0 until.drains) (drains_of cpu 1 until.drains) (drains_of cpu 2 until.drains) side.far all flushed known.collects;
    })

-- ---- all processors

all_joined : EndLaws → (pace : Pace) (trace : Recording) (cpu : ℕ) (until : Daemon) (works : List Working) (sides : List Shown)
    → until.applied ≡ length (records_in trace) → AllEnded pace trace cpu works → Pairwise WereClosed works sides → KnowsFrom pace trace cpu until None (plain_sides sides)
    → AllByRecursion (IsFlushedSide until.applied) (plain_sides sides)
    → (k : ℕ) (work : Working) → slice_get works k ≡ Some work → IsJoinedIn pace trace until (cpu + k) work
all_joined laws pace trace cpu until [] sides all ended closed known flushed k work got = absurd cc
all_joined laws pace trace cpu until (w ∷ ws) [] all ended closed known flushed k work got = absurd closed
all_joined laws pace trace cpu until (w ∷ ws) (s ∷ ss) all ended closed known flushed zero work got =
    let same : w ≡ work = cc in
    let here : cpu ≡ cpu + 0 = omega arith in
    subst (λ (x : Working). IsJoinedIn pace trace until (cpu + 0) x) same
    (subst (λ (n : ℕ). IsJoinedIn pace trace until n w) here (one_joined laws pace trace cpu until w s all ended.0 closed.0 known.0 flushed.0))
all_joined laws pace trace cpu until (w ∷ ws) (s ∷ ss) all ended closed known flushed (suc k) work got =
    let later : cpu + 1 + k ≡ cpu + suc k = omega arith in
    subst (λ (n : ℕ). IsJoinedIn pace trace until n work) later
    (all_joined laws pace trace (cpu + 1) until ws ss all ended.1 closed.1 known.1 flushed.1 k work got)

-- what a lane lost stands at its number
losses_at : (works : List Working) (cpu : ℕ) (work : Working) → slice_get works cpu ≡ Some work → slice_index_or (losses_in works) cpu [] ≡ work.lane.driver.losses
losses_at works cpu work got =
    get_or_from_slice_get (losses_in works) cpu work.lane.driver.losses [] (map_got (λ (w : Working). w.lane.driver.losses) works cpu work got)

-- ---- a finished run

-- The daemon of a run has finished it and keeps no fault, and the lanes were joined.
pub record WasFinished (pace : Pace) (trace : Recording) (run first_epoch : ℕ) (until : Daemon) (daemon : Collection) (works : List Working) (sides : List Shown) : Type 0 where
  pub joined : WereJoined pace trace works sides
  pub knows : Knows pace trace run first_epoch until daemon (plain_sides sides)
  pub over : IsOver daemon (plain_sides sides)
  pub fine : daemon.failure ≡ None

-- where the daemon stands
pub until_all : (pace : Pace) (trace : Recording) (run first_epoch : ℕ) (until : Daemon) (daemon : Collection) (works : List Working) (sides : List Shown)
    → WasFinished pace trace run first_epoch until daemon works sides → until.applied ≡ length (records_in trace)
until_all pace trace run first_epoch until daemon works sides h =
    ap (λ (z : Daemon). z.applied) (sym (h.knows.same h.fine)) ∙ h.over.all ∙ ap (λ (t : Recording). length (records_in t)) h.knows.trace_is

-- the work of each processor, joined
each_joined : EndLaws → (pace : Pace) (trace : Recording) (run first_epoch : ℕ) (until : Daemon) (daemon : Collection) (works : List Working) (sides : List Shown)
    → WasFinished pace trace run first_epoch until daemon works sides → (cpu : ℕ) → cpu < trace.cpus
    → (work : Working) × (slice_get works cpu ≡ Some work) × IsJoined pace trace cpu work.lane.driver work.side.seen (share_of (record_with run first_epoch until (losses_in works)) cpu)
each_joined laws pace trace run first_epoch until daemon works sides h cpu within =
    let found = got_within works cpu (omega (arith, within, h.joined.count)) in
    let work = found.0 in
    let known : KnowsFrom pace trace 0 until None (plain_sides sides) = subst (λ o. KnowsFrom pace trace 0 until o (plain_sides sides)) h.fine h.knows.each in
    let applied : daemon.state.applied ≡ until.applied = ap (λ (z : Daemon). z.applied) (h.knows.same h.fine) in
    let flushed : AllByRecursion (IsFlushedSide until.applied) (plain_sides sides) = subst (λ (n : ℕ). AllByRecursion (IsFlushedSide n) (plain_sides sides)) applied h.over.flushed in
    let mine : IsJoinedIn pace trace until (0 + cpu) work =
    all_joined laws pace trace 0 until works sides (until_all pace trace run first_epoch until daemon works sides h) h.joined.ended h.joined.closed known flushed cpu work found.1 in
    let number : 0 + cpu ≡ cpu = omega arith in
    let own : IsJoinedIn pace trace until cpu work = subst (λ (n : ℕ). IsJoinedIn pace trace until n work) number mine in (
      work,
      found.1,
      subst (λ (lost : List Loss). IsJoined pace trace cpu work.lane.driver work.side.seen (share_in until.drains lost cpu)) (sym (losses_at works cpu work found.1)) own,
    )

pub run_valid : EndLaws → (pace : Pace) (trace : Recording) (run first_epoch : ℕ) (until : Daemon) (daemon : Collection) (works : List Working) (sides : List Shown)
    → WasFinished pace trace run first_epoch until daemon works sides → IsValidRun pace trace (record_with run first_epoch until (losses_in works))
run_valid laws pace trace run first_epoch until daemon works sides h =
    laws.all pace trace (record_with run first_epoch until (losses_in works))
    (length-map works (λ (w : Working). w.lane.driver.losses) ∙ h.joined.count) h.knows.books.drains
    (λ cpu within. let j = each_joined laws pace trace run first_epoch until daemon works sides h cpu within in (j.0.lane.driver, j.0.side.seen, j.2))

pub statistics_agree : EndLaws → (pace : Pace) (trace : Recording) (run first_epoch : ℕ) (until : Daemon) (daemon : Collection) (works : List Working) (sides : List Shown)
    → WasFinished pace trace run first_epoch until daemon works sides → StatisticsAgree trace (record_with run first_epoch until (losses_in works)) (stats_in works)
statistics_agree laws pace trace run first_epoch until daemon works sides h =
    let kept = record_with run first_epoch until (losses_in works) in
    record {
      processors = length-map works (λ (w : Working). w.lane.driver.stats) ∙ h.joined.count;
      each = λ cpu within.
          let j = each_joined laws pace trace run first_epoch until daemon works sides h cpu within in
          let agrees : AgreesWith (length (stream_of cpu trace)) (share_of kept cpu) j.0.lane.driver.stats = (laws.one pace trace cpu j.0.lane.driver j.0.side.seen (share_of kept cpu) j.2).1 in
          subst (λ (o : Option Stats). IsSomeAnd o (AgreesWith (length (stream_of cpu trace)) (share_of kept cpu)))
          (sym (map_got (λ (w : Working). w.lane.driver.stats) works cpu j.0 j.1)) agrees;
    }

pub run_exact : EndLaws → (pace : Pace) (trace : Recording) (run first_epoch : ℕ) (until : Daemon) (daemon : Collection) (works : List Working) (sides : List Shown)
    → WasFinished pace trace run first_epoch until daemon works sides → pace ≡ Exact → IsExactRecord trace (record_with run first_epoch until (losses_in works))
run_exact laws pace trace run first_epoch until daemon works sides h exact =
    let kept = record_with run first_epoch until (losses_in works) in
    laws.exact trace kept (λ cpu within.
    let j = each_joined laws pace trace run first_epoch until daemon works sides h cpu within in
    subst (λ (p : Pace). WasJoined p trace cpu (share_of kept cpu)) exact (j.0.lane.driver, j.0.side.seen, j.2))
