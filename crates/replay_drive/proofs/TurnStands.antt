-- After a turn the replay stands where the run stands after that turn.
use Rattle.std.proofs.Common.{◌≡◌, refl, sym, ◌∙◌, ap, subst, ℕ, ◌+◌, List, [], ◌∷◌, ◌++◌, map, true, false}
use Rattle.std.specs.Prelude.{slice_get}
use Rattle.std.proofs.lemmas.Bool.{cond-false, cond-true}
use Rattle.sample_key.specs.declared.losses.Pace.TheVariants.{Free}
use Rattle.trace_model.specs.Recording.{Recording}
use Rattle.trace_model.specs.declared.notices.Step.{Step}
use Rattle.driver_model.specs.Handover.{FarSide}
use Rattle.lane_side.specs.Plain.{Plain}
use Rattle.cpu_lane.specs.Seen.{Seen}
use Rattle.run_model.specs.Daemon.{Daemon, flush_before}
use Rattle.run_model.specs.Running.{Processor, System, acts, after_steps, after_turn, start}
use Rattle.run_laws.specs.Laws.{run_so_far}
use Rattle.run_rounds.proofs.Own.{steps_append}
use Rattle.dcpid_core.specs.Counting.{Agree, fars_in}
use Rattle.dcpid_core.specs.Collection.{Collection, FitFrom, IsFitting}
use Rattle.replay_drive.specs.Players.{ArePlayers, DaemonsHalf, half_of, system_of, turned_at}
use Rattle.replay_drive.specs.Standing.{StandsAt, without_drains}

-- one step more of a run that is not finished
pub one_step : (trace : Recording) (first_epoch : ℕ) (steps : List Step) (step : Step) → (run_so_far Free trace first_epoch steps).daemon.finished ≡ false
    → run_so_far Free trace first_epoch (steps ++ step ∷ []) ≡ acts Free trace (run_so_far Free trace first_epoch steps) step
one_step trace first_epoch steps step going =
    let now = run_so_far Free trace first_epoch steps in
    steps_append Free trace (start trace first_epoch) steps (step ∷ [])
    ∙ cond-false now.daemon.finished now (acts Free trace now step) going

-- and all that come after it
pub all_from : (trace : Recording) (first_epoch : ℕ) (steps rest : List Step) (step : Step) → (run_so_far Free trace first_epoch steps).daemon.finished ≡ false
    → run_so_far Free trace first_epoch (steps ++ step ∷ rest) ≡ after_steps Free trace (acts Free trace (run_so_far Free trace first_epoch steps) step) rest
all_from trace first_epoch steps rest step going =
    let now = run_so_far Free trace first_epoch steps in
    steps_append Free trace (start trace first_epoch) steps (step ∷ rest)
    ∙ ap (λ (s : System). after_steps Free trace s rest) (cond-false now.daemon.finished now (acts Free trace now step) going)

-- once it is finished nothing happens
pub no_step : (trace : Recording) (first_epoch : ℕ) (steps : List Step) (step : Step) → (run_so_far Free trace first_epoch steps).daemon.finished ≡ true
    → run_so_far Free trace first_epoch (steps ++ step ∷ []) ≡ run_so_far Free trace first_epoch steps
no_step trace first_epoch steps step done =
    let now = run_so_far Free trace first_epoch steps in
    steps_append Free trace (start trace first_epoch) steps (step ∷ [])
    ∙ cond-true now.daemon.finished now (acts Free trace now step) done

-- sides with the same halves fit the same daemon
fits_halves : (d : Collection) (m : ℕ) (ss ns : List Plain) → map half_of ns ≡ map half_of ss → FitFrom d m ss → FitFrom d m ns
fits_halves d m ss [] same fits = tt
fits_halves d m [] (n ∷ ns) same fits = absurd cc
fits_halves d m (s ∷ ss) (n ∷ ns) same fits =
    let one : half_of s ≡ half_of n = cc in
    let rest : map half_of ns ≡ map half_of ss = cc in
    (subst (λ (h : DaemonsHalf). IsFitting d m h.fixed h.far) one fits.0, fits_halves d (m + 1) ss ns rest fits.1)

fars_halves : (ss ns : List Plain) → map half_of ns ≡ map half_of ss → fars_in ns ≡ fars_in ss
fars_halves [] [] same = refl
fars_halves [] (n ∷ ns) same = absurd cc
fars_halves (s ∷ ss) [] same = absurd cc
fars_halves (s ∷ ss) (n ∷ ns) same =
    let one : half_of n ≡ half_of s = cc in
    let rest : map half_of ns ≡ map half_of ss = cc in
    ap {B = List FarSide} (λ (h : DaemonsHalf). h.far ∷ fars_in ns) one ∙ ap {B = List FarSide} (λ z. s.far ∷ z) (fars_halves ss ns rest)

pub turn_stands : (trace : Recording) (run first_epoch : ℕ) (lanes nlanes : List Seen) (sides nsides : List Plain) (d : Collection) (system : System) (cpu : ℕ)
    → StandsAt trace run first_epoch lanes sides d system → ArePlayers Free trace 0 nlanes nsides
    → system_of system.daemon nlanes nsides ≡ turned_at Free trace (system_of system.daemon lanes sides) cpu
    → map half_of nsides ≡ map half_of sides
    → StandsAt trace run first_epoch nlanes nsides d (after_turn Free trace system cpu (slice_get system.processors cpu))
turn_stands trace run first_epoch lanes nlanes sides nsides d system cpu stands players turned halves =
    let is : system ≡ system_of system.daemon lanes sides = same_system system.daemon stands.processors in
    let after : turned_at Free trace system cpu ≡ system_of system.daemon nlanes nsides = ap (λ (s : System). turned_at Free trace s cpu) is ∙ sym turned in
    record {
      players = players;
      processors = ap (λ (s : System). s.processors) after;
      trace_is = stands.trace_is;
      pace_is = stands.pace_is;
      run_is = stands.run_is;
      first_is = stands.first_is;
      state = stands.state ∙ ap (λ (s : System). without_drains s.daemon) (sym after);
      drains = λ none. stands.drains none ∙ ap (λ (s : System). s.daemon.drains) (sym after);
      fits = fits_halves d 0 sides nsides halves stands.fits;
      counts = subst (λ (z : List FarSide). Agree (flush_before d.state.applied) d.flushes z) (sym (fars_halves sides nsides halves)) stands.counts;
    }
  where
    system_with : Daemon → List Processor → System
    system_with daemon ps = record { processors = ps; daemon = daemon }

    same_system : (daemon : Daemon) {ps qs : List Processor} → ps ≡ qs → system_with daemon ps ≡ system_with daemon qs
    same_system daemon e = λ i. system_with daemon (e i)
