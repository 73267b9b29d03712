-- Rounds keep a run quiet: nothing was lost, and before each round all that was handed was taken.
use Rattle.std.proofs.Common.{◌≡◌, ℕ, zero, suc, ◌+◌, ◌%◌, ◌<◌, List, [], ◌∷◌, ◌++◌, length, map, refl, sym, ◌∙◌, ap, subst, arith, Bool, true, false, Some, None, Option, eq-eqb}
use Rattle.std.specs.Prelude.{slice_get}
use Rattle.std.specs.List.{flat_map, range_with_len}
use Rattle.std.proofs.lemmas.Option.{slice_get_within}
use Rattle.sample_key.specs.Sent.{Sent}
use Rattle.sample_key.specs.declared.losses.Loss.{Loss}
use Rattle.sample_key.specs.declared.losses.Pace.TheVariants.{Free}
use Rattle.trace_model.specs.Recording.{Recording}
use Rattle.trace_model.specs.declared.notices.Step.{Step}
use Rattle.trace_model.specs.declared.notices.Step.TheVariants.{Lane, Advance}
use Rattle.driver_model.specs.Lists.{AllOf}
use Rattle.driver_model.specs.Sides.{is_even}
use Rattle.driver_model.specs.Driver.{Driver}
use Rattle.run_model.specs.Running.{Processor, System, setup_of, new_processor, turned, rung, rung_if, words_of, cpus_of, advance_in, start, after_step, after_steps, round, rounds, enough_rounds, reference_run}
use Rattle.run_model.specs.Shares.{drains_of}
use Rattle.run_laws.specs.Laws.{IsFit}
use Rattle.run_laws.proofs.Driven.{DriverLaws}
use Rattle.run_laws.proofs.Turning.{lane_turned}
use Rattle.run_laws.proofs.Systems.{SystemHolds, got_map, fit_setup, start_holds, steps_hold}
use Rattle.run_laws.proofs.Endings.{got_within}
use Rattle.run_rounds.proofs.Own.{own_steps, own_append, lanes_here, polls_here, polls_of, polled_all, steps_got, steps_still, steps_append, step_acts}
use Rattle.run_rounds.proofs.Taking.{IsTaken, all_polled}
use Rattle.run_rounds.proofs.Finishing.{own_all, own_round, round_is, stays}
use Rattle.unscheduled_runs.proofs.Keeping.{AreBack, turn_same}

-- all that a processor handed was taken, and nothing was lost
pub record IsQuiet (processor : Processor) : Type 0 where
  pub taken : IsTaken processor
  pub none : processor.driver.losses ≡ []

abbrev AreQuiet : List Processor → Type 0
AreQuiet processors = (k : ℕ) (p : Processor) → slice_get processors k ≡ Some p → IsQuiet p

-- where all was taken the word is even
home : (taken handed : List Sent) → taken ≡ handed → is_even (length handed + length taken) ≡ true
home taken handed e = let same : length taken ≡ length handed = ap length e in eq-eqb ((length handed + length taken) % 2) 0 (omega arith)

-- a quiet processor after a turn and its polls
quiet_round : DriverLaws → (trace : Recording) (first_epoch : ℕ) (system : System) (k : ℕ) (processor : Processor) → IsFit trace → k < trace.cpus
    → SystemHolds Free trace first_epoch system → slice_get system.processors k ≡ Some processor → IsQuiet processor
    → IsQuiet (polled_all (turned (setup_of Free trace k) processor))
quiet_round laws trace first_epoch system k processor fit within holds there quiet =
    let daemon = system.daemon in
    let lane = lane_turned laws Free trace k daemon.applied daemon.asking (drains_of k 0 daemon.drains) (drains_of k 1 daemon.drains) (drains_of k 2 daemon.drains)
    processor (fit_setup Free trace k fit within) (holds.lanes k processor there) in
    let polls = all_polled (turned (setup_of Free trace k) processor) (record { first = lane.cell0.passed.front; second = lane.cell1.passed.front; third = lane.cell2.passed.front }) in
    let back : AreBack (words_of processor).two = record {
      first = home processor.far.first.taken processor.side.first.handed quiet.taken.first;
      second = home processor.far.second.taken processor.side.second.handed quiet.taken.second;
    } in
    record {
      taken = polls.taken;
      none = ap {B = List Loss} (λ (d : Driver). d.losses) polls.driver ∙ turn_same (setup_of Free trace k) (words_of processor) processor.driver processor.side back ∙ quiet.none;
    }

quiet_rung : (ring : Option ℕ) (processors : List Processor) → AreQuiet processors → AreQuiet (rung_if ring processors)
quiet_rung None processors quiet = quiet
quiet_rung (Some value) processors quiet = λ k p got.
    let found = got_map (rung value) processors k p got in
    let before = quiet k found.0 found.1 in
    subst (λ (q : Processor). IsQuiet q) (sym found.2)
    (record { taken = record { first = before.taken.first; second = before.taken.second; third = before.taken.third }; none = before.none })

-- a processor after its turn and its polls
own_is : (trace : Recording) (k : ℕ) (processor : Processor) → k < trace.cpus
    → own_steps Free trace k processor (own_round trace) ≡ polled_all (turned (setup_of Free trace k) processor)
own_is trace k processor within =
    let polls = flat_map polls_of (cpus_of trace) in
    own_append Free trace k processor (map Lane (cpus_of trace)) polls
    ∙ ap (λ (p : Processor). own_steps Free trace k p polls) (lanes_here Free trace k processor 0 trace.cpus (omega arith) (omega arith))
    ∙ polls_here Free trace k (turned (setup_of Free trace k) processor) 0 trace.cpus (omega arith) (omega arith)

-- turns and polls of a run that is not finished
quiet_own : DriverLaws → (trace : Recording) (first_epoch : ℕ) (system : System) → IsFit trace → system.daemon.finished ≡ false → SystemHolds Free trace first_epoch system
    → AreQuiet system.processors → AreQuiet (after_steps Free trace system (own_round trace)).processors
quiet_own laws trace first_epoch system fit going holds quiet k p got =
    let middle = after_steps Free trace system (own_round trace) in
    let kept : SystemHolds Free trace first_epoch middle = steps_hold laws Free trace first_epoch system (own_round trace) fit holds in
    let within : k < trace.cpus = omega (arith, slice_get_within middle.processors k p got, kept.count) in
    let found = got_within system.processors k (omega (arith, holds.count)) in
    let same : Some (own_steps Free trace k found.0 (own_round trace)) ≡ Some p = sym (steps_got Free trace system k found.0 (own_round trace) (own_all trace) going found.1) ∙ got in
    let is : own_steps Free trace k found.0 (own_round trace) ≡ p = cc in
    subst (λ (q : Processor). IsQuiet q) (sym (own_is trace k found.0 within) ∙ is)
    (quiet_round laws trace first_epoch system k found.0 fit within holds found.1 (quiet k found.0 found.1))

-- a round
quiet_after : DriverLaws → (trace : Recording) (first_epoch : ℕ) (system : System) (t : Bool) → system.daemon.finished ≡ t → IsFit trace → SystemHolds Free trace first_epoch system
    → AreQuiet system.processors → AreQuiet (after_steps Free trace system (round trace)).processors
quiet_after laws trace first_epoch system true done fit holds quiet =
    subst (λ (s : System). AreQuiet s.processors) (sym (stays trace system (round trace) done)) quiet
quiet_after laws trace first_epoch system false going fit holds quiet =
    let middle = after_steps Free trace system (own_round trace) in
    subst (λ (s : System). AreQuiet s.processors)
    (sym (round_is trace system ∙ step_acts Free trace middle Advance ((steps_still Free trace system (own_round trace) (own_all trace) going).finished ∙ going)))
    (quiet_rung (advance_in Free trace middle).ring middle.processors (quiet_own laws trace first_epoch system fit going holds quiet))

-- and all rounds
quiet_rounds : DriverLaws → (trace : Recording) (first_epoch count : ℕ) (system : System) → IsFit trace → SystemHolds Free trace first_epoch system
    → AreQuiet system.processors → AreQuiet (after_steps Free trace system (rounds count trace)).processors
quiet_rounds laws trace first_epoch zero system fit holds quiet = quiet
quiet_rounds laws trace first_epoch (suc count) system fit holds quiet =
    subst (λ (s : System). AreQuiet s.processors) (sym (steps_append Free trace system (round trace) (rounds count trace)))
    (quiet_rounds laws trace first_epoch count (after_steps Free trace system (round trace)) fit (steps_hold laws Free trace first_epoch system (round trace) fit holds)
    (quiet_after laws trace first_epoch system system.daemon.finished refl fit holds quiet))

-- nothing was handed at the start
quiet_new : (trace : Recording) (from count k : ℕ) (p : Processor) → slice_get (map (new_processor trace) (range_with_len from count)) k ≡ Some p → IsQuiet p
quiet_new trace from zero k p got = absurd cc
quiet_new trace from (suc count) zero p got =
    let same : new_processor trace from ≡ p = cc in
    subst (λ (q : Processor). IsQuiet q) same (record { taken = record { first = refl; second = refl; third = refl }; none = refl })
quiet_new trace from (suc count) (suc k) p got = quiet_new trace (from + 1) count k p got

no_losses : (processors : List Processor) → AreQuiet processors → AllOf (λ (l : List Loss). l ≡ []) (map (λ (p : Processor). p.driver.losses) processors)
no_losses [] quiet = tt
no_losses (p ∷ ps) quiet = ((quiet 0 p refl).none, no_losses ps (λ k q got. quiet (suc k) q got))

pub lose_nothing : DriverLaws → (trace : Recording) (first_epoch : ℕ) → IsFit trace → trace.schedule ≡ []
    → AllOf (λ (l : List Loss). l ≡ []) (map (λ (p : Processor). p.driver.losses) (reference_run Free trace first_epoch).processors)
lose_nothing laws trace first_epoch fit none =
    no_losses (reference_run Free trace first_epoch).processors
    (subst (λ (steps : List Step). AreQuiet (after_steps Free trace (start trace first_epoch) (steps ++ rounds (enough_rounds trace) trace)).processors) (sym none)
    (quiet_rounds laws trace first_epoch (enough_rounds trace) (start trace first_epoch) fit (start_holds laws Free trace first_epoch fit)
    (quiet_new trace 0 trace.cpus)))
