-- A processor sees its own steps alone: a round of it is one turn and three polls.
use Rattle.std.proofs.Common.{◌≡◌, ◌≢◌, ℕ, zero, suc, ◌+◌, ◌<◌, ◌≤◌, List, [], ◌∷◌, ◌++◌, map, refl, sym, ◌∙◌, ap, subst, arith, Bool, true, false, if◌then◌else◌, Some, None, Option, eqb, eqb-true, eq-eqb}
use Rattle.std.specs.Prelude.{slice_get, slice_set}
use Rattle.std.specs.List.{range_with_len, flat_map}
use Rattle.std.proofs.lemmas.Bool.{cond_both, cond-true, cond-false, eqb-false}
use Rattle.sample_key.specs.Sent.{Sent}
use Rattle.sample_key.specs.declared.losses.Pace.{Pace}
use Rattle.trace_model.specs.Recording.{Recording}
use Rattle.trace_model.specs.declared.notices.Record.{Record}
use Rattle.trace_model.specs.Streams.{records_in}
use Rattle.trace_model.specs.declared.notices.Step.{Step}
use Rattle.trace_model.specs.declared.notices.Step.TheVariants.{Lane, Poll, Advance}
use Rattle.driver_model.specs.Lists.{AllOf}
use Rattle.driver_laws.proofs.Lists.{all_append}
use Rattle.run_model.specs.Daemon.{Daemon}
use Rattle.run_model.specs.Running.{Processor, System, setup_of, turned, polled, waiting_at, after_turn, noted_if, after_poll, acts, after_step, after_steps}
use Rattle.run_laws.proofs.Basics.{eqb_apart}

-- what a step that is no advance makes of the processor of this number
abbrev pub own_step : Pace → Recording → ℕ → Processor → Step → Processor
own_step pace trace number processor (Lane cpu) = if eqb cpu number then turned (setup_of pace trace number) processor else processor
own_step pace trace number processor (Poll cpu cell) = if eqb cpu number then polled processor cell else processor
own_step pace trace number processor Advance = processor

-- and what these steps make of it
abbrev pub own_steps : Pace → Recording → ℕ → Processor → List Step → Processor
own_steps pace trace number processor [] = processor
own_steps pace trace number processor (step ∷ steps) = own_steps pace trace number (own_step pace trace number processor step) steps

-- a turn or a poll
abbrev pub IsOwn : Step → Type 0
IsOwn (Lane cpu) = Unit {0}
IsOwn (Poll cpu cell) = Unit {0}
IsOwn Advance = ⊥

-- the daemon stands where it stood
pub record StandsStill (before after : Daemon) : Type 0 where
  pub applied : after.applied ≡ before.applied
  pub asking : after.asking ≡ before.asking
  pub finished : after.finished ≡ before.finished

still_noted : (records : List Record) (daemon : Daemon) (found : Option Sent) → StandsStill daemon (noted_if records daemon found)
still_noted records daemon None = record { applied = refl; asking = refl; finished = refl }
still_noted records daemon (Some batch) = record { applied = refl; asking = refl; finished = refl }

-- another element of a list of which one was changed
set_other : {A : Type 0} (xs : List A) (i k : ℕ) (y : A) → (i ≡ k → ⊥) → slice_get (slice_set xs i y) k ≡ slice_get xs k
set_other [] i k y apart = refl
set_other (x ∷ xs) zero zero y apart = absurd (apart refl)
set_other (x ∷ xs) zero (suc k) y apart = refl
set_other (x ∷ xs) (suc i) zero y apart = refl
set_other (x ∷ xs) (suc i) (suc k) y apart = set_other xs i k y (λ e. apart (ap suc e))

set_same : {A : Type 0} (xs : List A) (i : ℕ) (y x : A) → slice_get xs i ≡ Some x → slice_get (slice_set xs i y) i ≡ Some y
set_same [] i y x h = absurd cc
set_same (z ∷ xs) zero y x h = refl
set_same (z ∷ xs) (suc i) y x h = set_same xs i y x h

-- one changed processor of another number, or of this one
changed_got : (processors : List Processor) (cpu number : ℕ) (processor other : Processor) (change : Processor → Processor) → slice_get processors number ≡ Some processor
    → slice_get processors cpu ≡ Some other → (t : Bool) → eqb cpu number ≡ t
    → slice_get (slice_set processors cpu (change other)) number ≡ Some (if t then change processor else processor)
changed_got processors cpu number processor other change there found false t =
    set_other processors cpu number (change other) (λ e. eqb-false cpu number t e) ∙ there
changed_got processors cpu number processor other change there found true t =
    let same : cpu ≡ number = eqb-true cpu number t in
    let both : Some other ≡ Some processor = sym found ∙ ap (λ (n : ℕ). slice_get processors n) same ∙ there in
    let is : other ≡ processor = cc in
    subst (λ (n : ℕ). slice_get (slice_set processors cpu (change other)) n ≡ Some (change processor)) same
    (set_same processors cpu (change other) other found ∙ ap {B = Option Processor} (λ (p : Processor). Some (change p)) is)

turn_got : (pace : Pace) (trace : Recording) (system : System) (cpu number : ℕ) (processor : Processor) (found : Option Processor)
    → slice_get system.processors number ≡ Some processor → slice_get system.processors cpu ≡ found
    → slice_get (after_turn pace trace system cpu found).processors number ≡ Some (own_step pace trace number processor (Lane cpu))
turn_got pace trace system cpu number processor None there found =
    let apart : eqb cpu number ≡ false = eqb_apart cpu number (λ e. nothing_there (subst (λ (n : ℕ). slice_get system.processors n ≡ None) e found)) in
    there ∙ ap {B = Option Processor} (λ (p : Processor). Some p) (sym (cond-false (eqb cpu number) (turned (setup_of pace trace number) processor) processor apart))
  where
    nothing_there : slice_get system.processors number ≡ None → ⊥
    nothing_there none = let e : Some processor ≡ None = sym there ∙ none in cc
turn_got pace trace system cpu number processor (Some other) there found =
    cond_both (eqb cpu number) (turned (setup_of pace trace number) processor) processor
    (λ (p : Processor). slice_get (slice_set system.processors cpu (turned (setup_of pace trace cpu) other)) number ≡ Some p)
    (λ e. changed_got system.processors cpu number processor other (turned (setup_of pace trace cpu)) there found true e
    ∙ ap {B = Option Processor} (λ (n : ℕ). Some (turned (setup_of pace trace n) processor)) (eqb-true cpu number e))
    (λ e. changed_got system.processors cpu number processor other (turned (setup_of pace trace cpu)) there found false e)

poll_got : (pace : Pace) (trace : Recording) (system : System) (cpu cell number : ℕ) (processor : Processor) (found : Option Processor)
    → slice_get system.processors number ≡ Some processor → slice_get system.processors cpu ≡ found
    → slice_get (after_poll trace system cpu cell found).processors number ≡ Some (own_step pace trace number processor (Poll cpu cell))
poll_got pace trace system cpu cell number processor None there found =
    let apart : eqb cpu number ≡ false = eqb_apart cpu number (λ e. nothing_there (subst (λ (n : ℕ). slice_get system.processors n ≡ None) e found)) in
    there ∙ ap {B = Option Processor} (λ (p : Processor). Some p) (sym (cond-false (eqb cpu number) (polled processor cell) processor apart))
  where
    nothing_there : slice_get system.processors number ≡ None → ⊥
    nothing_there none = let e : Some processor ≡ None = sym there ∙ none in cc
poll_got pace trace system cpu cell number processor (Some other) there found =
    cond_both (eqb cpu number) (polled processor cell) processor
    (λ (p : Processor). slice_get (slice_set system.processors cpu (polled other cell)) number ≡ Some p)
    (λ e. changed_got system.processors cpu number processor other (λ q. polled q cell) there found true e)
    (λ e. changed_got system.processors cpu number processor other (λ q. polled q cell) there found false e)

poll_still : (trace : Recording) (system : System) (cpu cell : ℕ) (found : Option Processor) → StandsStill system.daemon (after_poll trace system cpu cell found).daemon
poll_still trace system cpu cell None = record { applied = refl; asking = refl; finished = refl }
poll_still trace system cpu cell (Some processor) = still_noted (records_in trace) system.daemon (waiting_at processor cell)

turn_still : (pace : Pace) (trace : Recording) (system : System) (cpu : ℕ) (found : Option Processor) → StandsStill system.daemon (after_turn pace trace system cpu found).daemon
turn_still pace trace system cpu None = record { applied = refl; asking = refl; finished = refl }
turn_still pace trace system cpu (Some processor) = record { applied = refl; asking = refl; finished = refl }

-- a step of its own or of another processor
act_got : (pace : Pace) (trace : Recording) (system : System) (number : ℕ) (processor : Processor) (step : Step) → IsOwn step
    → slice_get system.processors number ≡ Some processor
    → slice_get (acts pace trace system step).processors number ≡ Some (own_step pace trace number processor step)
act_got pace trace system number processor (Lane cpu) own there = turn_got pace trace system cpu number processor (slice_get system.processors cpu) there refl
act_got pace trace system number processor (Poll cpu cell) own there = poll_got pace trace system cpu cell number processor (slice_get system.processors cpu) there refl
act_got pace trace system number processor Advance own there = absurd own

act_still : (pace : Pace) (trace : Recording) (system : System) (step : Step) → IsOwn step → StandsStill system.daemon (acts pace trace system step).daemon
act_still pace trace system (Lane cpu) own = turn_still pace trace system cpu (slice_get system.processors cpu)
act_still pace trace system (Poll cpu cell) own = poll_still trace system cpu cell (slice_get system.processors cpu)
act_still pace trace system Advance own = absurd own

-- a step of a run that is not finished
pub step_acts : (pace : Pace) (trace : Recording) (system : System) (step : Step) → system.daemon.finished ≡ false → after_step pace trace system step ≡ acts pace trace system step
step_acts pace trace system step going = cond-false system.daemon.finished system (acts pace trace system step) going

pub steps_got : (pace : Pace) (trace : Recording) (system : System) (number : ℕ) (processor : Processor) (steps : List Step) → AllOf IsOwn steps
    → system.daemon.finished ≡ false → slice_get system.processors number ≡ Some processor
    → slice_get (after_steps pace trace system steps).processors number ≡ Some (own_steps pace trace number processor steps)
steps_got pace trace system number processor [] own going there = there
steps_got pace trace system number processor (step ∷ steps) own going there =
    subst (λ (s : System). slice_get (after_steps pace trace s steps).processors number ≡ Some (own_steps pace trace number processor (step ∷ steps)))
    (sym (step_acts pace trace system step going))
    (steps_got pace trace (acts pace trace system step) number (own_step pace trace number processor step) steps own.1
    ((act_still pace trace system step own.0).finished ∙ going) (act_got pace trace system number processor step own.0 there))

pub steps_still : (pace : Pace) (trace : Recording) (system : System) (steps : List Step) → AllOf IsOwn steps → system.daemon.finished ≡ false
    → StandsStill system.daemon (after_steps pace trace system steps).daemon
steps_still pace trace system [] own going = record { applied = refl; asking = refl; finished = refl }
steps_still pace trace system (step ∷ steps) own going =
    subst (λ (s : System). StandsStill system.daemon (after_steps pace trace s steps).daemon) (sym (step_acts pace trace system step going))
    (let first = act_still pace trace system step own.0 in
    let rest = steps_still pace trace (acts pace trace system step) steps own.1 (first.finished ∙ going) in
    record { applied = rest.applied ∙ first.applied; asking = rest.asking ∙ first.asking; finished = rest.finished ∙ first.finished })

-- steps one after the other
pub own_append : (pace : Pace) (trace : Recording) (number : ℕ) (processor : Processor) (xs ys : List Step)
    → own_steps pace trace number processor (xs ++ ys) ≡ own_steps pace trace number (own_steps pace trace number processor xs) ys
own_append pace trace number processor [] ys = refl
own_append pace trace number processor (x ∷ xs) ys = own_append pace trace number (own_step pace trace number processor x) xs ys

pub steps_append : (pace : Pace) (trace : Recording) (system : System) (xs ys : List Step)
    → after_steps pace trace system (xs ++ ys) ≡ after_steps pace trace (after_steps pace trace system xs) ys
steps_append pace trace system [] ys = refl
steps_append pace trace system (x ∷ xs) ys = steps_append pace trace (after_step pace trace system x) xs ys

-- turns of later processors leave this one
lanes_skip : (pace : Pace) (trace : Recording) (number : ℕ) (processor : Processor) (from count : ℕ) → number < from
    → own_steps pace trace number processor (map Lane (range_with_len from count)) ≡ processor
lanes_skip pace trace number processor from zero later = refl
lanes_skip pace trace number processor from (suc count) later =
    ap (λ (p : Processor). own_steps pace trace number p (map Lane (range_with_len (from + 1) count)))
    (cond-false (eqb from number) (turned (setup_of pace trace number) processor) processor (eqb_apart from number (λ e. omega arith)))
    ∙ lanes_skip pace trace number processor (from + 1) count (omega arith)

-- one of the turns is its own
pub lanes_here : (pace : Pace) (trace : Recording) (number : ℕ) (processor : Processor) (from count : ℕ) → from ≤ number → number < from + count
    → own_steps pace trace number processor (map Lane (range_with_len from count)) ≡ turned (setup_of pace trace number) processor
lanes_here pace trace number processor from zero on within = absurd (omega arith)
lanes_here pace trace number processor from (suc count) on within =
    cond_both (eqb from number) (turned (setup_of pace trace number) processor) processor
    (λ (p : Processor). own_steps pace trace number p (map Lane (range_with_len (from + 1) count)) ≡ turned (setup_of pace trace number) processor)
    (λ e. lanes_skip pace trace number (turned (setup_of pace trace number) processor) (from + 1) count (omega (arith, eqb-true from number e)))
    (λ e. let apart : from ≢ number = eqb-false from number e in lanes_here pace trace number processor (from + 1) count (omega arith) (omega arith))

-- the polls of a processor
abbrev pub polls_of : ℕ → List Step
polls_of cpu = Poll cpu 0 ∷ Poll cpu 1 ∷ Poll cpu 2 ∷ []

-- a processor after a poll of each cell
abbrev pub polled_all : Processor → Processor
polled_all processor = polled (polled (polled processor 0) 1) 2

polls_other : (pace : Pace) (trace : Recording) (number cpu : ℕ) (processor : Processor) → (cpu ≡ number → ⊥)
    → own_steps pace trace number processor (polls_of cpu) ≡ processor
polls_other pace trace number cpu processor apart =
    let no : eqb cpu number ≡ false = eqb_apart cpu number apart in
    ap (λ (p : Processor). own_steps pace trace number p (Poll cpu 1 ∷ Poll cpu 2 ∷ [])) (cond-false (eqb cpu number) (polled processor 0) processor no)
    ∙ ap (λ (p : Processor). own_steps pace trace number p (Poll cpu 2 ∷ [])) (cond-false (eqb cpu number) (polled processor 1) processor no)
    ∙ cond-false (eqb cpu number) (polled processor 2) processor no

polls_own : (pace : Pace) (trace : Recording) (number cpu : ℕ) (processor : Processor) → cpu ≡ number
    → own_steps pace trace number processor (polls_of cpu) ≡ polled_all processor
polls_own pace trace number cpu processor same =
    let is : eqb cpu number ≡ true = eq-eqb cpu number same in
    ap (λ (p : Processor). own_steps pace trace number p (Poll cpu 1 ∷ Poll cpu 2 ∷ [])) (cond-true (eqb cpu number) (polled processor 0) processor is)
    ∙ ap (λ (p : Processor). own_steps pace trace number p (Poll cpu 2 ∷ [])) (cond-true (eqb cpu number) (polled (polled processor 0) 1) (polled processor 0) is)
    ∙ cond-true (eqb cpu number) (polled_all processor) (polled (polled processor 0) 1) is

polls_skip : (pace : Pace) (trace : Recording) (number : ℕ) (processor : Processor) (from count : ℕ) → number < from
    → own_steps pace trace number processor (flat_map polls_of (range_with_len from count)) ≡ processor
polls_skip pace trace number processor from zero later = refl
polls_skip pace trace number processor from (suc count) later =
    own_append pace trace number processor (polls_of from) (flat_map polls_of (range_with_len (from + 1) count))
    ∙ ap (λ (p : Processor). own_steps pace trace number p (flat_map polls_of (range_with_len (from + 1) count)))
    (polls_other pace trace number from processor (λ e. omega arith))
    ∙ polls_skip pace trace number processor (from + 1) count (omega arith)

-- three of the polls are its own
pub polls_here : (pace : Pace) (trace : Recording) (number : ℕ) (processor : Processor) (from count : ℕ) → from ≤ number → number < from + count
    → own_steps pace trace number processor (flat_map polls_of (range_with_len from count)) ≡ polled_all processor
polls_here pace trace number processor from zero on within = absurd (omega arith)
polls_here pace trace number processor from (suc count) on within =
    own_append pace trace number processor (polls_of from) (flat_map polls_of (range_with_len (from + 1) count)) ∙ here (eqb from number) refl (λ on within. polls_here pace trace number processor (from + 1) count on within)
  where
    here : (t : Bool) → eqb from number ≡ t
        → (from + 1 ≤ number → number < (from + 1) + count → own_steps pace trace number processor (flat_map polls_of (range_with_len (from + 1) count)) ≡ polled_all processor)
        → own_steps pace trace number (own_steps pace trace number processor (polls_of from)) (flat_map polls_of (range_with_len (from + 1) count)) ≡ polled_all processor
    here true e rest =
        ap (λ (p : Processor). own_steps pace trace number p (flat_map polls_of (range_with_len (from + 1) count))) (polls_own pace trace number from processor (eqb-true from number e))
        ∙ polls_skip pace trace number (polled_all processor) (from + 1) count (omega (arith, eqb-true from number e))
    here false e rest =
        let apart : from ≢ number = eqb-false from number e in
        ap (λ (p : Processor). own_steps pace trace number p (flat_map polls_of (range_with_len (from + 1) count))) (polls_other pace trace number from processor apart)
        ∙ rest (omega arith) (omega arith)

-- turns and polls are no advances
pub own_lanes : (from count : ℕ) → AllOf IsOwn (map Lane (range_with_len from count))
own_lanes from zero = tt
own_lanes from (suc count) = (tt, own_lanes (from + 1) count)

pub own_polls : (from count : ℕ) → AllOf IsOwn (flat_map polls_of (range_with_len from count))
own_polls from zero = tt
own_polls from (suc count) = all_append IsOwn (polls_of from) (flat_map polls_of (range_with_len (from + 1) count)) (tt, (tt, (tt, tt))) (own_polls (from + 1) count)
