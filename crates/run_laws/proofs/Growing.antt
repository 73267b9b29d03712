-- Steps only add drains at the end, so those of a part stand once it has ended.
use Rattle.std.proofs.Common.{◌≡◌, ℕ, zero, suc, ◌<◌, ◌≤◌, List, [], ◌∷◌, ◌++◌, take, map, refl, sym, ◌∙◌, ap, subst, arith, Some, None, Option, cond, eqb, append_assoc}
use Rattle.std.specs.Prelude.{slice_get}
use Rattle.std.specs.List.{count_by}
use Rattle.std.proofs.lemmas.Bool.{cond_both, cond-false}
use Rattle.std.proofs.lemmas.List.Elements.{filter-append}
use Rattle.std.proofs.lemmas.List.Sums.{sum_by-take-le}
use Rattle.sample_key.specs.Sent.{Sent}
use Rattle.sample_key.specs.declared.losses.Pace.{Pace}
use Rattle.trace_model.specs.Parts.{ends_part, part_of}
use Rattle.trace_model.specs.Recording.{Recording}
use Rattle.trace_model.specs.Streams.{records_in}
use Rattle.trace_model.specs.declared.notices.Record.{Record}
use Rattle.trace_model.specs.declared.notices.Step.{Step}
use Rattle.trace_model.specs.declared.notices.Step.TheVariants.{Lane, Poll, Advance}
use Rattle.driver_model.specs.Lists.{AllOf}
use Rattle.driver_model.specs.Handover.{FarSide}
use Rattle.driver_laws.proofs.Lists.{append-nil, all_append, all_map}
use Rattle.database_model.specs.Runs.{Drained}
use Rattle.run_model.specs.Daemon.{Daemon, Advancing, needs_flush, drain_of, move, ask, settle, go_on, begin, advance, first_waiting, flush_before}
use Rattle.run_model.specs.Running.{Processor, System, waiting_at, after_turn, noted_if, after_poll, acts, after_step, after_steps}
use Rattle.run_model.specs.Shares.{drains_in_part}
use Rattle.run_laws.specs.Laws.{Extends}
use Rattle.run_laws.proofs.Basics.{eqb_apart}

pub extends_same : (before after : Daemon) → before.applied ≤ after.applied → after.drains ≡ before.drains → Extends before after
extends_same before after on same = record { applied = on; more = []; drains = same ∙ sym (append-nil before.drains); later = tt }

pub extends_on : (first second third : Daemon) → Extends first second → Extends second third → Extends first third
extends_on first second third a b = record {
  applied = omega (arith, a.applied, b.applied);
  more = a.more ++ b.more;
  drains = b.drains ∙ ap {B = List Drained} (λ (z : List Drained). z ++ b.more) a.drains ∙ append_assoc first.drains a.more b.more;
  later = all_append (λ d. first.applied ≤ d.at) a.more b.more a.later
      (all_map (λ d. second.applied ≤ d.at) (λ d. first.applied ≤ d.at) (λ d h. omega (arith, a.applied)) b.more b.later);
}

extends_noted : (records : List Record) (daemon : Daemon) (found : Option Sent) → Extends daemon (noted_if records daemon found)
extends_noted records daemon None = extends_same daemon daemon (omega arith) refl
extends_noted records daemon (Some batch) =
    record { applied = omega arith; more = drain_of records daemon batch ∷ []; drains = refl; later = (omega arith, tt) }

extends_settled : (daemon : Daemon) (next : Option Record) → Extends daemon (settle daemon next).daemon
extends_settled daemon None = extends_same daemon (settle daemon None).daemon (omega arith) refl
extends_settled daemon (Some notice) = extends_same daemon (move daemon notice).daemon (omega arith) refl

extends_gone_on : (records : List Record) (daemon : Daemon) (waiting : Option ℕ) → Extends daemon (go_on records daemon waiting).daemon
extends_gone_on records daemon None = extends_settled daemon (slice_get records daemon.applied)
extends_gone_on records daemon (Some cpu) = extends_same daemon daemon (omega arith) refl

extends_begun : (pace : Pace) (daemon : Daemon) (next : Option Record) → Extends daemon (begin pace daemon next).daemon
extends_begun pace daemon None = extends_same daemon (ask daemon).daemon (omega arith) refl
extends_begun pace daemon (Some notice) =
    cond_both (needs_flush pace notice) (ask daemon) (move daemon notice) (λ (a : Advancing). Extends daemon a.daemon)
    (λ e. extends_same daemon (ask daemon).daemon (omega arith) refl) (λ e. extends_same daemon (move daemon notice).daemon (omega arith) refl)

pub extends_advanced : (pace : Pace) (records : List Record) (fars : List FarSide) (daemon : Daemon) → Extends daemon (advance pace records fars daemon).daemon
extends_advanced pace records fars daemon =
    cond_both daemon.asking (go_on records daemon (first_waiting (flush_before daemon.applied) 0 fars)) (begin pace daemon (slice_get records daemon.applied))
    (λ (a : Advancing). Extends daemon a.daemon)
    (λ e. extends_gone_on records daemon (first_waiting (flush_before daemon.applied) 0 fars))
    (λ e. extends_begun pace daemon (slice_get records daemon.applied))

extends_turned : (pace : Pace) (trace : Recording) (system : System) (cpu : ℕ) (found : Option Processor)
    → Extends system.daemon (after_turn pace trace system cpu found).daemon
extends_turned pace trace system cpu None = extends_same system.daemon system.daemon (omega arith) refl
extends_turned pace trace system cpu (Some processor) = extends_same system.daemon system.daemon (omega arith) refl

extends_polled : (trace : Recording) (system : System) (cpu cell : ℕ) (found : Option Processor)
    → Extends system.daemon (after_poll trace system cpu cell found).daemon
extends_polled trace system cpu cell None = extends_same system.daemon system.daemon (omega arith) refl
extends_polled trace system cpu cell (Some processor) = extends_noted (records_in trace) system.daemon (waiting_at processor cell)

extends_acted : (pace : Pace) (trace : Recording) (system : System) (step : Step) → Extends system.daemon (acts pace trace system step).daemon
extends_acted pace trace system (Lane cpu) = extends_turned pace trace system cpu (slice_get system.processors cpu)
extends_acted pace trace system (Poll cpu cell) = extends_polled trace system cpu cell (slice_get system.processors cpu)
extends_acted pace trace system Advance = extends_advanced pace (records_in trace) (map (λ (p : Processor). p.far) system.processors) system.daemon

extends_stepped : (pace : Pace) (trace : Recording) (system : System) (step : Step) → Extends system.daemon (after_step pace trace system step).daemon
extends_stepped pace trace system step =
    cond_both system.daemon.finished system (acts pace trace system step) (λ (s : System). Extends system.daemon s.daemon)
    (λ e. extends_same system.daemon system.daemon (omega arith) refl) (λ e. extends_acted pace trace system step)

pub steps_extend : (pace : Pace) (trace : Recording) (system : System) (steps : List Step) → Extends system.daemon (after_steps pace trace system steps).daemon
steps_extend pace trace system [] = extends_same system.daemon system.daemon (omega arith) refl
steps_extend pace trace system (step ∷ steps) =
    extends_on system.daemon (after_step pace trace system step).daemon (after_steps pace trace system (step ∷ steps)).daemon
    (extends_stepped pace trace system step) (steps_extend pace trace (after_step pace trace system step) steps)

-- parts never fall
pub part_later : (records : List Record) (at later : ℕ) → at ≤ later → part_of records at ≤ part_of records later
part_later records at later on =
    subst (λ (z : List Record). count_by ends_part z ≤ part_of records later) (take_take at later records on)
    (sum_by-take-le (λ n. cond (ends_part n) 1 0) (take later records) at)
  where
    take_take : (n m : ℕ) (xs : List Record) → n ≤ m → take n (take m xs) ≡ take n xs
    take_take zero m xs h = refl
    take_take (suc n) zero xs h = absurd (omega arith)
    take_take (suc n) (suc m) [] h = refl
    take_take (suc n) (suc m) (x ∷ xs) h = let r : n ≤ m = omega arith in ap {B = List Record} (λ (z : List Record). x ∷ z) (take_take n m xs r)

-- drains at later positions are of no part before
pub none_in_part : (records : List Record) (part at : ℕ) (more : List Drained) → part < part_of records at → AllOf (λ d. at ≤ d.at) more
    → drains_in_part records part more ≡ []
none_in_part records part at [] before later = refl
none_in_part records part at (d ∷ more) before later =
    cond-false (eqb (part_of records d.at) part) (d ∷ drains_in_part records part more) (drains_in_part records part more)
    (eqb_apart (part_of records d.at) part (λ e. omega (arith, part_later records at d.at later.0)))
    ∙ none_in_part records part at more before later.1

pub parts_stand : (pace : Pace) (trace : Recording) (system : System) (steps : List Step) (part : ℕ) → part < part_of (records_in trace) system.daemon.applied
    → drains_in_part (records_in trace) part (after_steps pace trace system steps).daemon.drains ≡ drains_in_part (records_in trace) part system.daemon.drains
parts_stand pace trace system steps part before =
    let records = records_in trace in
    let on = steps_extend pace trace system steps in
    ap {B = List Drained} (λ (z : List Drained). drains_in_part records part z) on.drains
    ∙ filter-append (λ (d : Drained). eqb (part_of records d.at) part) system.daemon.drains on.more
    ∙ ap {B = List Drained} (λ (z : List Drained). drains_in_part records part system.daemon.drains ++ z)
    (none_in_part records part system.daemon.applied on.more before on.later)
    ∙ append-nil (drains_in_part records part system.daemon.drains)
