-- What holds of a whole run between any two steps, and that each step keeps it.
use Rattle.std.proofs.Common.{◌≡◌, ℕ, zero, suc, ◌+◌, ◌*◌, ◌/◌, ◌<◌, ◌≤◌, List, [], ◌∷◌, ◌++◌, length, map, refl, sym, ◌∙◌, ap, subst, arith, inl, inr, ◌⊎◌, Bool, true, false, if◌then◌else◌, Some, None, Option, eqb, eqb-true, eq-eqb}
use Rattle.std.specs.Prelude.{slice_get, slice_set}
use Rattle.std.specs.List.{range_with_len}
use Rattle.std.proofs.lemmas.Bool.{cond_both, cond-true, cond-false, and_left, and_right, eqb-false}
use Rattle.std.proofs.lemmas.List.{length-set, length-map}
use Rattle.std.proofs.lemmas.List.FromFn.{length-map-range_with_len}
use Rattle.std.proofs.lemmas.Option.{slice_get_within}
use Rattle.sample_key.specs.Marks.{MarksUpTo}
use Rattle.sample_key.specs.Sent.{Sent}
use Rattle.sample_key.specs.declared.losses.Pace.{Pace}
use Rattle.trace_model.specs.Recording.{Recording}
use Rattle.trace_model.specs.Streams.{stream_of, records_in}
use Rattle.trace_model.specs.declared.notices.Record.{Record}
use Rattle.trace_model.specs.declared.notices.Step.{Step}
use Rattle.trace_model.specs.declared.notices.Step.TheVariants.{Lane, Poll, Advance}
use Rattle.driver_model.specs.Lists.{AllOf}
use Rattle.driver_model.specs.Handover.{FarSide}
use Rattle.driver_model.specs.Invariant.{IsSetup}
use Rattle.driver_laws.proofs.Lists.{all_last}
use Rattle.database_model.specs.Runs.{Drained}
use Rattle.run_model.specs.Daemon.{Daemon, Advancing, needs_flush, drain_of, noted, in_force, move, ask, settle, go_on, begin, first_waiting, flush_before, is_flushed}
use Rattle.run_model.specs.Running.{Processor, System, setup_of, room_of, new_processor, words_of, turned, waiting_in, waiting_at, poll_buffer, poll_table, polled, rung, start, after_turn, noted_if, after_poll, rung_if, after_advance, acts, after_step, after_steps}
use Rattle.run_model.specs.Shares.{is_of, drains_of}
use Rattle.run_model.specs.Books.{AsksInNeed, KeepsBooks}
use Rattle.run_laws.specs.Laws.{IsFit, run_so_far}
use Rattle.run_laws.proofs.Basics.{none_there, eqb_apart, front_some, both_answers}
use Rattle.run_laws.proofs.Driven.{DriverLaws}
use Rattle.run_laws.proofs.Lanes.{IsOf, LaneHolds}
use Rattle.run_laws.proofs.Turning.{lane_turned}
use Rattle.run_laws.proofs.Draining.{lane_drained0, lane_drained1, lane_drained2, lane_polled0, lane_polled1, lane_polled2, lane_asked, lane_moved, lane_settled}
use Rattle.run_laws.proofs.Keeping.{books_begin, books_noted, books_advanced}

-- what holds of a processor of a run
abbrev pub HoldsAt : Pace → Recording → Daemon → ℕ → Processor → Type 0
HoldsAt pace trace daemon cpu processor =
    LaneHolds pace trace cpu daemon.applied daemon.asking (drains_of cpu 0 daemon.drains) (drains_of cpu 1 daemon.drains) (drains_of cpu 2 daemon.drains) processor

-- each flush is complete
abbrev pub AllFlushed : Daemon → List Processor → Type 0
AllFlushed daemon processors = (cpu : ℕ) (processor : Processor) → slice_get processors cpu ≡ Some processor
    → is_flushed (flush_before daemon.applied) processor.far ≡ true

-- once the run is finished, the close was asked for and each processor has answered it
pub record IsEnded (trace : Recording) (system : System) : Type 0 where
  pub asking : system.daemon.asking ≡ true
  pub all : system.daemon.applied ≡ length (records_in trace)
  pub flushed : AllFlushed system.daemon system.processors

pub record SystemHolds (pace : Pace) (trace : Recording) (first_epoch : ℕ) (system : System) : Type 0 where
  pub count : length system.processors ≡ trace.cpus
  pub lanes : (cpu : ℕ) (processor : Processor) → slice_get system.processors cpu ≡ Some processor → HoldsAt pace trace system.daemon cpu processor
  pub books : KeepsBooks pace trace first_epoch system.daemon
  pub ended : system.daemon.finished ≡ true → IsEnded trace system

-- an element of a list of which one was changed
pub one_changed : {A : Type 0} (xs : List A) (i k : ℕ) (y x : A) → slice_get (slice_set xs i y) k ≡ Some x
    → ((k ≡ i) × (x ≡ y)) ⊎ (slice_get xs k ≡ Some x)
one_changed [] zero k y x h = inr h
one_changed [] (suc i) k y x h = inr h
one_changed (z ∷ xs) zero zero y x h = let same : x ≡ y = cc in inl (refl, same)
one_changed (z ∷ xs) zero (suc k) y x h = inr h
one_changed (z ∷ xs) (suc i) zero y x h = inr h
one_changed (z ∷ xs) (suc i) (suc k) y x h =
    elim (one_changed xs i k y x h) as (λ w. ((suc k ≡ suc i) × (x ≡ y)) ⊎ (slice_get xs k ≡ Some x)) [ inl e ↦ inl (ap suc e.0, e.1) | inr e ↦ inr e ]

-- the element that was changed
pub set_there : {A : Type 0} (xs : List A) (i : ℕ) (y x : A) → i < length xs → slice_get (slice_set xs i y) i ≡ Some x → y ≡ x
set_there [] i y x l h = absurd (omega arith)
set_there (z ∷ xs) zero y x l h = cc
set_there (z ∷ xs) (suc i) y x l h = set_there xs i y x (omega arith) h

-- an element of the image of a list
pub got_map : {A B : Type 0} (f : A → B) (xs : List A) (k : ℕ) (y : B) → slice_get (map f xs) k ≡ Some y
    → (x : A) × (slice_get xs k ≡ Some x) × (y ≡ f x)
got_map f [] k y h = absurd cc
got_map f (x ∷ xs) zero y h = (x, refl, cc)
got_map f (x ∷ xs) (suc k) y h = got_map f xs k y h

-- what all have, each has
pub got_all : {A : Type 0} (P : A → Type 0) (xs : List A) (k : ℕ) (x : A) → AllOf P xs → slice_get xs k ≡ Some x → P x
got_all P [] k x all h = absurd cc
got_all P (y ∷ xs) zero x all h = let same : y ≡ x = cc in subst P same all.0
got_all P (y ∷ xs) (suc k) x all h = got_all P xs k x all.1 h

-- and it stands in the image
pub map_got : {A B : Type 0} (f : A → B) (xs : List A) (k : ℕ) (x : A) → slice_get xs k ≡ Some x → slice_get (map f xs) k ≡ Some (f x)
map_got f [] k x h = absurd cc
map_got {B = B} f (y ∷ xs) zero x h = let same : y ≡ x = cc in ap {B = Option B} (λ z. Some (f z)) same
map_got f (y ∷ xs) (suc k) x h = map_got f xs k x h

-- the processors at the start, by number
got_range : {A : Type 0} (f : ℕ → A) (from count k : ℕ) (x : A) → slice_get (map f (range_with_len from count)) k ≡ Some x → x ≡ f (from + k)
got_range f from zero k x h = absurd cc
got_range f from (suc count) zero x h = let same : x ≡ f from = cc in same ∙ ap f (omega arith)
got_range f from (suc count) (suc k) x h = got_range f (from + 1) count k x h ∙ ap f (omega arith)

-- a drain of this cell of this processor comes last among its own
pub drains_push : (cpu cell : ℕ) (drains : List Drained) (drain : Drained) → is_of cpu cell drain ≡ true
    → drains_of cpu cell drains ++ drain ∷ [] ≡ drains_of cpu cell (drains ++ drain ∷ [])
drains_push cpu cell [] drain own = sym (cond-true (is_of cpu cell drain) (drain ∷ []) [] own)
drains_push cpu cell (d ∷ ds) drain own =
    cond_both (is_of cpu cell d) (d ∷ drains_of cpu cell ds) (drains_of cpu cell ds)
    (λ (z : List Drained). z ++ drain ∷ [] ≡ drains_of cpu cell (d ∷ (ds ++ drain ∷ [])))
    (λ e. ap {B = List Drained} (λ (z : List Drained). d ∷ z) (drains_push cpu cell ds drain own)
    ∙ sym (cond-true (is_of cpu cell d) (d ∷ drains_of cpu cell (ds ++ drain ∷ [])) (drains_of cpu cell (ds ++ drain ∷ [])) e))
    (λ e. drains_push cpu cell ds drain own
    ∙ sym (cond-false (is_of cpu cell d) (d ∷ drains_of cpu cell (ds ++ drain ∷ [])) (drains_of cpu cell (ds ++ drain ∷ [])) e))

-- another one leaves them
pub drains_other : (cpu cell : ℕ) (drains : List Drained) (drain : Drained) → is_of cpu cell drain ≡ false
    → drains_of cpu cell drains ≡ drains_of cpu cell (drains ++ drain ∷ [])
drains_other cpu cell [] drain own = sym (cond-false (is_of cpu cell drain) (drain ∷ []) [] own)
drains_other cpu cell (d ∷ ds) drain own =
    cond_both (is_of cpu cell d) (d ∷ drains_of cpu cell ds) (drains_of cpu cell ds)
    (λ (z : List Drained). z ≡ drains_of cpu cell (d ∷ (ds ++ drain ∷ [])))
    (λ e. ap {B = List Drained} (λ (z : List Drained). d ∷ z) (drains_other cpu cell ds drain own)
    ∙ sym (cond-true (is_of cpu cell d) (d ∷ drains_of cpu cell (ds ++ drain ∷ [])) (drains_of cpu cell (ds ++ drain ∷ [])) e))
    (λ e. drains_other cpu cell ds drain own
    ∙ sym (cond-false (is_of cpu cell d) (d ∷ drains_of cpu cell (ds ++ drain ∷ [])) (drains_of cpu cell (ds ++ drain ∷ [])) e))

-- a batch of this cell of this processor
pub of_cell : (cpu cell : ℕ) (drain : Drained) → IsOf cpu cell drain.batch → is_of cpu cell drain ≡ true
of_cell cpu cell drain own = rw (eq-eqb drain.batch.note.cpu cpu own.0, eq-eqb drain.batch.note.cell cell own.1) refl

pub of_other_cell : (cpu cell other : ℕ) (drain : Drained) → IsOf cpu cell drain.batch → (cell ≡ other → ⊥) → is_of cpu other drain ≡ false
of_other_cell cpu cell other drain own apart =
    and_right (eqb drain.batch.note.cpu cpu) (eqb drain.batch.note.cell other) (eqb_apart drain.batch.note.cell other (λ e. apart (sym own.1 ∙ e)))

pub of_other_cpu : (cpu other cell : ℕ) (drain : Drained) → drain.batch.note.cpu ≡ cpu → (cpu ≡ other → ⊥) → is_of other cell drain ≡ false
of_other_cpu cpu other cell drain own apart =
    and_left (eqb drain.batch.note.cpu other) (eqb drain.batch.note.cell cell) (eqb_apart drain.batch.note.cpu other (λ e. apart (sym own ∙ e)))

-- what a driver of a trace is made for
pub fit_setup : (pace : Pace) (trace : Recording) (cpu : ℕ) → IsFit trace → cpu < trace.cpus → IsSetup (setup_of pace trace cpu)
fit_setup pace trace cpu fit within =
    let half : length (records_in trace) ≡ (2 * length (records_in trace) + 1) / 2 = omega arith in
    record {
      cpu = omega (arith, fit.cpus);
      few = (fit.streams cpu).few;
      rising = (fit.streams cpu).rising;
      odd = omega arith;
      bound = omega (arith, fit.records);
      due = subst (λ (n : ℕ). MarksUpTo n (stream_of cpu trace)) half (fit.streams cpu).marks;
    }

-- a processor at the start
start_lane : DriverLaws → (pace : Pace) (trace : Recording) (cpu : ℕ) → IsFit trace → LaneHolds pace trace cpu 0 false [] [] [] (new_processor trace cpu)
start_lane laws pace trace cpu fit = record {
  lane = laws.start (setup_of pace trace cpu) (Some (room_of trace cpu)) trace.buckets trace.buffer
      (omega arith) fit.buckets fit.buffer;
  buckets = refl;
  size = refl;
  idle = record { free0 = refl; free1 = refl; free2 = refl; given = refl };
  bell = record { last = refl; behind = omega arith; rising = tt; known = inl refl };
  cell0 = record { passed = record { front = inl refl; home = λ h. refl }; own = tt; same = refl; due_then = tt; before = tt };
  cell1 = record { passed = record { front = inl refl; home = λ h. refl }; own = tt; same = refl; due_then = tt; before = tt };
  cell2 = record { passed = record { front = inl refl; home = λ h. refl }; own = tt; same = refl; due_then = tt; before = tt };
  answering = (refl, refl);
  in_time = tt;
  settled = tt;
}

pub start_holds : DriverLaws → (pace : Pace) (trace : Recording) (first_epoch : ℕ) → IsFit trace → SystemHolds pace trace first_epoch (start trace first_epoch)
start_holds laws pace trace first_epoch fit = record {
  count = length-map-range_with_len (new_processor trace) 0 trace.cpus;
  lanes = λ cpu processor there. subst (λ (p : Processor). HoldsAt pace trace (start trace first_epoch).daemon cpu p)
      (sym (got_range (new_processor trace) 0 trace.cpus cpu processor there ∙ ap (λ n. new_processor trace n) (omega arith)))
      (start_lane laws pace trace cpu fit);
  books = books_begin pace trace first_epoch;
  ended = λ done. absurd cc;
}

-- a turn
turn_holds : DriverLaws → (pace : Pace) (trace : Recording) (first_epoch : ℕ) (system : System) (cpu : ℕ) (found : Option Processor) → IsFit trace
    → slice_get system.processors cpu ≡ found → system.daemon.finished ≡ false
    → SystemHolds pace trace first_epoch system → SystemHolds pace trace first_epoch (after_turn pace trace system cpu found)
turn_holds laws pace trace first_epoch system cpu None fit there going holds = holds
turn_holds laws pace trace first_epoch system cpu (Some processor) fit there going holds = record {
  count = length-set system.processors cpu (turned (setup_of pace trace cpu) processor) ∙ holds.count;
  lanes = λ k p got. elim (one_changed system.processors cpu k (turned (setup_of pace trace cpu) processor) p got) as (λ z. HoldsAt pace trace system.daemon k p) [
    | inl e ↦ subst (λ (n : ℕ). HoldsAt pace trace system.daemon n p) (sym e.0)
        (subst (λ (q : Processor). HoldsAt pace trace system.daemon cpu q) (sym e.1)
        (lane_turned laws pace trace cpu system.daemon.applied system.daemon.asking (drains_of cpu 0 system.daemon.drains)
        (drains_of cpu 1 system.daemon.drains) (drains_of cpu 2 system.daemon.drains) processor
        (fit_setup pace trace cpu fit (omega (arith, slice_get_within system.processors cpu processor there, holds.count)))
        (holds.lanes cpu processor there)))
    | inr e ↦ holds.lanes k p e
  ];
  books = holds.books;
  ended = λ done. both_answers system.daemon.finished done going;
}

-- the lists of drains of a processor may be written in other ways
lane_lists : (pace : Pace) (trace : Recording) (cpu at : ℕ) (asking : Bool) (first second third first1 second1 third1 : List Drained) (processor : Processor)
    → first ≡ first1 → second ≡ second1 → third ≡ third1
    → LaneHolds pace trace cpu at asking first second third processor → LaneHolds pace trace cpu at asking first1 second1 third1 processor
lane_lists pace trace cpu at asking first second third first1 second1 third1 processor e0 e1 e2 holds =
    subst (λ (z : List Drained). LaneHolds pace trace cpu at asking first1 second1 z processor) e2
    (subst (λ (z : List Drained). LaneHolds pace trace cpu at asking first1 z third processor) e1
    (subst (λ (z : List Drained). LaneHolds pace trace cpu at asking z second third processor) e0 holds))

-- the run after a poll that made of the processor this one and brought this batch
abbrev pub AfterPoll : Recording → System → ℕ → Processor → Option Sent → System
AfterPoll trace system cpu processor found = record {
  processors = slice_set system.processors cpu processor;
  daemon = noted_if (records_in trace) system.daemon found;
}

-- a poll that brings nothing
poll_none : (pace : Pace) (trace : Recording) (first_epoch : ℕ) (system : System) (cpu : ℕ) (after : Processor) → system.daemon.finished ≡ false
    → HoldsAt pace trace system.daemon cpu after → SystemHolds pace trace first_epoch system
    → SystemHolds pace trace first_epoch (AfterPoll trace system cpu after None)
poll_none pace trace first_epoch system cpu after going lane holds = record {
  count = length-set system.processors cpu after ∙ holds.count;
  lanes = λ k p got. elim (one_changed system.processors cpu k after p got) as (λ z. HoldsAt pace trace system.daemon k p) [
    | inl e ↦ subst (λ (n : ℕ). HoldsAt pace trace system.daemon n p) (sym e.0) (subst (λ (q : Processor). HoldsAt pace trace system.daemon cpu q) (sym e.1) lane)
    | inr e ↦ holds.lanes k p e
  ];
  books = holds.books;
  ended = λ done. both_answers system.daemon.finished done going;
}

-- what holds of a processor after a batch of another was noted
lane_beside : (pace : Pace) (trace : Recording) (daemon : Daemon) (cpu k : ℕ) (batch : Sent) (processor : Processor) → batch.note.cpu ≡ cpu → (cpu ≡ k → ⊥)
    → HoldsAt pace trace daemon k processor → HoldsAt pace trace (noted (records_in trace) daemon batch) k processor
lane_beside pace trace daemon cpu k batch processor own apart holds =
    let drain : Drained = drain_of (records_in trace) daemon batch in
    lane_lists pace trace k daemon.applied daemon.asking (drains_of k 0 daemon.drains) (drains_of k 1 daemon.drains) (drains_of k 2 daemon.drains)
    (drains_of k 0 (daemon.drains ++ drain ∷ [])) (drains_of k 1 (daemon.drains ++ drain ∷ [])) (drains_of k 2 (daemon.drains ++ drain ∷ [])) processor
    (drains_other k 0 daemon.drains drain (of_other_cpu cpu k 0 drain own apart))
    (drains_other k 1 daemon.drains drain (of_other_cpu cpu k 1 drain own apart))
    (drains_other k 2 daemon.drains drain (of_other_cpu cpu k 2 drain own apart)) holds

-- a poll that brings a batch
poll_some : (pace : Pace) (trace : Recording) (first_epoch : ℕ) (system : System) (cpu : ℕ) (after : Processor) (batch : Sent) → system.daemon.finished ≡ false
    → cpu < trace.cpus → batch.note.cpu ≡ cpu → batch.note.cell ≤ 2
    → HoldsAt pace trace (noted (records_in trace) system.daemon batch) cpu after → SystemHolds pace trace first_epoch system
    → SystemHolds pace trace first_epoch (AfterPoll trace system cpu after (Some batch))
poll_some pace trace first_epoch system cpu after batch going within own cell lane holds =
    let daemon : Daemon = noted (records_in trace) system.daemon batch in
    record {
      count = length-set system.processors cpu after ∙ holds.count;
      lanes = λ k p got. elim (one_changed system.processors cpu k after p got) as (λ z. HoldsAt pace trace daemon k p) [
        | inl e ↦ subst (λ (n : ℕ). HoldsAt pace trace daemon n p) (sym e.0) (subst (λ (q : Processor). HoldsAt pace trace daemon cpu q) (sym e.1) lane)
        | inr e ↦ beside k p got e (eqb cpu k) refl
      ];
      books = books_noted pace trace first_epoch system.daemon batch (omega (arith, own)) cell holds.books;
      ended = λ done. both_answers system.daemon.finished done going;
    }
  where
    beside : (k : ℕ) (p : Processor) → slice_get (slice_set system.processors cpu after) k ≡ Some p → slice_get system.processors k ≡ Some p
        → (t : Bool) → eqb cpu k ≡ t → HoldsAt pace trace (noted (records_in trace) system.daemon batch) k p
    beside k p got e false t = lane_beside pace trace system.daemon cpu k batch p own (λ same. eqb-false cpu k t same) (holds.lanes k p e)
    beside k p got e true t =
        let same : cpu ≡ k = eqb-true cpu k t in
        let there : slice_get (slice_set system.processors cpu after) cpu ≡ Some p = subst (λ (n : ℕ). slice_get (slice_set system.processors cpu after) n ≡ Some p) (sym same) got in
        let inside : cpu < length system.processors = omega (arith, slice_get_within system.processors k p e) in
        let is : after ≡ p = set_there system.processors cpu after p inside there in
        subst (λ (n : ℕ). HoldsAt pace trace (noted (records_in trace) system.daemon batch) n p) same
        (subst (λ (q : Processor). HoldsAt pace trace (noted (records_in trace) system.daemon batch) cpu q) is lane)

-- polls of the three cells
poll_first : DriverLaws → (pace : Pace) (trace : Recording) (first_epoch : ℕ) (system : System) (cpu : ℕ) (processor : Processor) (word : ℕ) (found : Option Sent)
    → slice_get system.processors cpu ≡ Some processor → system.daemon.finished ≡ false
    → slice_get processor.side.first.handed (length processor.far.first.taken) ≡ found
    → SystemHolds pace trace first_epoch system → SystemHolds pace trace first_epoch (AfterPoll trace system cpu (poll_buffer processor 0 word found) found)
poll_first laws pace trace first_epoch system cpu processor word None there going waits holds =
    let daemon = system.daemon in
    poll_none pace trace first_epoch system cpu (poll_buffer processor 0 word None) going
    (lane_polled0 laws.polls pace trace cpu daemon.applied daemon.asking (drains_of cpu 0 daemon.drains) (drains_of cpu 1 daemon.drains)
    (drains_of cpu 2 daemon.drains) processor word (holds.lanes cpu processor there)) holds
poll_first laws pace trace first_epoch system cpu processor word (Some batch) there going waits holds =
    let daemon = system.daemon in
    let lane = holds.lanes cpu processor there in
    let drain : Drained = drain_of (records_in trace) daemon batch in
    let handed : processor.side.first.handed ≡ processor.far.first.taken ++ batch ∷ [] =
    front_some processor.far.first.taken processor.side.first.handed batch lane.cell0.passed.front waits in
    let own : IsOf cpu 0 batch = all_last (IsOf cpu 0) processor.far.first.taken batch (subst (λ (z : List Sent). AllOf (IsOf cpu 0) z) handed lane.cell0.own) in
    poll_some pace trace first_epoch system cpu (poll_buffer processor 0 word (Some batch)) batch going
    (omega (arith, slice_get_within system.processors cpu processor there, holds.count)) own.0 (omega (arith, own.1))
    (lane_lists pace trace cpu daemon.applied daemon.asking (drains_of cpu 0 daemon.drains ++ drain ∷ []) (drains_of cpu 1 daemon.drains) (drains_of cpu 2 daemon.drains)
    (drains_of cpu 0 (daemon.drains ++ drain ∷ [])) (drains_of cpu 1 (daemon.drains ++ drain ∷ [])) (drains_of cpu 2 (daemon.drains ++ drain ∷ []))
    (poll_buffer processor 0 word (Some batch))
    (drains_push cpu 0 daemon.drains drain (of_cell cpu 0 drain own))
    (drains_other cpu 1 daemon.drains drain (of_other_cell cpu 0 1 drain own (λ e. omega arith)))
    (drains_other cpu 2 daemon.drains drain (of_other_cell cpu 0 2 drain own (λ e. omega arith)))
    (lane_drained0 laws.polls pace trace cpu daemon.applied daemon.asking (drains_of cpu 0 daemon.drains) (drains_of cpu 1 daemon.drains)
    (drains_of cpu 2 daemon.drains) processor word drain waits refl lane)) holds

poll_second : DriverLaws → (pace : Pace) (trace : Recording) (first_epoch : ℕ) (system : System) (cpu : ℕ) (processor : Processor) (word : ℕ) (found : Option Sent)
    → slice_get system.processors cpu ≡ Some processor → system.daemon.finished ≡ false
    → slice_get processor.side.second.handed (length processor.far.second.taken) ≡ found
    → SystemHolds pace trace first_epoch system → SystemHolds pace trace first_epoch (AfterPoll trace system cpu (poll_buffer processor 1 word found) found)
poll_second laws pace trace first_epoch system cpu processor word None there going waits holds =
    let daemon = system.daemon in
    poll_none pace trace first_epoch system cpu (poll_buffer processor 1 word None) going
    (lane_polled1 laws.polls pace trace cpu daemon.applied daemon.asking (drains_of cpu 0 daemon.drains) (drains_of cpu 1 daemon.drains)
    (drains_of cpu 2 daemon.drains) processor word (holds.lanes cpu processor there)) holds
poll_second laws pace trace first_epoch system cpu processor word (Some batch) there going waits holds =
    let daemon = system.daemon in
    let lane = holds.lanes cpu processor there in
    let drain : Drained = drain_of (records_in trace) daemon batch in
    let handed : processor.side.second.handed ≡ processor.far.second.taken ++ batch ∷ [] =
    front_some processor.far.second.taken processor.side.second.handed batch lane.cell1.passed.front waits in
    let own : IsOf cpu 1 batch = all_last (IsOf cpu 1) processor.far.second.taken batch (subst (λ (z : List Sent). AllOf (IsOf cpu 1) z) handed lane.cell1.own) in
    poll_some pace trace first_epoch system cpu (poll_buffer processor 1 word (Some batch)) batch going
    (omega (arith, slice_get_within system.processors cpu processor there, holds.count)) own.0 (omega (arith, own.1))
    (lane_lists pace trace cpu daemon.applied daemon.asking (drains_of cpu 0 daemon.drains) (drains_of cpu 1 daemon.drains ++ drain ∷ []) (drains_of cpu 2 daemon.drains)
    (drains_of cpu 0 (daemon.drains ++ drain ∷ [])) (drains_of cpu 1 (daemon.drains ++ drain ∷ [])) (drains_of cpu 2 (daemon.drains ++ drain ∷ []))
    (poll_buffer processor 1 word (Some batch))
    (drains_other cpu 0 daemon.drains drain (of_other_cell cpu 1 0 drain own (λ e. omega arith)))
    (drains_push cpu 1 daemon.drains drain (of_cell cpu 1 drain own))
    (drains_other cpu 2 daemon.drains drain (of_other_cell cpu 1 2 drain own (λ e. omega arith)))
    (lane_drained1 laws.polls pace trace cpu daemon.applied daemon.asking (drains_of cpu 0 daemon.drains) (drains_of cpu 1 daemon.drains)
    (drains_of cpu 2 daemon.drains) processor word drain waits refl lane)) holds

poll_third : DriverLaws → (pace : Pace) (trace : Recording) (first_epoch : ℕ) (system : System) (cpu : ℕ) (processor : Processor) (word : ℕ) (found : Option Sent)
    → slice_get system.processors cpu ≡ Some processor → system.daemon.finished ≡ false
    → slice_get processor.side.third.handed (length processor.far.third.taken) ≡ found
    → SystemHolds pace trace first_epoch system → SystemHolds pace trace first_epoch (AfterPoll trace system cpu (poll_table processor word found) found)
poll_third laws pace trace first_epoch system cpu processor word None there going waits holds =
    let daemon = system.daemon in
    poll_none pace trace first_epoch system cpu (poll_table processor word None) going
    (lane_polled2 laws.polls pace trace cpu daemon.applied daemon.asking (drains_of cpu 0 daemon.drains) (drains_of cpu 1 daemon.drains)
    (drains_of cpu 2 daemon.drains) processor word (holds.lanes cpu processor there)) holds
poll_third laws pace trace first_epoch system cpu processor word (Some batch) there going waits holds =
    let daemon = system.daemon in
    let lane = holds.lanes cpu processor there in
    let drain : Drained = drain_of (records_in trace) daemon batch in
    let handed : processor.side.third.handed ≡ processor.far.third.taken ++ batch ∷ [] =
    front_some processor.far.third.taken processor.side.third.handed batch lane.cell2.passed.front waits in
    let own : IsOf cpu 2 batch = all_last (IsOf cpu 2) processor.far.third.taken batch (subst (λ (z : List Sent). AllOf (IsOf cpu 2) z) handed lane.cell2.own) in
    poll_some pace trace first_epoch system cpu (poll_table processor word (Some batch)) batch going
    (omega (arith, slice_get_within system.processors cpu processor there, holds.count)) own.0 (omega (arith, own.1))
    (lane_lists pace trace cpu daemon.applied daemon.asking (drains_of cpu 0 daemon.drains) (drains_of cpu 1 daemon.drains) (drains_of cpu 2 daemon.drains ++ drain ∷ [])
    (drains_of cpu 0 (daemon.drains ++ drain ∷ [])) (drains_of cpu 1 (daemon.drains ++ drain ∷ [])) (drains_of cpu 2 (daemon.drains ++ drain ∷ []))
    (poll_table processor word (Some batch))
    (drains_other cpu 0 daemon.drains drain (of_other_cell cpu 2 0 drain own (λ e. omega arith)))
    (drains_other cpu 1 daemon.drains drain (of_other_cell cpu 2 1 drain own (λ e. omega arith)))
    (drains_push cpu 2 daemon.drains drain (of_cell cpu 2 drain own))
    (lane_drained2 laws.polls pace trace cpu daemon.applied daemon.asking (drains_of cpu 0 daemon.drains) (drains_of cpu 1 daemon.drains)
    (drains_of cpu 2 daemon.drains) processor word drain waits refl lane)) holds

-- a poll of a cell of 2 or more is of the table
pub polls_table : (processor : Processor) (cell : ℕ) → polled processor (suc (suc cell)) ≡ poll_table processor (words_of processor).third (waiting_at processor (suc (suc cell)))
polls_table processor cell =
    let at = suc (suc cell) in
    let found = waiting_at processor at in
    cond-false (eqb at 0) (poll_buffer processor 0 (words_of processor).two.first found)
    (if eqb at 1 then poll_buffer processor 1 (words_of processor).two.second found else poll_table processor (words_of processor).third found)
    (eqb_apart at 0 (λ e. omega arith))
    ∙ cond-false (eqb at 1) (poll_buffer processor 1 (words_of processor).two.second found) (poll_table processor (words_of processor).third found)
    (eqb_apart at 1 (λ e. omega arith))

pub waits_table : (processor : Processor) (cell : ℕ) → waiting_at processor (suc (suc cell)) ≡ waiting_in processor.side.third.handed processor.far.third.taken
waits_table processor cell =
    let at = suc (suc cell) in
    let first = waiting_in processor.side.first.handed processor.far.first.taken in
    let second = waiting_in processor.side.second.handed processor.far.second.taken in
    let third = waiting_in processor.side.third.handed processor.far.third.taken in
    cond-false (eqb at 0) first (if eqb at 1 then second else third) (eqb_apart at 0 (λ e. omega arith))
    ∙ cond-false (eqb at 1) second third (eqb_apart at 1 (λ e. omega arith))

-- a poll
poll_holds : DriverLaws → (pace : Pace) (trace : Recording) (first_epoch : ℕ) (system : System) (cpu cell : ℕ) (found : Option Processor)
    → slice_get system.processors cpu ≡ found → system.daemon.finished ≡ false
    → SystemHolds pace trace first_epoch system → SystemHolds pace trace first_epoch (after_poll trace system cpu cell found)
poll_holds laws pace trace first_epoch system cpu cell None there going holds = holds
poll_holds laws pace trace first_epoch system cpu zero (Some processor) there going holds =
    poll_first laws pace trace first_epoch system cpu processor (words_of processor).two.first (waiting_in processor.side.first.handed processor.far.first.taken) there going refl holds
poll_holds laws pace trace first_epoch system cpu (suc zero) (Some processor) there going holds =
    poll_second laws pace trace first_epoch system cpu processor (words_of processor).two.second (waiting_in processor.side.second.handed processor.far.second.taken) there going refl holds
poll_holds laws pace trace first_epoch system cpu (suc (suc cell)) (Some processor) there going holds =
    subst (λ (q : Processor). SystemHolds pace trace first_epoch (AfterPoll trace system cpu q (waiting_at processor (suc (suc cell))))) (sym (polls_table processor cell))
    (poll_third laws pace trace first_epoch system cpu processor (words_of processor).third (waiting_at processor (suc (suc cell))) there going
    (sym (waits_table processor cell)) holds)

-- the run after an advance that did this
abbrev pub AfterAdvance : System → Advancing → System
AfterAdvance system advancing = record {
  processors = rung_if advancing.ring system.processors;
  daemon = advancing.daemon;
}

-- where none is waited for, all flushes are complete
all_ready : (value cpu : ℕ) (fars : List FarSide) → first_waiting value cpu fars ≡ None → AllOf (λ far. is_flushed value far ≡ true) fars
all_ready value cpu [] none = tt
all_ready value cpu (far ∷ fars) none = ready_head (λ rest. all_ready value (cpu + 1) fars rest) (is_flushed value far) refl
  where
    ready_head : (first_waiting value (cpu + 1) fars ≡ None → AllOf (λ f. is_flushed value f ≡ true) fars)
        → (t : Bool) → is_flushed value far ≡ t → AllOf (λ f. is_flushed value f ≡ true) (far ∷ fars)
    ready_head others true e = (e, others (sym (cond-true (is_flushed value far) (first_waiting value (cpu + 1) fars) (Some cpu) e) ∙ none))
    ready_head others false e = let w : Some cpu ≡ None = sym (cond-false (is_flushed value far) (first_waiting value (cpu + 1) fars) (Some cpu) e) ∙ none in absurd cc

-- the bells are rung
ring_holds : (pace : Pace) (trace : Recording) (first_epoch value : ℕ) (system : System) (daemon : Daemon) → daemon.finished ≡ false
    → KeepsBooks pace trace first_epoch daemon
    → ((cpu : ℕ) (processor : Processor) → slice_get system.processors cpu ≡ Some processor → HoldsAt pace trace daemon cpu (rung value processor))
    → length system.processors ≡ trace.cpus
    → SystemHolds pace trace first_epoch (record { processors = map (rung value) system.processors; daemon = daemon })
ring_holds pace trace first_epoch value system daemon going books lanes count = record {
  count = length-map system.processors (rung value) ∙ count;
  lanes = λ cpu processor got.
      let found = got_map (rung value) system.processors cpu processor got in
      subst (λ (q : Processor). HoldsAt pace trace daemon cpu q) (sym found.2) (lanes cpu found.0 found.1);
  books = books;
  ended = λ done. both_answers daemon.finished done going;
}

-- what is asked for
ask_holds : DriverLaws → (pace : Pace) (trace : Recording) (first_epoch : ℕ) (system : System) → system.daemon.finished ≡ false → system.daemon.asking ≡ false
    → KeepsBooks pace trace first_epoch (ask system.daemon).daemon
    → SystemHolds pace trace first_epoch system → SystemHolds pace trace first_epoch (AfterAdvance system (ask system.daemon))
ask_holds laws pace trace first_epoch system going free books holds =
    let daemon = system.daemon in
    ring_holds pace trace first_epoch (flush_before daemon.applied) system (ask daemon).daemon going books
    (λ cpu processor there. lane_asked laws.polls pace trace cpu daemon.applied (drains_of cpu 0 daemon.drains) (drains_of cpu 1 daemon.drains)
    (drains_of cpu 2 daemon.drains) processor
    (subst (λ (t : Bool). LaneHolds pace trace cpu daemon.applied t (drains_of cpu 0 daemon.drains) (drains_of cpu 1 daemon.drains) (drains_of cpu 2 daemon.drains) processor)
    free (holds.lanes cpu processor there))) holds.count

-- a record that needs no flush is put in force
move_holds : DriverLaws → (pace : Pace) (trace : Recording) (first_epoch : ℕ) (system : System) (notice : Record) → system.daemon.finished ≡ false
    → system.daemon.asking ≡ false → slice_get (records_in trace) system.daemon.applied ≡ Some notice → needs_flush pace notice ≡ false
    → KeepsBooks pace trace first_epoch (move system.daemon notice).daemon
    → SystemHolds pace trace first_epoch system → SystemHolds pace trace first_epoch (AfterAdvance system (move system.daemon notice))
move_holds laws pace trace first_epoch system notice going free there need books holds =
    let daemon = system.daemon in
    ring_holds pace trace first_epoch (in_force (daemon.applied + 1)) system (move daemon notice).daemon going books
    (λ cpu processor got. lane_moved laws.polls pace trace cpu daemon.applied notice (drains_of cpu 0 daemon.drains) (drains_of cpu 1 daemon.drains)
    (drains_of cpu 2 daemon.drains) processor there need
    (subst (λ (t : Bool). LaneHolds pace trace cpu daemon.applied t (drains_of cpu 0 daemon.drains) (drains_of cpu 1 daemon.drains) (drains_of cpu 2 daemon.drains) processor)
    free (holds.lanes cpu processor got))) holds.count

-- nothing is asked for
begin_holds : DriverLaws → (pace : Pace) (trace : Recording) (first_epoch : ℕ) (system : System) (next : Option Record) → system.daemon.finished ≡ false
    → system.daemon.asking ≡ false → slice_get (records_in trace) system.daemon.applied ≡ next
    → KeepsBooks pace trace first_epoch (begin pace system.daemon next).daemon
    → SystemHolds pace trace first_epoch system → SystemHolds pace trace first_epoch (AfterAdvance system (begin pace system.daemon next))
begin_holds laws pace trace first_epoch system None going free there books holds = ask_holds laws pace trace first_epoch system going free books holds
begin_holds laws pace trace first_epoch system (Some notice) going free there books holds =
    let daemon = system.daemon in
    cond_both (needs_flush pace notice) (ask daemon) (move daemon notice)
    (λ (a : Advancing). KeepsBooks pace trace first_epoch a.daemon → SystemHolds pace trace first_epoch (AfterAdvance system a))
    (λ e books. ask_holds laws pace trace first_epoch system going free books holds)
    (λ e books. move_holds laws pace trace first_epoch system notice going free there e books holds) books

-- what was asked for is complete
settle_holds : DriverLaws → (pace : Pace) (trace : Recording) (first_epoch : ℕ) (system : System) (next : Option Record) → system.daemon.finished ≡ false
    → system.daemon.asking ≡ true → slice_get (records_in trace) system.daemon.applied ≡ next → AllFlushed system.daemon system.processors
    → KeepsBooks pace trace first_epoch (settle system.daemon next).daemon
    → SystemHolds pace trace first_epoch system → SystemHolds pace trace first_epoch (AfterAdvance system (settle system.daemon next))
settle_holds laws pace trace first_epoch system None going asks there flushed books holds = record {
  count = holds.count;
  lanes = holds.lanes;
  books = books;
  ended = λ done. record {
    asking = asks;
    all = omega (arith, none_there (records_in trace) system.daemon.applied there, holds.books.stands.within);
    flushed = flushed;
  };
}
settle_holds laws pace trace first_epoch system (Some notice) going asks there flushed books holds =
    let daemon = system.daemon in
    let need : AsksInNeed pace (Some notice) = subst (λ (n : Option Record). AsksInNeed pace n) there (holds.books.stands.need asks) in
    ring_holds pace trace first_epoch (in_force (daemon.applied + 1)) system (move daemon notice).daemon going books
    (λ cpu processor got. lane_settled laws.polls pace trace cpu daemon.applied notice (drains_of cpu 0 daemon.drains) (drains_of cpu 1 daemon.drains)
    (drains_of cpu 2 daemon.drains) processor there need (flushed cpu processor got)
    (subst (λ (t : Bool). LaneHolds pace trace cpu daemon.applied t (drains_of cpu 0 daemon.drains) (drains_of cpu 1 daemon.drains) (drains_of cpu 2 daemon.drains) processor)
    asks (holds.lanes cpu processor got))) holds.count

-- a flush is asked for
go_on_holds : DriverLaws → (pace : Pace) (trace : Recording) (first_epoch : ℕ) (system : System) (waiting : Option ℕ) → system.daemon.finished ≡ false
    → system.daemon.asking ≡ true
    → first_waiting (flush_before system.daemon.applied) 0 (map (λ processor. processor.far) system.processors) ≡ waiting
    → KeepsBooks pace trace first_epoch (go_on (records_in trace) system.daemon waiting).daemon
    → SystemHolds pace trace first_epoch system → SystemHolds pace trace first_epoch (AfterAdvance system (go_on (records_in trace) system.daemon waiting))
go_on_holds laws pace trace first_epoch system None going asks ready books holds =
    let daemon = system.daemon in
    let fars = map (λ (p : Processor). p.far) system.processors in
    let all : AllOf (λ far. is_flushed (flush_before daemon.applied) far ≡ true) fars = all_ready (flush_before daemon.applied) 0 fars ready in
    settle_holds laws pace trace first_epoch system (slice_get (records_in trace) daemon.applied) going asks refl
    (λ cpu processor got. got_all (λ far. is_flushed (flush_before daemon.applied) far ≡ true) fars cpu processor.far all
    (map_got (λ (p : Processor). p.far) system.processors cpu processor got)) books holds
go_on_holds laws pace trace first_epoch system (Some cpu) going asks ready books holds = record {
  count = holds.count;
  lanes = holds.lanes;
  books = holds.books;
  ended = λ done. both_answers system.daemon.finished done going;
}

-- an advance
advance_holds : DriverLaws → (pace : Pace) (trace : Recording) (first_epoch : ℕ) (system : System) → system.daemon.finished ≡ false
    → SystemHolds pace trace first_epoch system → SystemHolds pace trace first_epoch (after_advance pace trace system)
advance_holds laws pace trace first_epoch system going holds =
    let daemon = system.daemon in
    let fars = map (λ (p : Processor). p.far) system.processors in
    let waiting = first_waiting (flush_before daemon.applied) 0 fars in
    cond_both daemon.asking (go_on (records_in trace) daemon waiting) (begin pace daemon (slice_get (records_in trace) daemon.applied))
    (λ (a : Advancing). KeepsBooks pace trace first_epoch a.daemon → SystemHolds pace trace first_epoch (AfterAdvance system a))
    (λ asks books. go_on_holds laws pace trace first_epoch system waiting going asks refl books holds)
    (λ free books. begin_holds laws pace trace first_epoch system (slice_get (records_in trace) daemon.applied) going free refl books holds)
    (books_advanced pace trace first_epoch daemon fars holds.books)

-- a step
act_holds : DriverLaws → (pace : Pace) (trace : Recording) (first_epoch : ℕ) (system : System) (step : Step) → IsFit trace → system.daemon.finished ≡ false
    → SystemHolds pace trace first_epoch system → SystemHolds pace trace first_epoch (acts pace trace system step)
act_holds laws pace trace first_epoch system (Lane cpu) fit going holds =
    turn_holds laws pace trace first_epoch system cpu (slice_get system.processors cpu) fit refl going holds
act_holds laws pace trace first_epoch system (Poll cpu cell) fit going holds =
    poll_holds laws pace trace first_epoch system cpu cell (slice_get system.processors cpu) refl going holds
act_holds laws pace trace first_epoch system Advance fit going holds = advance_holds laws pace trace first_epoch system going holds

pub step_holds : DriverLaws → (pace : Pace) (trace : Recording) (first_epoch : ℕ) (system : System) (step : Step) → IsFit trace
    → SystemHolds pace trace first_epoch system → SystemHolds pace trace first_epoch (after_step pace trace system step)
step_holds laws pace trace first_epoch system step fit holds =
    cond_both system.daemon.finished system (acts pace trace system step) (λ (s : System). SystemHolds pace trace first_epoch s)
    (λ e. holds) (λ e. act_holds laws pace trace first_epoch system step fit e holds)

pub steps_hold : DriverLaws → (pace : Pace) (trace : Recording) (first_epoch : ℕ) (system : System) (steps : List Step) → IsFit trace
    → SystemHolds pace trace first_epoch system → SystemHolds pace trace first_epoch (after_steps pace trace system steps)
steps_hold laws pace trace first_epoch system [] fit holds = holds
steps_hold laws pace trace first_epoch system (step ∷ steps) fit holds =
    steps_hold laws pace trace first_epoch (after_step pace trace system step) steps fit (step_holds laws pace trace first_epoch system step fit holds)

-- at every moment of a run
pub run_holds : DriverLaws → (pace : Pace) (trace : Recording) (first_epoch : ℕ) (steps : List Step) → IsFit trace
    → SystemHolds pace trace first_epoch (run_so_far pace trace first_epoch steps)
run_holds laws pace trace first_epoch steps fit =
    steps_hold laws pace trace first_epoch (start trace first_epoch) steps fit (start_holds laws pace trace first_epoch fit)
