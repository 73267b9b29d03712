-- Each round but the first gets on, so rounds finish a run.
use Rattle.std.proofs.Common.{◌≡◌, ℕ, zero, suc, ◌+◌, ◌*◌, ◌-◌, ◌/◌, ◌%◌, ◌<◌, ◌≤◌, List, [], ◌∷◌, ◌++◌, length, map, refl, sym, ◌∙◌, ap, subst, arith, inl, inr, ◌⊎◌, Bool, true, false, ◌&&◌, if◌then◌else◌, Some, None, Option, is_some, eqb, leb, eqb-true, eq-eqb, le-leb}
use Rattle.std.specs.Prelude.{slice_get}
use Rattle.std.specs.List.{flat_map}
use Rattle.std.proofs.lemmas.Bool.{cond_both, cond-true, cond-false}
use Rattle.std.proofs.lemmas.List.{map-append}
use Rattle.std.proofs.lemmas.Option.{slice_get_within}
use Rattle.sample_key.specs.Sent.{Sent}
use Rattle.sample_key.specs.declared.losses.Pace.TheVariants.{Free}
use Rattle.trace_model.specs.Recording.{Recording}
use Rattle.trace_model.specs.Streams.{stream_of, records_in}
use Rattle.trace_model.specs.declared.notices.Record.{Record}
use Rattle.trace_model.specs.declared.notices.Step.{Step}
use Rattle.trace_model.specs.declared.notices.Step.TheVariants.{Lane, Advance}
use Rattle.driver_model.specs.Lists.{AllOf}
use Rattle.driver_model.specs.Handover.{FarSide}
use Rattle.driver_model.specs.Driver.{Driver}
use Rattle.driver_model.specs.Invariant.{IsWholeFlush, last_answer}
use Rattle.driver_laws.specs.Doings.{TurnGoesOn, TurnGetsOn, CellDid, AnswersBell}
use Rattle.driver_laws.proofs.Lists.{all_last, all_append}
use Rattle.driver_laws.proofs.Parts.{all_each}
use Rattle.driver_laws.proofs.Marks.{due_most}
use Rattle.database_model.specs.Runs.{Drained}
use Rattle.run_model.specs.Daemon.{Daemon, Advancing, needs_flush, flush_before, is_flushed, answering, reaches, first_waiting, move, ask, settle, go_on, begin, advance}
use Rattle.run_model.specs.Running.{Processor, System, setup_of, turned, rung, rung_if, words_of, cpus_of, advance_in, after_advance, start, acts, after_step, after_steps, round, rounds, sample_count}
use Rattle.run_model.specs.Shares.{drains_of}
use Rattle.run_laws.specs.Laws.{IsFit, run_so_far}
use Rattle.run_laws.proofs.Driven.{DriverLaws}
use Rattle.run_laws.proofs.Basics.{both_answers, eqb_apart}
use Rattle.run_laws.proofs.Owed.{answers_of, asked_before, asked_below}
use Rattle.run_laws.proofs.Lanes.{AnsweredNow, LaneHolds}
use Rattle.run_laws.proofs.Turning.{lane_turned, turn_did}
use Rattle.run_laws.proofs.Systems.{SystemHolds, AfterAdvance, got_map, fit_setup, steps_hold, run_holds}
use Rattle.run_laws.proofs.Endings.{got_within}
use Rattle.run_rounds.proofs.Own.{IsOwn, StandsStill, own_steps, own_append, own_lanes, own_polls, lanes_here, polls_here, polls_of, polled_all, steps_got, steps_still, steps_append, step_acts}
use Rattle.run_rounds.proofs.Taking.{IsTaken, AfterPolls, all_polled}
use Rattle.run_rounds.proofs.Measure.{left_from, left_of, moves_left, NoneBack, left_less, left_strictly, most_left}

-- the laws of a turn that rounds rest on besides
pub record GoingOn : Type 0 where
  pub laws : DriverLaws
  pub later : TurnGoesOn
  pub gets_on : TurnGetsOn

-- no table batch waits
abbrev pub IsHome : List Processor → Type 0
IsHome processors = (k : ℕ) (processor : Processor) → slice_get processors k ≡ Some processor → processor.far.third.taken ≡ processor.side.third.handed

-- the batch that answers a value is there, where one answers it last
answering_last : (P : Sent → Type 0) (value : ℕ) (low : List ℕ) (batches : List Sent) → AllOf (λ x. x < value) low → answers_of batches ≡ low ++ value ∷ []
    → AllOf P batches → (batch : Sent) × (answering value batches ≡ Some batch) × P batch
answering_last P value [] [] below e all = absurd cc
answering_last P value (x ∷ low) [] below e all = absurd cc
answering_last P value [] (b ∷ bs) below e all =
    let same : b.note.answers ≡ value = cc in
    (b, cond-true (eqb b.note.answers value) (Some b) (answering value bs) (eq-eqb b.note.answers value same), all.0)
answering_last P value (x ∷ low) (b ∷ bs) below e all =
    let same : b.note.answers ≡ x = cc in
    let rest : answers_of bs ≡ low ++ value ∷ [] = cc in
    let r = answering_last P value low bs below.1 rest all.1 in
    (r.0, cond-false (eqb b.note.answers value) (Some b) (answering value bs) (eqb_apart b.note.answers value (λ f. omega (arith, below.0, same))) ∙ r.1, r.2)

-- answers that are all lower end lower
last_below : (value least : ℕ) (batches : List Sent) → least < value → AllOf (λ x. x < value) (answers_of batches) → last_answer least batches < value
last_below value least [] low below = low
last_below value least (b ∷ bs) low below = last_below value b.note.answers bs below.0 below.1

-- where all was taken, a flush that was answered is complete
flushed_now : (trace : Recording) (cpu at : ℕ) (first second third : List Drained) (processor : Processor) → LaneHolds Free trace cpu at true first second third processor
    → IsTaken processor → AnsweredNow Free (records_in trace) at processor.side.third.handed → is_flushed (flush_before at) processor.far ≡ true
flushed_now trace cpu at first second third processor holds taken now =
    let side = processor.side in
    let far = processor.far in
    let samples = stream_of cpu trace in
    let all : AllOf (λ b. (b.note.sent0 ≤ length side.first.handed) × (b.note.sent1 ≤ length side.second.handed)) side.third.handed =
    all_each (IsWholeFlush samples side.first.handed side.second.handed processor.driver.losses)
    (λ b. (b.note.sent0 ≤ length side.first.handed) × (b.note.sent1 ≤ length side.second.handed)) (λ done b h. (h.sent0, h.sent1)) [] side.third.handed holds.lane.flushes in
    let found = answering_last (λ b. (b.note.sent0 ≤ length side.first.handed) × (b.note.sent1 ≤ length side.second.handed)) (flush_before at)
    (asked_before Free (records_in trace) at) side.third.handed (asked_below Free (records_in trace) at) now all in
    let b : Sent = found.0 in
    let l0 : length far.first.taken ≡ length side.first.handed = ap length taken.first in
    let l1 : length far.second.taken ≡ length side.second.handed = ap length taken.second in
    ap (λ (z : List Sent). reaches far (answering (flush_before at) z)) taken.third ∙ ap (λ (o : Option Sent). reaches far o) found.1
    ∙ both_true (leb b.note.sent0 (length far.first.taken)) (leb b.note.sent1 (length far.second.taken))
    (le-leb b.note.sent0 (length far.first.taken) (omega (arith, found.2.0))) (le-leb b.note.sent1 (length far.second.taken) (omega (arith, found.2.1)))
  where
    both_true : (x y : Bool) → x ≡ true → y ≡ true → (x && y) ≡ true
    both_true true y e f = f
    both_true false y e f = e

-- in a round of a processor whose flush does not come to be complete a sample was taken or lost
lane_gets_on : GoingOn → (trace : Recording) (cpu at : ℕ) (first second third later0 later1 later2 : List Drained) (processor : Processor) → IsFit trace → cpu < trace.cpus
    → at ≤ length (records_in trace) → LaneHolds Free trace cpu at true first second third processor
    → LaneHolds Free trace cpu at true later0 later1 later2 (polled_all (turned (setup_of Free trace cpu) processor))
    → AfterPolls (turned (setup_of Free trace cpu) processor) (polled_all (turned (setup_of Free trace cpu) processor))
    → processor.far.third.taken ≡ processor.side.third.handed
    → is_flushed (flush_before at) (polled_all (turned (setup_of Free trace cpu) processor)).far ≡ false
    → processor.driver.at < (polled_all (turned (setup_of Free trace cpu) processor)).driver.at
lane_gets_on going trace cpu at first second third later0 later1 later2 processor fit inside within holds after polls home waits =
    let setup = setup_of Free trace cpu in
    let next = turned setup processor in
    let last = polled_all next in
    let driver = processor.driver in
    let side = processor.side in
    let value = flush_before at in
    elim after.answering as (λ z. driver.at < last.driver.at) [
      | inr now ↦ both_answers (is_flushed value last.far) (flushed_now trace cpu at later0 later1 later2 last after polls.taken now) waits
      | inl all ↦
          let low : AllOf (λ x. x < value) (answers_of next.side.third.handed) =
          subst (λ (z : List Sent). AllOf (λ x. x < value) (answers_of z)) polls.third
          (subst (λ (z : List ℕ). AllOf (λ x. x < value) z) (sym all.0) (asked_below Free (records_in trace) at)) in
          let did : CellDid cpu 2 (AnswersBell (words_of processor).bell driver.answered) processor.far.third.taken side.third.handed next.side.third.handed (is_some next.driver.table) =
          (turn_did going.laws.did Free trace cpu at true first second third processor holds).third in
          let bell : (words_of processor).bell ≡ value = holds.bell.last in
          let answered_low : driver.answered < value = elim did as (λ z. driver.answered < value) [
            | inl none ↦ omega (
              arith,
              holds.lane.answers_rise.last,
              last_below value 0 side.third.handed (omega arith)
                  (subst (λ (z : List Sent). AllOf (λ x. x < value) (answers_of z)) none.same low),
            )
            | inr one ↦ omega (arith, one.fact.2)
          ] in
          let open_still : driver.done ≡ false = not_done driver.done (λ done. omega (arith, eqb-true driver.answered setup.last (sym holds.lane.closed.done ∙ done))) in
          elim (going.gets_on setup (words_of processor) driver side (fit_setup Free trace cpu fit inside) refl (omega arith) open_still
          (inr (eq-eqb ((length side.third.handed + length processor.far.third.taken) % 2) 0 (omega (arith, ap length home))))) as (λ z. driver.at < last.driver.at) [
            | inl before ↦ absurd (omega arith)
            | inr (inl hands) ↦
                let answers : AllOf (λ x. x < value) (answers_of side.third.handed ++ hands.0.note.answers ∷ []) =
                subst (λ (z : List ℕ). AllOf (λ x. x < value) z) (map-append (λ (b : Sent). b.note.answers) side.third.handed (hands.0 ∷ []))
                (subst (λ (z : List Sent). AllOf (λ x. x < value) (answers_of z)) hands.1 low) in
                let own : hands.0.note.answers < value = all_last (λ x. x < value) (answers_of side.third.handed) hands.0.note.answers answers in
                absurd (omega (arith, hands.2))
            | inr (inr more) ↦ subst (λ (d : Driver). driver.at < d.at) (sym polls.driver) more
          ]
    ]
  where
    not_done : (t : Bool) → (t ≡ true → ⊥) → t ≡ false
    not_done true h = absurd (h refl)
    not_done false h = refl

-- the turns and polls of a round
abbrev pub own_round : Recording → List Step
own_round trace = map Lane (cpus_of trace) ++ flat_map polls_of (cpus_of trace)

pub own_all : (trace : Recording) → AllOf IsOwn (own_round trace)
own_all trace = all_append IsOwn (map Lane (cpus_of trace)) (flat_map polls_of (cpus_of trace)) (own_lanes 0 trace.cpus) (own_polls 0 trace.cpus)

-- a round is turns and polls, and an advance
pub round_is : (trace : Recording) (system : System) → after_steps Free trace system (round trace) ≡ after_step Free trace (after_steps Free trace system (own_round trace)) Advance
round_is trace system =
    let lanes = map Lane (cpus_of trace) in
    let polls = flat_map polls_of (cpus_of trace) in
    steps_append Free trace system lanes (polls ++ Advance ∷ [])
    ∙ steps_append Free trace (after_steps Free trace system lanes) polls (Advance ∷ [])
    ∙ ap {B = System} (λ (s : System). after_step Free trace s Advance) (sym (steps_append Free trace system lanes polls))

-- a processor after the turns and polls of a round
round_got : (trace : Recording) (system : System) (k : ℕ) (processor : Processor) → system.daemon.finished ≡ false → k < trace.cpus
    → slice_get system.processors k ≡ Some processor
    → slice_get (after_steps Free trace system (own_round trace)).processors k ≡ Some (polled_all (turned (setup_of Free trace k) processor))
round_got trace system k processor going within there =
    let lanes = map Lane (cpus_of trace) in
    let polls = flat_map polls_of (cpus_of trace) in
    steps_got Free trace system k processor (own_round trace) (own_all trace) going there
    ∙ ap {B = Option Processor} (λ (p : Processor). Some p) (own_append Free trace k processor lanes polls
    ∙ ap (λ (p : Processor). own_steps Free trace k p polls) (lanes_here Free trace k processor 0 trace.cpus (omega arith) (omega arith))
    ∙ polls_here Free trace k (turned (setup_of Free trace k) processor) 0 trace.cpus (omega arith) (omega arith))

-- all that it handed was taken then
round_takes : GoingOn → (trace : Recording) (first_epoch : ℕ) (system : System) (k : ℕ) (processor : Processor) → IsFit trace → k < trace.cpus
    → SystemHolds Free trace first_epoch system → slice_get system.processors k ≡ Some processor
    → AfterPolls (turned (setup_of Free trace k) processor) (polled_all (turned (setup_of Free trace k) processor))
round_takes going trace first_epoch system k processor fit within holds there =
    let daemon = system.daemon in
    let lane = lane_turned going.laws Free trace k daemon.applied daemon.asking (drains_of k 0 daemon.drains) (drains_of k 1 daemon.drains) (drains_of k 2 daemon.drains)
    processor (fit_setup Free trace k fit within) (holds.lanes k processor there) in
    all_polled (turned (setup_of Free trace k) processor) (record { first = lane.cell0.passed.front; second = lane.cell1.passed.front; third = lane.cell2.passed.front })

-- no driver gave samples back in it
round_later : GoingOn → (trace : Recording) (first_epoch : ℕ) (system : System) → IsFit trace → system.daemon.finished ≡ false → SystemHolds Free trace first_epoch system
    → NoneBack system.processors (after_steps Free trace system (own_round trace)).processors
round_later going trace first_epoch system fit still holds k p q there got =
    let within : k < trace.cpus = omega (arith, slice_get_within system.processors k p there, holds.count) in
    let same : Some (polled_all (turned (setup_of Free trace k) p)) ≡ Some q = sym (round_got trace system k p still within there) ∙ got in
    let is : polled_all (turned (setup_of Free trace k) p) ≡ q = cc in
    let later : p.driver.at ≤ (turned (setup_of Free trace k) p).driver.at = going.later (setup_of Free trace k) (words_of p) (record { driver = p.driver; side = p.side }) in
    subst (λ (z : Processor). p.driver.at ≤ z.driver.at) is
    (subst (λ (d : Driver). p.driver.at ≤ d.at) (sym (round_takes going trace first_epoch system k p fit within holds there).driver) later)

-- the first processor that is waited for
waiting_found : (value from cpu : ℕ) (fars : List FarSide) → first_waiting value from fars ≡ Some cpu
    → (k : ℕ) × (far : FarSide) × (slice_get fars k ≡ Some far) × (is_flushed value far ≡ false)
waiting_found value from cpu [] e = absurd cc
waiting_found value from cpu (far ∷ fars) e = found_head (λ rest. waiting_found value (from + 1) cpu fars rest) (is_flushed value far) refl
  where
    found_head : (first_waiting value (from + 1) fars ≡ Some cpu → (k : ℕ) × (f : FarSide) × (slice_get fars k ≡ Some f) × (is_flushed value f ≡ false))
        → (t : Bool) → is_flushed value far ≡ t → (k : ℕ) × (f : FarSide) × (slice_get (far ∷ fars) k ≡ Some f) × (is_flushed value f ≡ false)
    found_head others true t =
        let r = others (sym (cond-true (is_flushed value far) (first_waiting value (from + 1) fars) (Some from) t) ∙ e) in (suc r.0, r.1, r.2, r.3)
    found_head others false t = (0, far, refl, t)

-- what an advance comes to: the run is finished, fewer moves are left, or a processor is waited for
abbrev pub Outcome : Recording → Daemon → List FarSide → Advancing → Type 0
Outcome trace daemon fars advancing =
    (advancing.daemon.finished ≡ true)
    ⊎ ((moves_left trace advancing.daemon < moves_left trace daemon)
    ⊎ ((daemon.asking ≡ true) × (moves_left trace advancing.daemon ≤ moves_left trace daemon)
    × ((k : ℕ) × (far : FarSide) × (slice_get fars k ≡ Some far) × (is_flushed (flush_before daemon.applied) far ≡ false))))

moves_at : (trace : Recording) (daemon : Daemon) (t : Bool) → daemon.asking ≡ t
    → moves_left trace daemon ≡ 2 * (length (records_in trace) - daemon.applied) + (if t then 0 else 1)
moves_at trace daemon t e = ap (λ (b : Bool). 2 * (length (records_in trace) - daemon.applied) + (if b then 0 else 1)) e

moved_less : (trace : Recording) (daemon : Daemon) (notice : Record) → slice_get (records_in trace) daemon.applied ≡ Some notice
    → moves_left trace (move daemon notice).daemon < moves_left trace daemon
moved_less trace daemon notice there = let within : daemon.applied < length (records_in trace) = slice_get_within (records_in trace) daemon.applied notice there in omega arith

asked_less : (trace : Recording) (daemon : Daemon) → daemon.asking ≡ false → moves_left trace (ask daemon).daemon < moves_left trace daemon
asked_less trace daemon free = omega (arith, moves_at trace daemon false free)

outcome_begin : (trace : Recording) (daemon : Daemon) (fars : List FarSide) (next : Option Record) → daemon.asking ≡ false → slice_get (records_in trace) daemon.applied ≡ next
    → Outcome trace daemon fars (begin Free daemon next)
outcome_begin trace daemon fars None free there = inr (inl (asked_less trace daemon free))
outcome_begin trace daemon fars (Some notice) free there =
    cond_both (needs_flush Free notice) (ask daemon) (move daemon notice) (λ (a : Advancing). Outcome trace daemon fars a)
    (λ e. inr (inl (asked_less trace daemon free))) (λ e. inr (inl (moved_less trace daemon notice there)))

outcome_settle : (trace : Recording) (daemon : Daemon) (fars : List FarSide) (next : Option Record) → slice_get (records_in trace) daemon.applied ≡ next
    → Outcome trace daemon fars (settle daemon next)
outcome_settle trace daemon fars None there = inl refl
outcome_settle trace daemon fars (Some notice) there = inr (inl (moved_less trace daemon notice there))

outcome_go_on : (trace : Recording) (daemon : Daemon) (fars : List FarSide) (waiting : Option ℕ) → daemon.asking ≡ true
    → first_waiting (flush_before daemon.applied) 0 fars ≡ waiting → Outcome trace daemon fars (go_on (records_in trace) daemon waiting)
outcome_go_on trace daemon fars None asks e = outcome_settle trace daemon fars (slice_get (records_in trace) daemon.applied) refl
outcome_go_on trace daemon fars (Some cpu) asks e = inr (inr (asks, omega arith, waiting_found (flush_before daemon.applied) 0 cpu fars e))

outcome_of : (trace : Recording) (daemon : Daemon) (fars : List FarSide) → Outcome trace daemon fars (advance Free (records_in trace) fars daemon)
outcome_of trace daemon fars =
    cond_both daemon.asking (go_on (records_in trace) daemon (first_waiting (flush_before daemon.applied) 0 fars)) (begin Free daemon (slice_get (records_in trace) daemon.applied))
    (λ (a : Advancing). Outcome trace daemon fars a)
    (λ e. outcome_go_on trace daemon fars (first_waiting (flush_before daemon.applied) 0 fars) e refl)
    (λ e. outcome_begin trace daemon fars (slice_get (records_in trace) daemon.applied) e refl)

-- a bell leaves samples and cells alone
left_rung : (trace : Recording) (cpu : ℕ) (ring : Option ℕ) (processors : List Processor) → left_from trace cpu (rung_if ring processors) ≡ left_from trace cpu processors
left_rung trace cpu None processors = refl
left_rung trace cpu (Some value) [] = refl
left_rung trace cpu (Some value) (p ∷ ps) = ap (λ (n : ℕ). (length (stream_of cpu trace) - p.driver.at) + n) (left_rung trace (cpu + 1) (Some value) ps)

home_rung : (ring : Option ℕ) (processors : List Processor) → IsHome processors → IsHome (rung_if ring processors)
home_rung None processors home = home
home_rung (Some value) processors home = λ k p got.
    let found = got_map (rung value) processors k p got in
    subst (λ (q : Processor). q.far.third.taken ≡ q.side.third.handed) (sym found.2) (home k found.0 found.1)

-- the run after a round that it was not finished before
round_advances : (trace : Recording) (system : System) → system.daemon.finished ≡ false
    → after_steps Free trace system (round trace) ≡ after_advance Free trace (after_steps Free trace system (own_round trace))
round_advances trace system going =
    let middle = after_steps Free trace system (own_round trace) in
    round_is trace system ∙ step_acts Free trace middle Advance ((steps_still Free trace system (own_round trace) (own_all trace) going).finished ∙ going)

-- after a round no table batch waits
round_home : GoingOn → (trace : Recording) (first_epoch : ℕ) (system : System) → IsFit trace → system.daemon.finished ≡ false → SystemHolds Free trace first_epoch system
    → IsHome (after_steps Free trace system (round trace)).processors
round_home going trace first_epoch system fit still holds =
    let middle = after_steps Free trace system (own_round trace) in
    let kept : SystemHolds Free trace first_epoch middle = steps_hold going.laws Free trace first_epoch system (own_round trace) fit holds in
    subst (λ (s : System). IsHome s.processors) (sym (round_advances trace system still))
    (home_rung (advance_in Free trace middle).ring middle.processors (λ k p got.
    let within : k < trace.cpus = omega (arith, slice_get_within middle.processors k p got, kept.count) in
    let found = got_within system.processors k (omega (arith, holds.count)) in
    let same : Some (polled_all (turned (setup_of Free trace k) found.0)) ≡ Some p = sym (round_got trace system k found.0 still within found.1) ∙ got in
    let is : polled_all (turned (setup_of Free trace k) found.0) ≡ p = cc in
    subst (λ (q : Processor). q.far.third.taken ≡ q.side.third.handed) is (round_takes going trace first_epoch system k found.0 fit within holds found.1).taken.third))

-- a round that begins with no table batch waiting finishes the run or gets on
round_gets_on : GoingOn → (trace : Recording) (first_epoch : ℕ) (system : System) → IsFit trace → system.daemon.finished ≡ false → SystemHolds Free trace first_epoch system
    → IsHome system.processors
    → ((after_steps Free trace system (round trace)).daemon.finished ≡ true) ⊎ (left_of trace (after_steps Free trace system (round trace)) < left_of trace system)
round_gets_on going trace first_epoch system fit still holds home =
    let middle = after_steps Free trace system (own_round trace) in
    let fars = map (λ (p : Processor). p.far) middle.processors in
    let advancing = advance_in Free trace middle in
    let kept : SystemHolds Free trace first_epoch middle = steps_hold going.laws Free trace first_epoch system (own_round trace) fit holds in
    let stands : StandsStill system.daemon middle.daemon = steps_still Free trace system (own_round trace) (own_all trace) still in
    let same : moves_left trace middle.daemon ≡ moves_left trace system.daemon =
    ap (λ (n : ℕ). 2 * (length (records_in trace) - n) + (if middle.daemon.asking then 0 else 1)) stands.applied
    ∙ ap (λ (b : Bool). 2 * (length (records_in trace) - system.daemon.applied) + (if b then 0 else 1)) stands.asking in
    let later : NoneBack system.processors middle.processors = round_later going trace first_epoch system fit still holds in
    let count : length system.processors ≡ length middle.processors = holds.count ∙ sym kept.count in
    let rung_left : left_from trace 0 (rung_if advancing.ring middle.processors) ≡ left_from trace 0 middle.processors = left_rung trace 0 advancing.ring middle.processors in
    subst (λ (s : System). (s.daemon.finished ≡ true) ⊎ (left_of trace s < left_of trace system)) (sym (round_advances trace system still))
    (elim (outcome_of trace middle.daemon fars) as (λ z. (advancing.daemon.finished ≡ true) ⊎ (left_of trace (AfterAdvance middle advancing) < left_of trace system)) [
      | inl done ↦ inl done
      | inr (inl less) ↦ inr (omega (arith, left_less trace 0 system.processors middle.processors count later))
      | inr (inr (asks, most, waiting)) ↦
          let k : ℕ = waiting.0 in
          let got = got_map (λ (p : Processor). p.far) middle.processors k waiting.1 waiting.2 in
          let within : k < trace.cpus = omega (arith, slice_get_within middle.processors k got.0 got.1, kept.count) in
          let found = got_within system.processors k (omega (arith, holds.count)) in
          let after = polled_all (turned (setup_of Free trace k) found.0) in
          let there : slice_get middle.processors k ≡ Some after = round_got trace system k found.0 still within found.1 in
          let both : Some after ≡ Some got.0 = sym there ∙ got.1 in
          let is : after ≡ got.0 = cc in
          let waits : is_flushed (flush_before system.daemon.applied) after.far ≡ false =
          ap (λ (p : Processor). is_flushed (flush_before system.daemon.applied) p.far) is ∙ ap (λ (f : FarSide). is_flushed (flush_before system.daemon.applied) f) (sym got.2)
          ∙ ap (λ (n : ℕ). is_flushed (flush_before n) waiting.1) (sym stands.applied) ∙ waiting.3 in
          let d = system.daemon in
          let e = middle.daemon in
          let before_lane : LaneHolds Free trace k d.applied true (drains_of k 0 d.drains) (drains_of k 1 d.drains) (drains_of k 2 d.drains) found.0 =
          subst (λ (t : Bool). LaneHolds Free trace k d.applied t (drains_of k 0 d.drains) (drains_of k 1 d.drains) (drains_of k 2 d.drains) found.0)
          (sym stands.asking ∙ asks) (holds.lanes k found.0 found.1) in
          let after_lane : LaneHolds Free trace k d.applied true (drains_of k 0 e.drains) (drains_of k 1 e.drains) (drains_of k 2 e.drains) after =
          subst (λ (n : ℕ). LaneHolds Free trace k n true (drains_of k 0 e.drains) (drains_of k 1 e.drains) (drains_of k 2 e.drains) after) stands.applied
          (subst (λ (t : Bool). LaneHolds Free trace k e.applied t (drains_of k 0 e.drains) (drains_of k 1 e.drains) (drains_of k 2 e.drains) after) asks
          (kept.lanes k after there)) in
          let more : found.0.driver.at < after.driver.at =
          lane_gets_on going trace k d.applied (drains_of k 0 d.drains) (drains_of k 1 d.drains) (drains_of k 2 d.drains) (drains_of k 0 e.drains) (drains_of k 1 e.drains)
          (drains_of k 2 e.drains) found.0 fit within holds.books.stands.within before_lane after_lane
          (round_takes going trace first_epoch system k found.0 fit within holds found.1) (home k found.0 found.1) waits in
          let most_here : after.driver.at ≤ length (stream_of k trace) =
          omega (arith, after_lane.lane.in_range.at, due_most (stream_of k trace) (after.side.heard / 2)) in
          let from_none : k ≡ 0 + k = omega arith in
          let most_at : after.driver.at ≤ length (stream_of (0 + k) trace) =
          subst (λ (n : ℕ). after.driver.at ≤ length (stream_of n trace)) from_none most_here in
          inr (omega (arith, left_strictly trace 0 k system.processors middle.processors found.0 after count later found.1 there more most_at))
    ])

-- a run that is finished stays as it is
pub stays : (trace : Recording) (system : System) (steps : List Step) → system.daemon.finished ≡ true → after_steps Free trace system steps ≡ system
stays trace system [] done = refl
stays trace system (step ∷ steps) done =
    ap (λ (s : System). after_steps Free trace s steps) (cond-true system.daemon.finished system (acts Free trace system step) done) ∙ stays trace system steps done

-- rounds finish a run in which no table batch waits, one for each sample and move that is left
finishes : GoingOn → (trace : Recording) (first_epoch count : ℕ) (system : System) → IsFit trace → SystemHolds Free trace first_epoch system → IsHome system.processors
    → left_of trace system < count → (after_steps Free trace system (rounds count trace)).daemon.finished ≡ true
finishes going trace first_epoch zero system fit holds home few = absurd (omega arith)
finishes going trace first_epoch (suc count) system fit holds home few =
    let next = after_steps Free trace system (round trace) in
    subst (λ (s : System). s.daemon.finished ≡ true) (sym (steps_append Free trace system (round trace) (rounds count trace)))
    (by_round (λ home less. finishes going trace first_epoch count next fit (steps_hold going.laws Free trace first_epoch system (round trace) fit holds) home less)
    system.daemon.finished refl next.daemon.finished refl)
  where
    by_round : (IsHome (after_steps Free trace system (round trace)).processors → left_of trace (after_steps Free trace system (round trace)) < count
        → (after_steps Free trace (after_steps Free trace system (round trace)) (rounds count trace)).daemon.finished ≡ true)
        → (now : Bool) → system.daemon.finished ≡ now → (next : Bool) → (after_steps Free trace system (round trace)).daemon.finished ≡ next
        → (after_steps Free trace (after_steps Free trace system (round trace)) (rounds count trace)).daemon.finished ≡ true
    by_round more now e true f =
        subst (λ (s : System). s.daemon.finished ≡ true) (sym (stays trace (after_steps Free trace system (round trace)) (rounds count trace) f)) f
    by_round more true e false f = both_answers system.daemon.finished e (ap (λ (s : System). s.daemon.finished) (sym (stays trace system (round trace) e)) ∙ f)
    by_round more false e false f =
        elim (round_gets_on going trace first_epoch system fit e holds home) as (λ z. (after_steps Free trace (after_steps Free trace system (round trace)) (rounds count trace)).daemon.finished ≡ true) [
          | inl done ↦ both_answers (after_steps Free trace system (round trace)).daemon.finished done f
          | inr less ↦ more (round_home going trace first_epoch system fit e holds) (omega arith)
        ]

-- from any moment of a run one round more
pub rounds_end : GoingOn → (trace : Recording) (first_epoch count : ℕ) (system : System) → IsFit trace → SystemHolds Free trace first_epoch system
    → sample_count trace + 2 * length (records_in trace) + 3 ≤ count → (after_steps Free trace system (rounds count trace)).daemon.finished ≡ true
rounds_end going trace first_epoch zero system fit holds enough = absurd (omega arith)
rounds_end going trace first_epoch (suc count) system fit holds enough =
    let next = after_steps Free trace system (round trace) in
    let kept : SystemHolds Free trace first_epoch next = steps_hold going.laws Free trace first_epoch system (round trace) fit holds in
    subst (λ (s : System). s.daemon.finished ≡ true) (sym (steps_append Free trace system (round trace) (rounds count trace)))
    (by_start system.daemon.finished refl (omega (arith, most_left trace next kept.count)))
  where
    by_start : (now : Bool) → system.daemon.finished ≡ now → left_of trace (after_steps Free trace system (round trace)) < count
        → (after_steps Free trace (after_steps Free trace system (round trace)) (rounds count trace)).daemon.finished ≡ true
    by_start true e few =
        ap (λ (s : System). (after_steps Free trace s (rounds count trace)).daemon.finished) (stays trace system (round trace) e)
        ∙ ap (λ (s : System). s.daemon.finished) (stays trace system (rounds count trace) e) ∙ e
    by_start false e few =
        finishes going trace first_epoch count (after_steps Free trace system (round trace)) fit (steps_hold going.laws Free trace first_epoch system (round trace) fit holds)
        (round_home going trace first_epoch system fit e holds) few

-- whatever the schedule did
pub run_ends : GoingOn → (trace : Recording) (first_epoch count : ℕ) (steps : List Step) → IsFit trace → sample_count trace + 2 * length (records_in trace) + 3 ≤ count
    → (run_so_far Free trace first_epoch (steps ++ rounds count trace)).daemon.finished ≡ true
run_ends going trace first_epoch count steps fit enough =
    ap (λ (s : System). s.daemon.finished) (steps_append Free trace (start trace first_epoch) steps (rounds count trace))
    ∙ rounds_end going trace first_epoch count (run_so_far Free trace first_epoch steps) fit (run_holds going.laws Free trace first_epoch steps fit) enough
