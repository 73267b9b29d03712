-- A turn of its driver keeps what holds of a processor.
use Rattle.std.proofs.Common.{◌≡◌, ℕ, ◌≤◌, List, [], ◌∷◌, ◌++◌, refl, sym, ◌∙◌, ap, subst, arith, inl, inr, ◌⊎◌, Bool, true, false, is_some}
use Rattle.std.proofs.lemmas.Bool.{cond-true}
use Rattle.std.proofs.lemmas.List.{map-append}
use Rattle.sample_key.specs.Sent.{Sent}
use Rattle.sample_key.specs.declared.keys.Marked.{Marked}
use Rattle.sample_key.specs.declared.losses.Pace.{Pace}
use Rattle.trace_model.specs.Recording.{Recording}
use Rattle.trace_model.specs.Streams.{stream_of, records_in}
use Rattle.trace_model.specs.declared.notices.Record.{Record}
use Rattle.driver_model.specs.Lists.{AllOf}
use Rattle.driver_model.specs.Sides.{Side, side_hear}
use Rattle.driver_model.specs.Handover.{rung_of, WasRung}
use Rattle.driver_model.specs.Driver.{Setup, Driver, Words, Turned, turn_of, after_regain, regain, ends_with}
use Rattle.driver_model.specs.Invariant.{IsSetup, is_active, last_answer}
use Rattle.driver_model.specs.declared.answers.Turn.TheVariants.{Done}
use Rattle.driver_laws.specs.Turns.{BellIsHeard}
use Rattle.driver_laws.specs.Doings.{CellDid, AnswersBell, AnswersNothing, Taken, DidBy, TurnDid}
use Rattle.driver_laws.proofs.Lists.{all_push}
use Rattle.database_model.specs.Runs.{Drained}
use Rattle.run_model.specs.Daemon.{flush_before}
use Rattle.run_model.specs.Running.{Processor, setup_of, words_of, turn_on, turned}
use Rattle.run_laws.proofs.Driven.{DriverLaws}
use Rattle.run_laws.proofs.Basics.{IsFront, front_even, front_odd, both_answers, rung_known}
use Rattle.run_laws.proofs.Owed.{asked_before, answers_of, last_of_answers}
use Rattle.run_laws.proofs.Lanes.{IsOf, bell_of, Answering, CellHolds, IsRungTo, LaneHolds}

-- what a turn heard, and that it leaves the made sizes
pub record Hears (before after : Side) (bell : ℕ) : Type 0 where
  pub heard : (after.heard ≡ bell) ⊎ (after.heard ≡ before.heard)
  pub buckets : after.buckets ≡ before.buckets
  pub buffer : after.buffer ≡ before.buffer

-- after the close a turn hears nothing
hears_of : BellIsHeard → (setup : Setup) (words : Words) (driver : Driver) (side : Side) (done : Bool) → driver.done ≡ done
    → Hears side (turn_of setup words (record { driver = driver; side = side })).side words.bell
hears_of law setup words driver side false is =
    let h = law setup words driver side is in record { heard = inl h.heard; buckets = h.buckets; buffer = h.buffer }
hears_of law setup words driver side true is =
    subst (λ (t : Turned). Hears side t.side words.bell)
    (sym (cond-true driver.done (ends_with (record { driver = driver; side = side }) Done)
    (after_regain setup words (regain driver (side_hear side words.bell) words.third driver.table)) is))
    (record { heard = inr refl; buckets = refl; buffer = refl })

-- a cell after a turn
cell_turned : (cpu cell at : ℕ) (samples : List Marked) (P : Sent → Type 0) (before after taken : List Sent) (mine held : Bool) (drains : List Drained)
    → CellDid cpu cell P taken before after held
    → CellHolds cpu cell at samples before taken mine drains → CellHolds cpu cell at samples after taken held drains
cell_turned cpu cell at samples P before after taken mine held drains (inl none) holds = record {
  passed = record {
    front = subst (λ (z : List Sent). IsFront taken z) (sym none.same) holds.passed.front;
    home = λ home. none.home home ∙ sym none.same;
  };
  own = subst (λ (z : List Sent). AllOf (IsOf cpu cell) z) (sym none.same) holds.own;
  same = holds.same;
  due_then = holds.due_then;
  before = holds.before;
}
cell_turned cpu cell at samples P before after taken mine held drains (inr one) holds = record {
  passed = record {
    front = inr (one.batch, one.more ∙ ap {B = List Sent} (λ (z : List Sent). z ++ one.batch ∷ []) (sym one.home));
    home = λ home. both_answers held home one.out;
  };
  own = subst (λ (z : List Sent). AllOf (IsOf cpu cell) z) (sym one.more)
      (all_push (IsOf cpu cell) before one.batch holds.own (one.cpu_is, one.cell_is));
  same = holds.same;
  due_then = holds.due_then;
  before = holds.before;
}

-- a table batch that a turn handed answers the flush that is asked for
answering_turned : (pace : Pace) (records : List Record) (cpu at : ℕ) (asking : Bool) (before after taken : List Sent) (bell answered : ℕ) (held : Bool)
    → CellDid cpu 2 (AnswersBell bell answered) taken before after held → bell ≡ bell_of asking at → last_answer 0 before ≡ answered
    → Answering pace records at asking before taken → Answering pace records at asking after taken
answering_turned pace records cpu at asking before after taken bell answered held (inl none) rung last holds =
    subst (λ (z : List Sent). Answering pace records at asking z taken) (sym none.same) holds
answering_turned pace records cpu at false before after taken bell answered held (inr one) rung last holds =
    absurd (omega (arith, rung, one.fact.1))
answering_turned pace records cpu at true before after taken bell answered held (inr one) rung last (inl all) =
    let own : one.batch.note.answers ≡ flush_before at = one.fact.0 ∙ rung in
    inr (
    ap {B = List ℕ} (λ (z : List Sent). answers_of z) one.more
    ∙ map-append (λ (b : Sent). b.note.answers) before (one.batch ∷ [])
    ∙ ap {B = List ℕ} (λ (z : List ℕ). z ++ one.batch.note.answers ∷ []) all.0
    ∙ ap {B = List ℕ} (λ (z : ℕ). asked_before pace records at ++ z ∷ []) own)
answering_turned pace records cpu at true before after taken bell answered held (inr one) rung last (inr now) =
    let same : last_answer 0 before ≡ flush_before at = last_of_answers 0 (flush_before at) before (asked_before pace records at) now in
    absurd (omega (arith, one.fact.2))

-- the bell after a turn heard it
rung_turned : (value : ℕ) (rungs : List ℕ) (before after : Side) → Hears before after (rung_of rungs) → IsRungTo value rungs before.heard
    → IsRungTo value rungs after.heard
rung_turned value rungs before after hears bell = record {
  last = bell.last;
  behind = elim hears.heard as (λ z. after.heard ≤ value) [ inl now ↦ omega (arith, bell.last) | inr same ↦ omega (arith, bell.behind) ];
  rising = bell.rising;
  known = elim hears.heard as (λ z. WasRung after.heard rungs) [
    | inl now ↦ subst (λ (n : ℕ). WasRung n rungs) (sym now) (rung_known rungs)
    | inr same ↦ subst (λ (n : ℕ). WasRung n rungs) (sym same) bell.known
  ];
}

-- the batches that the daemon took of a processor
abbrev pub taken_of : Processor → Taken
taken_of processor = record { first = processor.far.first.taken; second = processor.far.second.taken; third = processor.far.third.taken }

-- what a turn of its driver did to the cells of a processor
pub turn_did : TurnDid → (pace : Pace) (trace : Recording) (cpu at : ℕ) (asking : Bool) (first second third : List Drained) (processor : Processor)
    → LaneHolds pace trace cpu at asking first second third processor
    → DidBy (setup_of pace trace cpu) (rung_of processor.far.rungs) processor.driver.answered (taken_of processor) processor.side
    (turn_on (setup_of pace trace cpu) processor)
turn_did law pace trace cpu at asking first second third processor holds =
    let side = processor.side in
    let far = processor.far in
    law (setup_of pace trace cpu) (words_of processor) processor.driver side (taken_of processor)
    (record { active = holds.lane.in_step.number; next = holds.lane.in_step.next })
    (record { first = holds.cell0.passed.home; second = holds.cell1.passed.home; third = holds.cell2.passed.home })
    (record {
      first = λ even. front_even far.first.taken side.first.handed holds.cell0.passed.front even;
      second = λ even. front_even far.second.taken side.second.handed holds.cell1.passed.front even;
      third = λ even. front_even far.third.taken side.third.handed holds.cell2.passed.front even;
    })

pub lane_turned : DriverLaws → (pace : Pace) (trace : Recording) (cpu at : ℕ) (asking : Bool) (first second third : List Drained) (processor : Processor)
    → IsSetup (setup_of pace trace cpu) → LaneHolds pace trace cpu at asking first second third processor
    → LaneHolds pace trace cpu at asking first second third (turned (setup_of pace trace cpu) processor)
lane_turned laws pace trace cpu at asking first second third processor made holds =
    let setup = setup_of pace trace cpu in
    let words = words_of processor in
    let driver = processor.driver in
    let side = processor.side in
    let far = processor.far in
    let hears : Hears side (turn_on setup processor).side (rung_of far.rungs) = hears_of laws.heard setup words driver side driver.done refl in
    let did : DidBy setup words.bell driver.answered (taken_of processor) side (turn_on setup processor) = turn_did laws.did pace trace cpu at asking first second third processor holds in
    record {
      lane = laws.turn setup words driver side made holds.size (
        (λ odd. front_odd far.first.taken side.first.handed holds.cell0.passed.front odd),
        (λ odd. front_odd far.second.taken side.second.handed holds.cell1.passed.front odd),
      )
          (omega (arith, holds.bell.behind, holds.bell.last)) holds.lane;
      buckets = hears.buckets ∙ holds.buckets;
      size = holds.size ∙ sym hears.buffer;
      idle = holds.idle;
      bell = rung_turned (bell_of asking at) far.rungs side (turn_on setup processor).side hears holds.bell;
      cell0 = cell_turned cpu 0 at (stream_of cpu trace) AnswersNothing side.first.handed (turn_on setup processor).side.first.handed far.first.taken
          (is_active driver.pair 0) (is_active (turn_on setup processor).driver.pair 0) first did.first holds.cell0;
      cell1 = cell_turned cpu 1 at (stream_of cpu trace) AnswersNothing side.second.handed (turn_on setup processor).side.second.handed far.second.taken
          (is_active driver.pair 1) (is_active (turn_on setup processor).driver.pair 1) second did.second holds.cell1;
      cell2 = cell_turned cpu 2 at (stream_of cpu trace) (AnswersBell words.bell driver.answered) side.third.handed (turn_on setup processor).side.third.handed far.third.taken
          (is_some driver.table) (is_some (turn_on setup processor).driver.table) third did.third holds.cell2;
      answering = answering_turned pace (records_in trace) cpu at asking side.third.handed (turn_on setup processor).side.third.handed far.third.taken
          words.bell driver.answered (is_some (turn_on setup processor).driver.table) did.third holds.bell.last holds.lane.answers_rise.last holds.answering;
      in_time = holds.in_time;
      settled = holds.settled;
    }
