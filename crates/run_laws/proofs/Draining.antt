-- The daemon's polls and rings keep what holds of a processor.
use Rattle.std.proofs.Common.{◌≡◌, ℕ, ◌+◌, ◌/◌, ◌<◌, ◌≤◌, List, [], ◌∷◌, ◌++◌, length, refl, sym, ◌∙◌, ap, subst, arith, inl, inr, Bool, true, false, ◌&&◌, Some, None, Option, is_some, leb, length-append, leb-true}
use Rattle.std.specs.Prelude.{slice_get}
use Rattle.std.proofs.lemmas.List.{map-append, length-map}
use Rattle.sample_key.specs.Marks.{due}
use Rattle.sample_key.specs.Sent.{Sent}
use Rattle.sample_key.specs.declared.keys.Marked.{Marked}
use Rattle.sample_key.specs.declared.losses.Pace.{Pace}
use Rattle.trace_model.specs.Recording.{Recording}
use Rattle.trace_model.specs.Streams.{stream_of, records_in}
use Rattle.trace_model.specs.declared.notices.Record.{Record}
use Rattle.driver_model.specs.Lists.{AllOf}
use Rattle.driver_model.specs.Handover.{Given, FarSide, WasRung, given_buffer, given_table, side_poll_buffer, side_poll_table}
use Rattle.driver_model.specs.Invariant.{is_active}
use Rattle.driver_laws.specs.Turns.{PollsKeep}
use Rattle.driver_laws.proofs.Lists.{all_push, all_map, all_last, some_push}
use Rattle.database_model.specs.Runs.{Drained}
use Rattle.run_model.specs.Daemon.{needs_flush, in_force, flush_before, answering, reaches, is_flushed}
use Rattle.run_model.specs.Running.{Processor, setup_of, poll_buffer, poll_table, rung}
use Rattle.run_model.specs.Shares.{batches_in}
use Rattle.run_model.specs.Validity.{IsTakenInTime}
use Rattle.run_laws.proofs.Basics.{IsFront, front_some, not_longer, last_same, front_same, all_take, all_of_map, last_push, never_push}
use Rattle.run_laws.proofs.Owed.{asked_before, answers_of, asked_below, asked_more, asked_same, unreached, answering_all}
use Rattle.run_laws.proofs.Lanes.{bell_of, AllAnswered, AnsweredNow, Answering, IsReached, IsSettled, IsRungTo, LaneHolds, due_here, cell_drained, cell_later, timely_first, timely_second, settled_more, settled_next}

-- a batch that waits is due where the daemon stands
ripe : (samples : List Marked) (asking : Bool) (at heard count : ℕ) (handed taken : List Sent) (batch : Sent) → handed ≡ taken ++ batch ∷ []
    → AllOf (λ b. b.note.upto ≤ count) handed → heard ≤ bell_of asking at → count ≤ due samples (heard / 2) → batch.note.upto ≤ due samples at
ripe samples asking at heard count handed taken batch waits within behind taken_due =
    let here : batch.note.upto ≤ count = all_last (λ b. b.note.upto ≤ count) taken batch (subst (λ (z : List Sent). AllOf (λ b. b.note.upto ≤ count) z) waits within) in
    omega (arith, due_here samples asking at heard count behind taken_due)

-- a batch of buffer 0 is drained
pub lane_drained0 : PollsKeep → (pace : Pace) (trace : Recording) (cpu at : ℕ) (asking : Bool) (first second third : List Drained) (processor : Processor) (word : ℕ) (drain : Drained)
    → slice_get processor.side.first.handed (length processor.far.first.taken) ≡ Some drain.batch → drain.at ≡ at
    → LaneHolds pace trace cpu at asking first second third processor
    → LaneHolds pace trace cpu at asking (first ++ drain ∷ []) second third (poll_buffer processor 0 word (Some drain.batch))
lane_drained0 polls pace trace cpu at asking first second third processor word drain there here holds =
    let setup = setup_of pace trace cpu in
    let driver = processor.driver in
    let side = processor.side in
    let far = processor.far in
    let waits : side.first.handed ≡ far.first.taken ++ drain.batch ∷ [] = front_some far.first.taken side.first.handed drain.batch holds.cell0.passed.front there in
    record {
      lane = polls.called setup driver (side_poll_buffer side 0 word) (polls.buffer setup driver side 0 word holds.lane);
      buckets = holds.buckets;
      size = holds.size;
      idle = record {
        free0 = refl;
        free1 = holds.idle.free1;
        free2 = holds.idle.free2;
        given = ap (λ (g : Option Given). given_buffer g 0) holds.idle.given
            ∙ ap {B = Option Given} (λ (n : ℕ). Some (record { first = n; second = length far.second.taken; third = length far.third.taken }))
            (sym (length-append far.first.taken (drain.batch ∷ [])));
      };
      bell = holds.bell;
      cell0 = cell_drained cpu 0 at (stream_of cpu trace) side.first.handed far.first.taken (is_active driver.pair 0) first drain waits here
          (ripe (stream_of cpu trace) asking at side.heard driver.at side.first.handed far.first.taken drain.batch waits
          holds.lane.in_range.upto0 holds.bell.behind holds.lane.in_range.at) holds.cell0;
      cell1 = holds.cell1;
      cell2 = holds.cell2;
      answering = holds.answering;
      in_time = timely_first at first second third drain here holds.settled holds.in_time;
      settled = settled_more at (length first) (length second) (length (first ++ drain ∷ [])) (length second) third
          (omega (arith, length-append first (drain ∷ []))) (omega arith) holds.settled;
    }

-- a batch of buffer 1 is drained
pub lane_drained1 : PollsKeep → (pace : Pace) (trace : Recording) (cpu at : ℕ) (asking : Bool) (first second third : List Drained) (processor : Processor) (word : ℕ) (drain : Drained)
    → slice_get processor.side.second.handed (length processor.far.second.taken) ≡ Some drain.batch → drain.at ≡ at
    → LaneHolds pace trace cpu at asking first second third processor
    → LaneHolds pace trace cpu at asking first (second ++ drain ∷ []) third (poll_buffer processor 1 word (Some drain.batch))
lane_drained1 polls pace trace cpu at asking first second third processor word drain there here holds =
    let setup = setup_of pace trace cpu in
    let driver = processor.driver in
    let side = processor.side in
    let far = processor.far in
    let waits : side.second.handed ≡ far.second.taken ++ drain.batch ∷ [] = front_some far.second.taken side.second.handed drain.batch holds.cell1.passed.front there in
    record {
      lane = polls.called setup driver (side_poll_buffer side 1 word) (polls.buffer setup driver side 1 word holds.lane);
      buckets = holds.buckets;
      size = holds.size;
      idle = record {
        free0 = holds.idle.free0;
        free1 = refl;
        free2 = holds.idle.free2;
        given = ap (λ (g : Option Given). given_buffer g 1) holds.idle.given
            ∙ ap {B = Option Given} (λ (n : ℕ). Some (record { first = length far.first.taken; second = n; third = length far.third.taken }))
            (sym (length-append far.second.taken (drain.batch ∷ [])));
      };
      bell = holds.bell;
      cell0 = holds.cell0;
      cell1 = cell_drained cpu 1 at (stream_of cpu trace) side.second.handed far.second.taken (is_active driver.pair 1) second drain waits here
          (ripe (stream_of cpu trace) asking at side.heard driver.at side.second.handed far.second.taken drain.batch waits
          holds.lane.in_range.upto1 holds.bell.behind holds.lane.in_range.at) holds.cell1;
      cell2 = holds.cell2;
      answering = holds.answering;
      in_time = timely_second at first second third drain here holds.settled holds.in_time;
      settled = settled_more at (length first) (length second) (length first) (length (second ++ drain ∷ [])) third
          (omega arith) (omega (arith, length-append second (drain ∷ []))) holds.settled;
    }

-- a table batch that waits answers the flush that is asked for
table_answers : (pace : Pace) (records : List Record) (at : ℕ) (asking : Bool) (handed taken : List Sent) (batch : Sent) → handed ≡ taken ++ batch ∷ []
    → Answering pace records at asking handed taken → batch.note.answers ≡ flush_before at
table_answers pace records at false handed taken batch waits all = absurd (not_longer taken handed batch all.1 waits)
table_answers pace records at true handed taken batch waits (inl all) = absurd (not_longer taken handed batch all.1 waits)
table_answers pace records at true handed taken batch waits (inr now) =
    last_same (answers_of taken) (asked_before pace records at) batch.note.answers (flush_before at)
    (sym (map-append (λ (b : Sent). b.note.answers) taken (batch ∷ [])) ∙ ap {B = List ℕ} (λ (z : List Sent). answers_of z) (sym waits) ∙ now)

-- and nothing more is owed for having been taken
answering_drained : (pace : Pace) (records : List Record) (at : ℕ) (asking : Bool) (handed taken : List Sent) (batch : Sent) → handed ≡ taken ++ batch ∷ []
    → Answering pace records at asking handed taken → Answering pace records at asking handed (taken ++ batch ∷ [])
answering_drained pace records at false handed taken batch waits all = absurd (not_longer taken handed batch all.1 waits)
answering_drained pace records at true handed taken batch waits (inl all) = absurd (not_longer taken handed batch all.1 waits)
answering_drained pace records at true handed taken batch waits (inr now) = inr now

-- a table batch is drained
pub lane_drained2 : PollsKeep → (pace : Pace) (trace : Recording) (cpu at : ℕ) (asking : Bool) (first second third : List Drained) (processor : Processor) (word : ℕ) (drain : Drained)
    → slice_get processor.side.third.handed (length processor.far.third.taken) ≡ Some drain.batch → drain.at ≡ at
    → LaneHolds pace trace cpu at asking first second third processor
    → LaneHolds pace trace cpu at asking first second (third ++ drain ∷ []) (poll_table processor word (Some drain.batch))
lane_drained2 polls pace trace cpu at asking first second third processor word drain there here holds =
    let setup = setup_of pace trace cpu in
    let driver = processor.driver in
    let side = processor.side in
    let far = processor.far in
    let waits : side.third.handed ≡ far.third.taken ++ drain.batch ∷ [] = front_some far.third.taken side.third.handed drain.batch holds.cell2.passed.front there in
    record {
      lane = polls.called setup driver (side_poll_table side word) (polls.table setup driver side word holds.lane);
      buckets = holds.buckets;
      size = holds.size;
      idle = record {
        free0 = holds.idle.free0;
        free1 = holds.idle.free1;
        free2 = refl;
        given = ap (λ (g : Option Given). given_table g) holds.idle.given
            ∙ ap {B = Option Given} (λ (n : ℕ). Some (record { first = length far.first.taken; second = length far.second.taken; third = n }))
            (sym (length-append far.third.taken (drain.batch ∷ [])));
      };
      bell = holds.bell;
      cell0 = holds.cell0;
      cell1 = holds.cell1;
      cell2 = cell_drained cpu 2 at (stream_of cpu trace) side.third.handed far.third.taken (is_some driver.table) third drain waits here
          (ripe (stream_of cpu trace) asking at side.heard driver.at side.third.handed far.third.taken drain.batch waits
          holds.lane.in_range.upto2 holds.bell.behind holds.lane.in_range.at) holds.cell2;
      answering = answering_drained pace (records_in trace) at asking side.third.handed far.third.taken drain.batch waits holds.answering;
      in_time = all_push (IsTakenInTime first second) third drain holds.in_time (record {
        now = table_answers pace (records_in trace) at asking side.third.handed far.third.taken drain.batch waits holds.answering
            ∙ ap (λ (n : ℕ). flush_before n) (sym here);
        before0 = all_take (λ e. e.at ≤ drain.at) drain.batch.note.sent0 first
            (all_map (λ e. e.at ≤ at) (λ e. e.at ≤ drain.at) (λ e h. omega arith) first holds.cell0.before);
        before1 = all_take (λ e. e.at ≤ drain.at) drain.batch.note.sent1 second
            (all_map (λ e. e.at ≤ at) (λ e. e.at ≤ drain.at) (λ e h. omega arith) second holds.cell1.before);
      });
      settled = all_push (IsSettled at (length first) (length second)) third drain holds.settled (λ early. absurd (omega arith));
    }

-- a poll of a buffer that brings nothing
pub lane_polled0 : PollsKeep → (pace : Pace) (trace : Recording) (cpu at : ℕ) (asking : Bool) (first second third : List Drained) (processor : Processor) (word : ℕ)
    → LaneHolds pace trace cpu at asking first second third processor → LaneHolds pace trace cpu at asking first second third (poll_buffer processor 0 word None)
lane_polled0 polls pace trace cpu at asking first second third processor word holds = record {
  lane = polls.buffer (setup_of pace trace cpu) processor.driver processor.side 0 word holds.lane;
  buckets = holds.buckets;
  size = holds.size;
  idle = holds.idle;
  bell = holds.bell;
  cell0 = holds.cell0;
  cell1 = holds.cell1;
  cell2 = holds.cell2;
  answering = holds.answering;
  in_time = holds.in_time;
  settled = holds.settled;
}

pub lane_polled1 : PollsKeep → (pace : Pace) (trace : Recording) (cpu at : ℕ) (asking : Bool) (first second third : List Drained) (processor : Processor) (word : ℕ)
    → LaneHolds pace trace cpu at asking first second third processor → LaneHolds pace trace cpu at asking first second third (poll_buffer processor 1 word None)
lane_polled1 polls pace trace cpu at asking first second third processor word holds = record {
  lane = polls.buffer (setup_of pace trace cpu) processor.driver processor.side 1 word holds.lane;
  buckets = holds.buckets;
  size = holds.size;
  idle = holds.idle;
  bell = holds.bell;
  cell0 = holds.cell0;
  cell1 = holds.cell1;
  cell2 = holds.cell2;
  answering = holds.answering;
  in_time = holds.in_time;
  settled = holds.settled;
}

-- a poll of the table that brings nothing
pub lane_polled2 : PollsKeep → (pace : Pace) (trace : Recording) (cpu at : ℕ) (asking : Bool) (first second third : List Drained) (processor : Processor) (word : ℕ)
    → LaneHolds pace trace cpu at asking first second third processor → LaneHolds pace trace cpu at asking first second third (poll_table processor word None)
lane_polled2 polls pace trace cpu at asking first second third processor word holds = record {
  lane = polls.table (setup_of pace trace cpu) processor.driver processor.side word holds.lane;
  buckets = holds.buckets;
  size = holds.size;
  idle = holds.idle;
  bell = holds.bell;
  cell0 = holds.cell0;
  cell1 = holds.cell1;
  cell2 = holds.cell2;
  answering = holds.answering;
  in_time = holds.in_time;
  settled = holds.settled;
}

-- the bell is rung with a value that is no lower
rung_more : (value next : ℕ) (rungs : List ℕ) (heard : ℕ) → value ≤ next → IsRungTo value rungs heard → IsRungTo next (rungs ++ next ∷ []) heard
rung_more value next rungs heard on bell = record {
  last = last_push 0 rungs next;
  behind = omega (arith, bell.behind);
  rising = never_push 0 rungs next bell.rising (omega (arith, bell.last));
  known = elim bell.known as (λ z. WasRung heard (rungs ++ next ∷ [])) [
    | inl none ↦ inl none
    | inr some ↦ inr (some_push (λ x. x ≡ heard) rungs next some)
  ];
}

-- a flush is asked for
pub lane_asked : PollsKeep → (pace : Pace) (trace : Recording) (cpu at : ℕ) (first second third : List Drained) (processor : Processor)
    → LaneHolds pace trace cpu at false first second third processor
    → LaneHolds pace trace cpu at true first second third (rung (flush_before at) processor)
lane_asked polls pace trace cpu at first second third processor holds = record {
  lane = polls.called (setup_of pace trace cpu) processor.driver processor.side holds.lane;
  buckets = holds.buckets;
  size = holds.size;
  idle = record { free0 = holds.idle.free0; free1 = holds.idle.free1; free2 = holds.idle.free2; given = holds.idle.given };
  bell = rung_more (in_force at) (flush_before at) processor.far.rungs processor.side.heard (omega arith) holds.bell;
  cell0 = holds.cell0;
  cell1 = holds.cell1;
  cell2 = holds.cell2;
  answering = inl holds.answering;
  in_time = holds.in_time;
  settled = holds.settled;
}

-- the bell's value is no lower at the next position
bell_next : (asking : Bool) (at : ℕ) → bell_of asking at ≤ in_force (at + 1)
bell_next false at = omega arith
bell_next true at = omega arith

-- the next record is put in force, where all is answered up to there
lane_moves : PollsKeep → (pace : Pace) (trace : Recording) (cpu at : ℕ) (asking : Bool) (first second third : List Drained) (processor : Processor)
    → AllAnswered pace (records_in trace) (at + 1) processor.side.third.handed processor.far.third.taken
    → AllOf (λ t. t.batch.note.answers ≡ flush_before at → IsReached (length first) (length second) t) third
    → LaneHolds pace trace cpu at asking first second third processor
    → LaneHolds pace trace cpu (at + 1) false first second third (rung (in_force (at + 1)) processor)
lane_moves polls pace trace cpu at asking first second third processor all reached holds = record {
  lane = polls.called (setup_of pace trace cpu) processor.driver processor.side holds.lane;
  buckets = holds.buckets;
  size = holds.size;
  idle = record { free0 = holds.idle.free0; free1 = holds.idle.free1; free2 = holds.idle.free2; given = holds.idle.given };
  bell = rung_more (bell_of asking at) (in_force (at + 1)) processor.far.rungs processor.side.heard (bell_next asking at) holds.bell;
  cell0 = cell_later cpu 0 at (at + 1) (stream_of cpu trace) processor.side.first.handed processor.far.first.taken (is_active processor.driver.pair 0) first (omega arith) holds.cell0;
  cell1 = cell_later cpu 1 at (at + 1) (stream_of cpu trace) processor.side.second.handed processor.far.second.taken (is_active processor.driver.pair 1) second (omega arith) holds.cell1;
  cell2 = cell_later cpu 2 at (at + 1) (stream_of cpu trace) processor.side.third.handed processor.far.third.taken (is_some processor.driver.table) third (omega arith) holds.cell2;
  answering = all;
  in_time = holds.in_time;
  settled = settled_next at (length first) (length second) first second third reached holds.in_time holds.settled;
}

-- what the answers of the table's drains are below
answers_below : (value : ℕ) (taken : List Sent) (third : List Drained) → batches_in third ≡ taken → AllOf (λ x. x < value) (answers_of taken)
    → AllOf (λ t. t.batch.note.answers < value) third
answers_below value taken third same below =
    all_of_map (λ b. b.note.answers < value) (λ (d : Drained). d.batch) third
    (subst (λ (z : List Sent). AllOf (λ b. b.note.answers < value) z) (sym same) (all_of_map (λ x. x < value) (λ (b : Sent). b.note.answers) taken below))

-- the next record needs no flush
pub lane_moved : PollsKeep → (pace : Pace) (trace : Recording) (cpu at : ℕ) (notice : Record) (first second third : List Drained) (processor : Processor)
    → slice_get (records_in trace) at ≡ Some notice → needs_flush pace notice ≡ false
    → LaneHolds pace trace cpu at false first second third processor
    → LaneHolds pace trace cpu (at + 1) false first second third (rung (in_force (at + 1)) processor)
lane_moved polls pace trace cpu at notice first second third processor there need holds =
    let records = records_in trace in
    let answers : answers_of processor.far.third.taken ≡ asked_before pace records at =
    ap {B = List ℕ} (λ (z : List Sent). answers_of z) holds.answering.1 ∙ holds.answering.0 in
    let below : AllOf (λ t. t.batch.note.answers < flush_before at) third =
    answers_below (flush_before at) processor.far.third.taken third holds.cell2.same
    (subst (λ (z : List ℕ). AllOf (λ x. x < flush_before at) z) (sym answers) (asked_below pace records at)) in
    lane_moves polls pace trace cpu at false first second third processor
    (holds.answering.0 ∙ sym (asked_same pace records at notice there need), holds.answering.1)
    (all_map (λ t. t.batch.note.answers < flush_before at) (λ t. t.batch.note.answers ≡ flush_before at → IsReached (length first) (length second) t)
    (λ t low same. absurd (omega arith)) third below) holds

-- where a flush is complete, it was answered, and all of the table's batches were taken
pub flush_answered : (pace : Pace) (records : List Record) (at : ℕ) (handed taken : List Sent) (far : FarSide) → IsFront taken handed
    → reaches far (answering (flush_before at) taken) ≡ true → Answering pace records at true handed taken
    → (AnsweredNow pace records at handed) × (taken ≡ handed)
flush_answered pace records at handed taken far front flushed (inl all) =
    absurd (unreached (flush_before at) taken far
    (subst (λ (z : List ℕ). AllOf (λ x. x < flush_before at) z) (sym (ap {B = List ℕ} (λ (z : List Sent). answers_of z) all.1 ∙ all.0)) (asked_below pace records at)) flushed)
flush_answered pace records at handed taken far (inl same) flushed (inr now) = (now, same)
flush_answered pace records at handed taken far (inr (batch, waits)) flushed (inr now) =
    let answers : answers_of taken ≡ asked_before pace records at =
    front_same (answers_of taken) (asked_before pace records at) batch.note.answers (flush_before at)
    (sym (map-append (λ (b : Sent). b.note.answers) taken (batch ∷ [])) ∙ ap {B = List ℕ} (λ (z : List Sent). answers_of z) (sym waits) ∙ now) in
    absurd (unreached (flush_before at) taken far
    (subst (λ (z : List ℕ). AllOf (λ x. x < flush_before at) z) (sym answers) (asked_below pace records at)) flushed)

-- both parts of a test
pub both_parts : (x y : Bool) → (x && y) ≡ true → (x ≡ true) × (y ≡ true)
both_parts true y h = (refl, h)
both_parts false y h = absurd cc

-- what was drained is as much as was taken
drained_length : (drains : List Drained) (taken : List Sent) → batches_in drains ≡ taken → length taken ≡ length drains
drained_length drains taken same = ap length (sym same) ∙ length-map drains (λ (d : Drained). d.batch)

-- a flush that is complete reaches what its table batch names
pub flush_reaches : (value : ℕ) (low : List ℕ) (far : FarSide) (first second third : List Drained) → AllOf (λ x. x < value) low
    → batches_in first ≡ far.first.taken → batches_in second ≡ far.second.taken → batches_in third ≡ far.third.taken
    → answers_of far.third.taken ≡ low ++ value ∷ [] → is_flushed value far ≡ true
    → AllOf (λ t. t.batch.note.answers ≡ value → IsReached (length first) (length second) t) third
flush_reaches value low far first second third below same0 same1 same2 answers flushed =
    let found : AllOf (λ b. b.note.answers ≡ value → reaches far (Some b) ≡ true) far.third.taken = answering_all value low far.third.taken far below answers flushed in
    let drained : AllOf (λ t. t.batch.note.answers ≡ value → reaches far (Some t.batch) ≡ true) third =
    all_of_map (λ b. b.note.answers ≡ value → reaches far (Some b) ≡ true) (λ (d : Drained). d.batch) third
    (subst (λ (z : List Sent). AllOf (λ b. b.note.answers ≡ value → reaches far (Some b) ≡ true) z) (sym same2) found) in
    all_map (λ t. t.batch.note.answers ≡ value → reaches far (Some t.batch) ≡ true)
    (λ t. t.batch.note.answers ≡ value → IsReached (length first) (length second) t)
    (λ t h same. let r = both_parts (leb t.batch.note.sent0 (length far.first.taken)) (leb t.batch.note.sent1 (length far.second.taken)) (h same) in (
      omega (arith, leb-true t.batch.note.sent0 (length far.first.taken) r.0, drained_length first far.first.taken same0),
      omega (arith, leb-true t.batch.note.sent1 (length far.second.taken) r.1, drained_length second far.second.taken same1),
    )) third drained

-- the flush before the next record is complete
pub lane_settled : PollsKeep → (pace : Pace) (trace : Recording) (cpu at : ℕ) (notice : Record) (first second third : List Drained) (processor : Processor)
    → slice_get (records_in trace) at ≡ Some notice → needs_flush pace notice ≡ true → is_flushed (flush_before at) processor.far ≡ true
    → LaneHolds pace trace cpu at true first second third processor
    → LaneHolds pace trace cpu (at + 1) false first second third (rung (in_force (at + 1)) processor)
lane_settled polls pace trace cpu at notice first second third processor there need flushed holds =
    let records = records_in trace in
    let far = processor.far in
    let answered = flush_answered pace records at processor.side.third.handed far.third.taken far holds.cell2.passed.front flushed holds.answering in
    let answers : answers_of far.third.taken ≡ asked_before pace records at ++ flush_before at ∷ [] =
    ap {B = List ℕ} (λ (z : List Sent). answers_of z) answered.1 ∙ answered.0 in
    lane_moves polls pace trace cpu at true first second third processor
    (answered.0 ∙ sym (asked_more pace records at notice there need), answered.1)
    (flush_reaches (flush_before at) (asked_before pace records at) far first second third (asked_below pace records at)
    holds.cell0.same holds.cell1.same holds.cell2.same answers flushed) holds
