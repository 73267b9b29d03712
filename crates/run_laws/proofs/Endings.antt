-- The drains of a run that was cut short are valid, and where it is finished its record is, and the statistics agree.
use Rattle.std.proofs.Common.{◌≡◌, ℕ, zero, suc, ◌+◌, ◌<◌, ◌≤◌, List, [], ◌∷◌, ◌++◌, length, take, map, refl, sym, ◌∙◌, ap, subst, arith, inl, inr, Bool, true, false, Some, Option, leb, eq-eqb, leb-true, length-append}
use Rattle.std.specs.Prelude.{slice_get, slice_index_or, IsSomeAnd}
use Rattle.std.proofs.lemmas.Bool.{cond_both, leb-false}
use Rattle.std.proofs.lemmas.List.{take_all, length-map, map-append}
use Rattle.std.proofs.lemmas.Option.{get_or_from_slice_get}
use Rattle.sample_key.specs.Bags.{weight, times, batched, batched_upto, lost, lost_below}
use Rattle.sample_key.specs.Counted.{Counted}
use Rattle.sample_key.specs.Sent.{Sent}
use Rattle.sample_key.specs.declared.keys.Key.{Key}
use Rattle.sample_key.specs.declared.keys.Marked.{Marked}
use Rattle.sample_key.specs.declared.losses.Loss.{Loss}
use Rattle.sample_key.specs.declared.losses.Pace.{Pace}
use Rattle.trace_model.specs.Recording.{Recording}
use Rattle.trace_model.specs.Streams.{stream_of, records_in}
use Rattle.trace_model.specs.declared.notices.Record.{Record}
use Rattle.driver_model.specs.Lists.{EachFrom, Each, AllOf}
use Rattle.driver_model.specs.Table.{Table, FitsTable}
use Rattle.driver_model.specs.Sides.{Side}
use Rattle.driver_model.specs.Driver.{Setup, Driver}
use Rattle.driver_model.specs.Invariant.{DriverInvariant, IsAtEnd, InOrder, FullOrCut, IsWholeFlush, IsExplained, handed_upto, table_entries, active_entries, entries_of, last_answer}
use Rattle.driver_model.specs.declared.plans.Stats.{Stats}
use Rattle.driver_laws.proofs.Lists.{all_map, all_last}
use Rattle.driver_laws.proofs.Weights.{upto_le, below_le}
use Rattle.database_model.specs.Runs.{Drained}
use Rattle.run_model.specs.Daemon.{flush_before, is_flushed, reaches}
use Rattle.run_model.specs.Running.{Processor, System, setup_of, record_of}
use Rattle.run_model.specs.Shares.{Share, batches_in, drains_of, share_in, share_of, AgreesWith}
use Rattle.run_model.specs.Validity.{AreLostSamples, IsDueAt, answers_in, answers_owed, IsTakenInTime, AreAnswered, IsValidShare, IsValidRun, IsPartialShare, IsPartialRun, StatisticsAgree}
use Rattle.run_model.specs.Books.{AsksInNeed}
use Rattle.run_laws.specs.Laws.{stats_of}
use Rattle.run_laws.proofs.Basics.{IsFront, last_same, front_same, all_of_map}
use Rattle.run_laws.proofs.Owed.{asked_before, answers_of, asked_below, asked_all, owed_after, owed_now, answering_all, last_of_answers}
use Rattle.run_laws.proofs.Lanes.{Answering, LaneHolds}
use Rattle.run_laws.proofs.Draining.{both_parts, flush_answered}
use Rattle.run_laws.proofs.Systems.{IsEnded, SystemHolds, map_got}

-- what stands at an index
pub got_within : {A : Type 0} (xs : List A) (k : ℕ) → k < length xs → (x : A) × (slice_get xs k ≡ Some x)
got_within [] k h = absurd (omega arith)
got_within (x ∷ xs) zero h = (x, refl)
got_within (x ∷ xs) (suc k) h = got_within xs k (omega arith)

-- the first samples have a key no more often than all
pub times_take : (key : Key) (count : ℕ) (samples : List Marked) → times key (take count samples) ≤ times key samples
times_take key zero samples = omega arith
times_take key (suc count) [] = omega arith
times_take key (suc count) (s ∷ samples) = omega (arith, times_take key count samples)

-- nor than more of them
pub times_more : (key : Key) (count more : ℕ) (samples : List Marked) → count ≤ more → times key (take count samples) ≤ times key (take more samples)
times_more key zero more samples h = omega arith
times_more key (suc count) zero samples h = absurd (omega arith)
times_more key (suc count) (suc more) [] h = omega arith
times_more key (suc count) (suc more) (s ∷ samples) h = let r : count ≤ more = omega arith in omega (arith, times_more key count more samples r)

-- a longer list of batches counts no less
batched_more : (key : Key) (batches : List Sent) (batch : Sent) → batched key batches ≤ batched key (batches ++ batch ∷ [])
batched_more key [] batch = omega arith
batched_more key (b ∷ bs) batch = omega (arith, batched_more key bs batch)

upto_more : (key : Key) (count : ℕ) (batches : List Sent) (batch : Sent) → batched_upto key count batches ≤ batched_upto key count (batches ++ batch ∷ [])
upto_more key count [] batch = omega arith
upto_more key count (b ∷ bs) batch = omega (arith, upto_more key count bs batch)

front_weighs : (key : Key) (taken handed : List Sent) → IsFront taken handed → batched key taken ≤ batched key handed
front_weighs key taken handed (inl e) = subst (λ (z : List Sent). batched key taken ≤ batched key z) e (omega arith)
front_weighs key taken handed (inr (batch, e)) = subst (λ (z : List Sent). batched key taken ≤ batched key z) (sym e) (batched_more key taken batch)

front_upto : (key : Key) (count : ℕ) (taken handed : List Sent) → IsFront taken handed → batched_upto key count taken ≤ batched_upto key count handed
front_upto key count taken handed (inl e) = subst (λ (z : List Sent). batched_upto key count taken ≤ batched_upto key count z) e (omega arith)
front_upto key count taken handed (inr (batch, e)) =
    subst (λ (z : List Sent). batched_upto key count taken ≤ batched_upto key count z) (sym e) (upto_more key count taken batch)

-- what each has beside those before it, the first have
each_front : {A : Type 0} (P : List A → A → Type 0) (done xs : List A) (y : A) → EachFrom P done (xs ++ y ∷ []) → EachFrom P done xs
each_front P done [] y h = tt
each_front P done (x ∷ xs) y h = (h.0, each_front P (done ++ x ∷ []) xs y h.1)

pub all_front : {A : Type 0} (P : A → Type 0) (xs : List A) (y : A) → AllOf P (xs ++ y ∷ []) → AllOf P xs
all_front P [] y h = tt
all_front P (x ∷ xs) y h = (h.0, all_front P xs y h.1)

order_front : (taken handed : List Sent) → IsFront taken handed → InOrder handed → InOrder taken
order_front taken handed (inl e) h = subst (λ (z : List Sent). InOrder z) (sym e) h
order_front taken handed (inr (batch, e)) h =
    each_front (λ done b. (b.note.number ≡ length done + 1) × AllOf (λ a. a.note.upto ≤ b.note.upto) done) [] taken batch (subst (λ (z : List Sent). InOrder z) e h)

pub facts_front : (P : Sent → Type 0) (taken handed : List Sent) → IsFront taken handed → AllOf P handed → AllOf P taken
facts_front P taken handed (inl e) h = subst (λ (z : List Sent). AllOf P z) (sym e) h
facts_front P taken handed (inr (batch, e)) h = all_front P taken batch (subst (λ (z : List Sent). AllOf P z) e h)

-- what all batches have, the drains have
pub drained_facts : (P : Sent → Type 0) (drains : List Drained) (taken : List Sent) → batches_in drains ≡ taken → AllOf P taken → AllOf (λ d. P d.batch) drains
drained_facts P drains taken same h = all_of_map P (λ (d : Drained). d.batch) drains (subst (λ (z : List Sent). AllOf P z) (sym same) h)

-- the answers of drains are those of their batches
pub answers_same : (drains : List Drained) → answers_in drains ≡ answers_of (batches_in drains)
answers_same [] = refl
answers_same (d ∷ ds) = ap {B = List ℕ} (λ (z : List ℕ). d.batch.note.answers ∷ z) (answers_same ds)

-- the bound on batches holds at every number of samples
pub bounded_all : (setup : Setup) (driver : Driver) (side : Side) (count : ℕ) (key : Key) → DriverInvariant setup driver side
    → handed_upto key count side + lost_below key count setup.samples driver.losses ≤ times key (take count setup.samples)
bounded_all setup driver side count key lane =
    cond_both (leb count driver.at) tt tt
    (λ (z : Unit {0}). handed_upto key count side + lost_below key count setup.samples driver.losses ≤ times key (take count setup.samples))
    (λ e. lane.bounded count key (leb-true count driver.at e))
    (λ e. let more : driver.at < count = leb-false count driver.at e in
    omega (
      arith,
      lane.conserved key,
      times_more key driver.at count setup.samples (omega arith),
      upto_le key count side.first.handed,
      upto_le key count side.second.handed,
      upto_le key count side.third.handed,
      below_le key count setup.samples driver.losses,
    ))

-- the table batches taken so far answer the first values that are owed
answers_so_far : (pace : Pace) (records : List Record) (at : ℕ) (asking : Bool) (handed taken : List Sent) → at ≤ length records
    → (asking ≡ true → AsksInNeed pace (slice_get records at)) → IsFront taken handed → Answering pace records at asking handed taken
    → (rest : List ℕ) × (answers_of taken ++ rest ≡ answers_owed pace records)
answers_so_far pace records at false handed taken within need front all =
    let after = owed_after pace records at in
    (after.0, ap {B = List ℕ} (λ (z : List ℕ). z ++ after.0) (ap {B = List ℕ} (λ (z : List Sent). answers_of z) all.1 ∙ all.0) ∙ after.1)
answers_so_far pace records at true handed taken within need front (inl all) =
    let after = owed_after pace records at in
    (after.0, ap {B = List ℕ} (λ (z : List ℕ). z ++ after.0) (ap {B = List ℕ} (λ (z : List Sent). answers_of z) all.1 ∙ all.0) ∙ after.1)
answers_so_far pace records at true handed taken within need (inl same) (inr now) =
    let after = owed_now pace records at within (need refl) in
    (after.0, ap {B = List ℕ} (λ (z : List ℕ). z ++ after.0) (ap {B = List ℕ} (λ (z : List Sent). answers_of z) same ∙ now) ∙ after.1)
answers_so_far pace records at true handed taken within need (inr (batch, waits)) (inr now) =
    let after = owed_after pace records at in
    let answers : answers_of taken ≡ asked_before pace records at =
    front_same (answers_of taken) (asked_before pace records at) batch.note.answers (flush_before at)
    (sym (map-append (λ (b : Sent). b.note.answers) taken (batch ∷ [])) ∙ ap {B = List ℕ} (λ (z : List Sent). answers_of z) (sym waits) ∙ now) in
    (after.0, ap {B = List ℕ} (λ (z : List ℕ). z ++ after.0) answers ∙ after.1)

-- at any moment what was drained of a processor is valid
pub partial_lane : (pace : Pace) (trace : Recording) (cpu at : ℕ) (asking : Bool) (first second third : List Drained) (processor : Processor)
    → at ≤ length (records_in trace) → (asking ≡ true → AsksInNeed pace (slice_get (records_in trace) at))
    → LaneHolds pace trace cpu at asking first second third processor
    → IsPartialShare pace trace (stream_of cpu trace) (record { first = first; second = second; third = third; losses = [] })
partial_lane pace trace cpu at asking first second third processor within need holds =
    let samples = stream_of cpu trace in
    let setup = setup_of pace trace cpu in
    let driver = processor.driver in
    let side = processor.side in
    let far = processor.far in
    let front0 = holds.cell0.passed.front in
    let front1 = holds.cell1.passed.front in
    let front2 = holds.cell2.passed.front in
    record {
      of_samples = λ key. omega (
        arith,
        holds.lane.conserved key,
        times_take key driver.at samples,
        front_weighs key far.first.taken side.first.handed front0,
        front_weighs key far.second.taken side.second.handed front1,
        front_weighs key far.third.taken side.third.handed front2,
        ap (λ (z : List Sent). batched key z) holds.cell0.same,
        ap (λ (z : List Sent). batched key z) holds.cell1.same,
        ap (λ (z : List Sent). batched key z) holds.cell2.same,
      );
      in_order = record {
        order0 = subst (λ (z : List Sent). InOrder z) (sym holds.cell0.same) (order_front far.first.taken side.first.handed front0 holds.lane.well_formed.order0);
        order1 = subst (λ (z : List Sent). InOrder z) (sym holds.cell1.same) (order_front far.second.taken side.second.handed front1 holds.lane.well_formed.order1);
        order2 = subst (λ (z : List Sent). InOrder z) (sym holds.cell2.same) (order_front far.third.taken side.third.handed front2 holds.lane.well_formed.order2);
        sizes0 = drained_facts (λ b. (1 ≤ length b.entries) × (length b.entries ≤ trace.buffer)) first far.first.taken holds.cell0.same
            (facts_front (λ b. (1 ≤ length b.entries) × (length b.entries ≤ trace.buffer)) far.first.taken side.first.handed front0
            (all_map (FullOrCut 0 trace.buffer side.third.handed) (λ b. (1 ≤ length b.entries) × (length b.entries ≤ trace.buffer)) (λ b h. (h.0, h.1)) side.first.handed holds.lane.well_formed.sizes0));
        sizes1 = drained_facts (λ b. (1 ≤ length b.entries) × (length b.entries ≤ trace.buffer)) second far.second.taken holds.cell1.same
            (facts_front (λ b. (1 ≤ length b.entries) × (length b.entries ≤ trace.buffer)) far.second.taken side.second.handed front1
            (all_map (FullOrCut 1 trace.buffer side.third.handed) (λ b. (1 ≤ length b.entries) × (length b.entries ≤ trace.buffer)) (λ b h. (h.0, h.1)) side.second.handed holds.lane.well_formed.sizes1));
        tables = drained_facts (λ b. FitsTable trace.buckets b.entries) third far.third.taken holds.cell2.same
            (facts_front (λ b. FitsTable trace.buckets b.entries) far.third.taken side.third.handed front2
            (subst (λ (n : ℕ). AllOf (λ b. FitsTable n b.entries) side.third.handed) holds.buckets holds.lane.well_formed.tables));
      };
      timely = record {
        due0 = holds.cell0.due_then;
        due1 = holds.cell1.due_then;
        due2 = holds.cell2.due_then;
        bounded = λ count key. omega (
          arith,
          bounded_all setup driver side count key holds.lane,
          front_upto key count far.first.taken side.first.handed front0,
          front_upto key count far.second.taken side.second.handed front1,
          front_upto key count far.third.taken side.third.handed front2,
          ap (λ (z : List Sent). batched_upto key count z) holds.cell0.same,
          ap (λ (z : List Sent). batched_upto key count z) holds.cell1.same,
          ap (λ (z : List Sent). batched_upto key count z) holds.cell2.same,
        );
      };
      answered = record {
        answers =
            let so_far = answers_so_far pace (records_in trace) at asking side.third.handed far.third.taken within need front2 holds.answering in
            (so_far.0, ap {B = List ℕ} (λ (z : List ℕ). z ++ so_far.0) (answers_same third ∙ ap {B = List ℕ} (λ (z : List Sent). answers_of z) holds.cell2.same) ∙ so_far.1);
        now = all_map (IsTakenInTime first second) (λ d. d.batch.note.answers ≡ flush_before d.at) (λ d h. h.now) third holds.in_time;
      };
    }

pub partial_run : (pace : Pace) (trace : Recording) (first_epoch : ℕ) (system : System) → SystemHolds pace trace first_epoch system
    → IsPartialRun pace trace first_epoch system.daemon.drains
partial_run pace trace first_epoch system holds = record {
  drains = holds.books.drains;
  shares = λ cpu within.
      let found = got_within system.processors cpu (omega (arith, holds.count)) in
      let daemon = system.daemon in
      partial_lane pace trace cpu daemon.applied daemon.asking (drains_of cpu 0 daemon.drains) (drains_of cpu 1 daemon.drains) (drains_of cpu 2 daemon.drains)
      found.0 holds.books.stands.within holds.books.stands.need (holds.lanes cpu found.0 found.1);
}

-- One processor at its end: its driver has taken or lost all samples and holds nothing, and all that it handed was drained.
pub record IsOver (setup : Setup) (driver : Driver) (side : Side) (share : Share) : Type 0 where
  pub lane : DriverInvariant setup driver side
  pub end : IsAtEnd setup driver side
  pub losses : share.losses ≡ driver.losses
  pub all0 : batches_in share.first ≡ side.first.handed
  pub all1 : batches_in share.second ≡ side.second.handed
  pub all2 : batches_in share.third ≡ side.third.handed

-- what holds of the batches handed and the losses holds of those drained
moved4 : (P : List Sent → List Sent → List Sent → List Loss → Type 0) (a b c x y z : List Sent) (l m : List Loss) → a ≡ x → b ≡ y → c ≡ z → l ≡ m
    → P x y z m → P a b c l
moved4 P a b c x y z l m e0 e1 e2 e3 h =
    subst (λ (w : List Sent). P w b c l) (sym e0) (subst (λ (w : List Sent). P x w c l) (sym e1)
    (subst (λ (w : List Sent). P x y w l) (sym e2) (subst (λ (w : List Loss). P x y z w) (sym e3) h)))

pub moved_over : (P : List Sent → List Sent → List Sent → List Loss → Type 0) (setup : Setup) (driver : Driver) (side : Side) (share : Share)
    → IsOver setup driver side share → P side.first.handed side.second.handed side.third.handed driver.losses
    → P (batches_in share.first) (batches_in share.second) (batches_in share.third) share.losses
moved_over P setup driver side share over h =
    moved4 P (batches_in share.first) (batches_in share.second) (batches_in share.third) side.first.handed side.second.handed side.third.handed
    share.losses driver.losses over.all0 over.all1 over.all2 over.losses h

-- what the record says of it is valid, where its drains were due and answer what is owed
pub valid_over : (pace : Pace) (trace : Recording) (cpu : ℕ) (driver : Driver) (side : Side) (share : Share) → side.buckets ≡ trace.buckets
    → AllOf (IsDueAt (stream_of cpu trace)) share.first → AllOf (IsDueAt (stream_of cpu trace)) share.second → AllOf (IsDueAt (stream_of cpu trace)) share.third
    → AreAnswered pace (records_in trace) share → IsOver (setup_of pace trace cpu) driver side share
    → IsValidShare pace trace (stream_of cpu trace) share
valid_over pace trace cpu driver side share made due0 due1 due2 answered over =
    let samples = stream_of cpu trace in
    let setup = setup_of pace trace cpu in
    let size = trace.buffer in
    record {
      counted = moved_over (λ a b c l. (key : Key) → batched key a + batched key b + batched key c + lost key samples l ≡ times key samples) setup driver side share over
          (λ key. omega (
            arith,
            over.lane.conserved key,
            ap (λ (z : Option Table). weight key (table_entries z)) over.end.table,
            ap (λ (z : Option (List Counted)). weight key (active_entries z)) over.end.active,
            ap (λ (z : List Marked). times key z) (take_all driver.at samples (omega (arith, over.end.at))),
          ));
      lost = subst (λ (z : List Loss). AreLostSamples samples z) (sym over.losses)
          (subst (λ (n : ℕ). Each (λ done loss. (loss.index < n) × AllOf (λ m. m.index < loss.index) done
          × IsSomeAnd (slice_get samples loss.index) (λ sample. loss.event ≡ sample.key.event)) driver.losses) over.end.at over.lane.losses_in_order);
      in_order = record {
        order0 = subst (λ (z : List Sent). InOrder z) (sym over.all0) over.lane.well_formed.order0;
        order1 = subst (λ (z : List Sent). InOrder z) (sym over.all1) over.lane.well_formed.order1;
        order2 = subst (λ (z : List Sent). InOrder z) (sym over.all2) over.lane.well_formed.order2;
        sizes0 = drained_facts (λ b. (1 ≤ length b.entries) × (length b.entries ≤ size)) share.first side.first.handed over.all0
            (all_map (FullOrCut 0 size side.third.handed) (λ b. (1 ≤ length b.entries) × (length b.entries ≤ size)) (λ b h. (h.0, h.1)) side.first.handed over.lane.well_formed.sizes0);
        sizes1 = drained_facts (λ b. (1 ≤ length b.entries) × (length b.entries ≤ size)) share.second side.second.handed over.all1
            (all_map (FullOrCut 1 size side.third.handed) (λ b. (1 ≤ length b.entries) × (length b.entries ≤ size)) (λ b h. (h.0, h.1)) side.second.handed over.lane.well_formed.sizes1);
        tables = drained_facts (λ b. FitsTable trace.buckets b.entries) share.third side.third.handed over.all2
            (subst (λ (n : ℕ). AllOf (λ b. FitsTable n b.entries) side.third.handed) made over.lane.well_formed.tables);
      };
      full_or_cut = record {
        first = moved_over (λ a b c l. AllOf (FullOrCut 0 size c) a) setup driver side share over over.lane.well_formed.sizes0;
        second = moved_over (λ a b c l. AllOf (FullOrCut 1 size c) b) setup driver side share over over.lane.well_formed.sizes1;
      };
      timely = record {
        due0 = due0;
        due1 = due1;
        due2 = due2;
        bounded = moved_over (λ a b c l. (count : ℕ) (key : Key) →
            batched_upto key count a + batched_upto key count b + batched_upto key count c + lost_below key count samples l ≤ times key (take count samples))
            setup driver side share over (λ count key. bounded_all setup driver side count key over.lane);
      };
      explained = moved_over (λ a b c l. AllOf (IsExplained a b) l) setup driver side share over over.lane.well_formed.losses;
      flushes = moved_over (λ a b c l. Each (IsWholeFlush samples a b l) c) setup driver side share over over.lane.flushes;
      answered = answered;
    }

-- and its statistics agree with it
pub agrees_over : (setup : Setup) (driver : Driver) (side : Side) (share : Share) → IsOver setup driver side share
    → AgreesWith (length setup.samples) share driver.stats
agrees_over setup driver side share over = record {
  placed = moved_over (λ a b c l. driver.stats.placed ≡ entries_of c) setup driver side share over
      (omega (arith, over.lane.counted.placed, ap (λ (z : Option Table). length (table_entries z)) over.end.table));
  written = moved_over (λ a b c l. driver.stats.evicted + driver.stats.spilt + driver.stats.direct ≡ entries_of a + entries_of b) setup driver side share over
      (omega (arith, over.lane.counted.written, ap (λ (z : Option (List Counted)). length (active_entries z)) over.end.active));
  all = moved_over (λ a b c l. driver.stats.folded + driver.stats.placed + driver.stats.evicted + driver.stats.spilt + driver.stats.direct + length l ≡ length setup.samples)
      setup driver side share over (omega (arith, over.lane.counted.all, over.end.at));
}

-- a front that is as long is all
front_whole : (taken handed : List Sent) → IsFront taken handed → length handed ≤ length taken → taken ≡ handed
front_whole taken handed (inl e) long = e
front_whole taken handed (inr (batch, e)) long = let l : length handed ≡ length taken + 1 = ap length e ∙ length-append taken (batch ∷ []) in absurd (omega arith)

-- a processor whose close is complete
pub lane_over : (pace : Pace) (trace : Recording) (cpu at : ℕ) (first second third : List Drained) (processor : Processor)
    → at ≡ length (records_in trace) → is_flushed (flush_before at) processor.far ≡ true
    → LaneHolds pace trace cpu at true first second third processor
    → IsOver (setup_of pace trace cpu) processor.driver processor.side (record { first = first; second = second; third = third; losses = processor.driver.losses })
lane_over pace trace cpu at first second third processor all flushed holds =
    let records = records_in trace in
    let setup = setup_of pace trace cpu in
    let driver = processor.driver in
    let side = processor.side in
    let far = processor.far in
    let value = flush_before at in
    let low = asked_before pace records at in
    let answered = flush_answered pace records at side.third.handed far.third.taken far holds.cell2.passed.front flushed holds.answering in
    let last : last_answer 0 side.third.handed ≡ value = last_of_answers 0 value side.third.handed low answered.0 in
    let done : driver.done ≡ true = holds.lane.closed.done ∙ eq-eqb driver.answered setup.last (omega (arith, holds.lane.answers_rise.last)) in
    let end : IsAtEnd setup driver side = holds.lane.closed.end done in
    let names = end.last in
    let answers : answers_of far.third.taken ≡ low ++ value ∷ [] = ap {B = List ℕ} (λ (z : List Sent). answers_of z) answered.1 ∙ answered.0 in
    let taken_is : far.third.taken ≡ names.0 ++ names.1 ∷ [] = answered.1 ∙ names.2 in
    let own : names.1.note.answers ≡ value =
    last_same (answers_of names.0) low names.1.note.answers value
    (sym (map-append (λ (b : Sent). b.note.answers) names.0 (names.1 ∷ [])) ∙ ap {B = List ℕ} (λ (z : List Sent). answers_of z) (sym taken_is) ∙ answers) in
    let reached : reaches far (Some names.1) ≡ true =
    all_last (λ b. b.note.answers ≡ value → reaches far (Some b) ≡ true) names.0 names.1
    (subst (λ (z : List Sent). AllOf (λ b. b.note.answers ≡ value → reaches far (Some b) ≡ true) z) taken_is
    (answering_all value low far.third.taken far (asked_below pace records at) answers flushed)) own in
    let parts = both_parts (leb names.1.note.sent0 (length far.first.taken)) (leb names.1.note.sent1 (length far.second.taken)) reached in
    record {
      lane = holds.lane;
      end = end;
      losses = refl;
      all0 = holds.cell0.same ∙ front_whole far.first.taken side.first.handed holds.cell0.passed.front
          (omega (arith, leb-true names.1.note.sent0 (length far.first.taken) parts.0, names.3, holds.lane.in_step.hands0));
      all1 = holds.cell1.same ∙ front_whole far.second.taken side.second.handed holds.cell1.passed.front
          (omega (arith, leb-true names.1.note.sent1 (length far.second.taken) parts.1, names.4, holds.lane.in_step.hands1));
      all2 = holds.cell2.same ∙ answered.1;
    }

-- what the record of a finished run says of a processor
pub share_over : (pace : Pace) (trace : Recording) (cpu at : ℕ) (first second third : List Drained) (processor : Processor)
    → at ≡ length (records_in trace) → is_flushed (flush_before at) processor.far ≡ true
    → LaneHolds pace trace cpu at true first second third processor
    → IsValidShare pace trace (stream_of cpu trace) (record { first = first; second = second; third = third; losses = processor.driver.losses })
share_over pace trace cpu at first second third processor all flushed holds =
    let far = processor.far in
    let answered = flush_answered pace (records_in trace) at processor.side.third.handed far.third.taken far holds.cell2.passed.front flushed holds.answering in
    valid_over pace trace cpu processor.driver processor.side (record { first = first; second = second; third = third; losses = processor.driver.losses })
    holds.buckets holds.cell0.due_then holds.cell1.due_then holds.cell2.due_then
    (record {
      answers = answers_same third ∙ ap {B = List ℕ} (λ (z : List Sent). answers_of z) (holds.cell2.same ∙ answered.1) ∙ answered.0 ∙ asked_all pace (records_in trace) at all;
      times = holds.in_time;
    })
    (lane_over pace trace cpu at first second third processor all flushed holds)

-- the losses of a record, by processor
losses_at : (processors : List Processor) (cpu : ℕ) (processor : Processor) → slice_get processors cpu ≡ Some processor
    → slice_index_or (map (λ p. p.driver.losses) processors) cpu [] ≡ processor.driver.losses
losses_at processors cpu processor there =
    get_or_from_slice_get (map (λ (p : Processor). p.driver.losses) processors) cpu processor.driver.losses [] (map_got (λ (p : Processor). p.driver.losses) processors cpu processor there)

-- a lane while the close is asked for
ended_lane : (pace : Pace) (trace : Recording) (first_epoch : ℕ) (system : System) (cpu : ℕ) (processor : Processor) → SystemHolds pace trace first_epoch system
    → IsEnded trace system → slice_get system.processors cpu ≡ Some processor
    → LaneHolds pace trace cpu system.daemon.applied true (drains_of cpu 0 system.daemon.drains) (drains_of cpu 1 system.daemon.drains) (drains_of cpu 2 system.daemon.drains) processor
ended_lane pace trace first_epoch system cpu processor holds ended there =
    subst (λ (t : Bool). LaneHolds pace trace cpu system.daemon.applied t (drains_of cpu 0 system.daemon.drains) (drains_of cpu 1 system.daemon.drains) (drains_of cpu 2 system.daemon.drains) processor)
    ended.asking (holds.lanes cpu processor there)

pub valid_run : (pace : Pace) (trace : Recording) (first_epoch run : ℕ) (system : System) → SystemHolds pace trace first_epoch system
    → system.daemon.finished ≡ true → IsValidRun pace trace (record_of run first_epoch system)
valid_run pace trace first_epoch run system holds finished =
    let ended = holds.ended finished in
    let daemon = system.daemon in
    record {
      processors = length-map system.processors (λ (p : Processor). p.driver.losses) ∙ holds.count;
      drains = holds.books.drains;
      shares = λ cpu within.
          let found = got_within system.processors cpu (omega (arith, holds.count)) in
          subst (λ (l : List Loss). IsValidShare pace trace (stream_of cpu trace) (share_in daemon.drains l cpu)) (sym (losses_at system.processors cpu found.0 found.1))
          (share_over pace trace cpu daemon.applied (drains_of cpu 0 daemon.drains) (drains_of cpu 1 daemon.drains) (drains_of cpu 2 daemon.drains) found.0 ended.all
          (ended.flushed cpu found.0 found.1) (ended_lane pace trace first_epoch system cpu found.0 holds ended found.1));
    }

pub agreeing_run : (pace : Pace) (trace : Recording) (first_epoch run : ℕ) (system : System) → SystemHolds pace trace first_epoch system
    → system.daemon.finished ≡ true → StatisticsAgree trace (record_of run first_epoch system) (stats_of system)
agreeing_run pace trace first_epoch run system holds finished =
    let ended = holds.ended finished in
    let daemon = system.daemon in
    record {
      processors = length-map system.processors (λ (p : Processor). p.driver.stats) ∙ holds.count;
      each = λ cpu within.
          let found = got_within system.processors cpu (omega (arith, holds.count)) in
          subst (λ (o : Option Stats). IsSomeAnd o (AgreesWith (length (stream_of cpu trace)) (share_of (record_of run first_epoch system) cpu)))
          (sym (map_got (λ (p : Processor). p.driver.stats) system.processors cpu found.0 found.1))
          (subst (λ (l : List Loss). AgreesWith (length (stream_of cpu trace)) (share_in daemon.drains l cpu) found.0.driver.stats) (sym (losses_at system.processors cpu found.0 found.1))
          (agrees_over (setup_of pace trace cpu) found.0.driver found.0.side
          (record { first = drains_of cpu 0 daemon.drains; second = drains_of cpu 1 daemon.drains; third = drains_of cpu 2 daemon.drains; losses = found.0.driver.losses })
          (lane_over pace trace cpu daemon.applied (drains_of cpu 0 daemon.drains) (drains_of cpu 1 daemon.drains) (drains_of cpu 2 daemon.drains) found.0 ended.all
          (ended.flushed cpu found.0 found.1) (ended_lane pace trace first_epoch system cpu found.0 holds ended found.1))));
    }
