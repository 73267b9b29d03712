-- What a poll of one cell leaves of the side and of what the daemon knows of it, whatever the other side does meanwhile.
use Rattle.std.proofs.Common.{arith, ◌≡◌, sym, ◌∙◌, ap, subst, ℕ, zero, suc, ◌+◌, ◌/◌, ◌≤◌, List, [], ◌∷◌, ◌++◌, false, ◌⊎◌, inl, inr}
use Rattle.sample_key.specs.Marks.{due}
use Rattle.sample_key.specs.Sent.{Sent}
use Rattle.sample_key.specs.declared.keys.Marked.{Marked}
use Rattle.sample_key.specs.declared.losses.Pace.{Pace}
use Rattle.trace_model.specs.Recording.{Recording}
use Rattle.trace_model.specs.Streams.{records_in, stream_of}
use Rattle.trace_model.specs.declared.notices.Record.{Record}
use Rattle.driver_model.specs.Sides.{Side}
use Rattle.driver_model.specs.Handover.{FarSide, WasRung, rung_of}
use Rattle.database_model.specs.Runs.{Drained}
use Rattle.lane_side.specs.Plain.{Plain}
use Rattle.run_model.specs.Books.{StandsWell}
use Rattle.run_model.specs.Daemon.{Daemon, drain_of, noted, rungs_of}
use Rattle.run_model.specs.Shares.{drains_of}
use Rattle.run_model.specs.Validity.{IsDueAt}
use Rattle.run_joins.specs.Collecting.{Collects, DaemonsCollect}
use Rattle.run_closes.specs.Closes.{PollsAreTimely}
use Rattle.dcpid_core.specs.Flushes.{flush_took}
use Rattle.dcpid_core.specs.Collection.{Collection}
use Rattle.dcpid_core.specs.Counting.{Agrees, CountsAgree}
use Rattle.dcpid_core.specs.Polling.{BufferHome, Polls, TableHome, TookBuffer, TookTable}
use Rattle.dcpid_core.specs.declared.flushes.Flush.{Flush}
use Rattle.dcpid_core.specs.declared.polled.Polled.{Polled}
use Rattle.dcpid_core.specs.declared.polled.Polled.TheVariants.{Drained as WasDrained, Passed, Home}
use Rattle.replay_drive.proofs.Polling.{TakenBy}
use Rattle.daemon_rounds.specs.Knowing.{IsCollected}
use Rattle.daemon_rounds.specs.Sides.{IsTried}
use Rattle.daemon_rounds.proofs.Collecting.{TookOn, all_more, collects_as, drains_more, one_more, same_front, with_drain}

-- the daemon holds no value of this side
pub record IsFree (far : FarSide) : Type 0 where
  pub first : far.first.holds ≡ false
  pub second : far.second.holds ≡ false
  pub third : far.third.holds ≡ false

-- what the daemon knows of a side goes on where this batch of this cell was noted
abbrev pub CollectsOn : ℕ → FarSide → FarSide → Sent → Type 0
CollectsOn cell far later batch = DaemonsCollect → (pace : Pace) (records : List Record) (daemon : Daemon) (first second third : List Drained)
    → StandsWell pace records daemon → WasRung batch.note.answers (rungs_of pace records daemon) → Collects pace records daemon first second third far
    → Collects pace records (noted records daemon batch) (with_drain cell 0 first (drain_of records daemon batch)) (with_drain cell 1 second (drain_of records daemon batch))
    (with_drain cell 2 third (drain_of records daemon batch)) later

-- A poll of this cell took this batch, and gave the value back.
pub record TakesOne (cell : ℕ) (s n : Plain) (batch : Sent) : Type 0 where
  pub cpu : batch.note.cpu ≡ s.fixed.cpu
  pub own : batch.note.cell ≡ cell
  pub upto : batch.note.upto ≤ due s.fixed.samples (rung_of s.far.rungs / 2)
  pub answers : WasRung batch.note.answers s.far.rungs
  pub rungs : n.far.rungs ≡ s.far.rungs
  pub free : IsFree s.far → IsFree n.far
  pub on : TookOn s.far n.far
  pub counts : CountsAgree → (value : ℕ) (flush : Flush) → batch.note.answers ≤ value → Agrees value flush s.far → Agrees value (flush_took value flush cell batch.note) n.far
  pub collects : CollectsOn cell s.far n.far batch
  pub tried : n.fixed ≡ s.fixed → IsTried cell s n

-- A poll of this cell found none.
pub record TakesNone (cell : ℕ) (s n : Plain) : Type 0 where
  pub stays : n.far ≡ s.far
  pub tried : n.fixed ≡ s.fixed → IsTried cell s n

-- what a poll of a cell did
abbrev pub TakesStep : ℕ → ℕ → Plain → Plain → Collection → Collection → Type 0
TakesStep cpu cell s n d e = (TakesNone cell s n × (e ≡ d)) ⊎ ((batch : Sent) × TakesOne cell s n batch × TakenBy cpu cell batch d e)

same_tries : {a b : ℕ} → a ≡ b → a ≡ b + 0
same_tries e = omega (arith, e)

-- ---- buffer 0

took_first : (s n : Plain) (batch : Sent) → TookBuffer 0 s.fixed s.seen s.far n.seen n.far batch → TakesOne 0 s n batch
took_first s n batch took = record {
  cpu = took.note.cpu;
  own = took.note.cell;
  upto = took.note.upto;
  answers = inl took.answers;
  rungs = ap (λ (f : FarSide). f.rungs) took.taken;
  free = λ free. record {
    first = ap (λ (f : FarSide). f.first.holds) took.taken;
    second = ap (λ (f : FarSide). f.second.holds) took.taken ∙ free.second;
    third = ap (λ (f : FarSide). f.third.holds) took.taken ∙ free.third;
  };
  on = subst (λ (f : FarSide). TookOn s.far f) (sym took.taken)
      (record { first = one_more s.far.first.taken batch; second = same_front s.far.second.taken; third = same_front s.far.third.taken });
  counts = λ laws value flush le agrees. subst (λ (f : FarSide). Agrees value (flush_took value flush 0 batch.note) f) (sym took.taken)
      (laws.took_buffer value 0 flush s.far batch (omega arith) took.counter agrees);
  collects = λ laws pace records daemon first second third well rung holds. subst (λ (f : FarSide). Collects pace records (noted records daemon batch)
      (first ++ drain_of records daemon batch ∷ []) second third f) (sym took.taken) (laws.buffer0 pace records daemon first second third s.far batch holds);
  tried = λ fixed. record {
    fixed = fixed;
    tries0 = ap (λ (v : Side). v.first.tries) took.side;
    tries1 = same_tries (ap (λ (v : Side). v.second.tries) took.side);
    tries2 = same_tries (ap (λ (v : Side). v.third.tries) took.side);
    rung_at = ap (λ (f : FarSide). f.rung_at) took.taken;
  };
}

home_first : (s n : Plain) (word : ℕ) → BufferHome 0 s.seen s.far n.seen n.far word → TakesNone 0 s n
home_first s n word home = record {
  stays = home.stays;
  tried = λ fixed. record {
    fixed = fixed;
    tries0 = ap (λ (v : Side). v.first.tries) home.side;
    tries1 = same_tries (ap (λ (v : Side). v.second.tries) home.side);
    tries2 = same_tries (ap (λ (v : Side). v.third.tries) home.side);
    rung_at = ap (λ (f : FarSide). f.rung_at) home.stays;
  };
}

-- ---- buffer 1

took_second : (s n : Plain) (batch : Sent) → TookBuffer 1 s.fixed s.seen s.far n.seen n.far batch → TakesOne 1 s n batch
took_second s n batch took = record {
  cpu = took.note.cpu;
  own = took.note.cell;
  upto = took.note.upto;
  answers = inl took.answers;
  rungs = ap (λ (f : FarSide). f.rungs) took.taken;
  free = λ free. record {
    first = ap (λ (f : FarSide). f.first.holds) took.taken ∙ free.first;
    second = ap (λ (f : FarSide). f.second.holds) took.taken;
    third = ap (λ (f : FarSide). f.third.holds) took.taken ∙ free.third;
  };
  on = subst (λ (f : FarSide). TookOn s.far f) (sym took.taken)
      (record { first = same_front s.far.first.taken; second = one_more s.far.second.taken batch; third = same_front s.far.third.taken });
  counts = λ laws value flush le agrees. subst (λ (f : FarSide). Agrees value (flush_took value flush 1 batch.note) f) (sym took.taken)
      (laws.took_buffer value 1 flush s.far batch (omega arith) took.counter agrees);
  collects = λ laws pace records daemon first second third well rung holds. subst (λ (f : FarSide). Collects pace records (noted records daemon batch)
      first (second ++ drain_of records daemon batch ∷ []) third f) (sym took.taken) (laws.buffer1 pace records daemon first second third s.far batch holds);
  tried = λ fixed. record {
    fixed = fixed;
    tries0 = same_tries (ap (λ (v : Side). v.first.tries) took.side);
    tries1 = ap (λ (v : Side). v.second.tries) took.side;
    tries2 = same_tries (ap (λ (v : Side). v.third.tries) took.side);
    rung_at = ap (λ (f : FarSide). f.rung_at) took.taken;
  };
}

home_second : (s n : Plain) (word : ℕ) → BufferHome 1 s.seen s.far n.seen n.far word → TakesNone 1 s n
home_second s n word home = record {
  stays = home.stays;
  tried = λ fixed. record {
    fixed = fixed;
    tries0 = same_tries (ap (λ (v : Side). v.first.tries) home.side);
    tries1 = ap (λ (v : Side). v.second.tries) home.side;
    tries2 = same_tries (ap (λ (v : Side). v.third.tries) home.side);
    rung_at = ap (λ (f : FarSide). f.rung_at) home.stays;
  };
}

-- ---- the table

took_third : (s n : Plain) (batch : Sent) → TookTable s.fixed s.seen s.far n.seen n.far batch → TakesOne 2 s n batch
took_third s n batch took = record {
  cpu = took.note.cpu;
  own = took.note.cell;
  upto = took.note.upto;
  answers = took.answers;
  rungs = ap (λ (f : FarSide). f.rungs) took.taken;
  free = λ free. record {
    first = ap (λ (f : FarSide). f.first.holds) took.taken ∙ free.first;
    second = ap (λ (f : FarSide). f.second.holds) took.taken ∙ free.second;
    third = ap (λ (f : FarSide). f.third.holds) took.taken;
  };
  on = subst (λ (f : FarSide). TookOn s.far f) (sym took.taken)
      (record { first = same_front s.far.first.taken; second = same_front s.far.second.taken; third = one_more s.far.third.taken batch });
  counts = λ laws value flush le agrees. subst (λ (f : FarSide). Agrees value (flush_took value flush 2 batch.note) f) (sym took.taken)
      (laws.took_table value took.turn flush s.far batch took.counter le agrees);
  collects = λ laws pace records daemon first second third well rung holds. subst (λ (f : FarSide). Collects pace records (noted records daemon batch)
      first second (third ++ drain_of records daemon batch ∷ []) f) (sym took.taken) (laws.table pace records daemon first second third s.far batch took.turn well rung holds);
  tried = λ fixed. record {
    fixed = fixed;
    tries0 = same_tries (ap (λ (v : Side). v.first.tries) took.side);
    tries1 = same_tries (ap (λ (v : Side). v.second.tries) took.side);
    tries2 = ap (λ (v : Side). v.third.tries) took.side;
    rung_at = ap (λ (f : FarSide). f.rung_at) took.taken;
  };
}

home_third : (s n : Plain) (word : ℕ) → TableHome s.seen s.far n.seen n.far word → TakesNone 2 s n
home_third s n word home = record {
  stays = home.stays;
  tried = λ fixed. record {
    fixed = fixed;
    tries0 = same_tries (ap (λ (v : Side). v.first.tries) home.side);
    tries1 = same_tries (ap (λ (v : Side). v.second.tries) home.side);
    tries2 = ap (λ (v : Side). v.third.tries) home.side;
    rung_at = ap (λ (f : FarSide). f.rung_at) home.stays;
  };
}

-- ---- any cell

pub takes_as : (cpu cell : ℕ) (s n : Plain) (d e : Collection) (answer : Polled) → cell ≤ 2 → Polls cpu cell s.fixed d s.seen s.far answer e n.seen n.far → TakesStep cpu cell s n d e
takes_as cpu zero s n d e WasDrained le h = inr (h.0, took_first s n h.0 h.1, inl h.2)
takes_as cpu zero s n d e Passed le h = inr (h.0, took_first s n h.0 h.1, inr h.2)
takes_as cpu zero s n d e (Home word) le h = inl (home_first s n word h.0, h.1)
takes_as cpu (suc zero) s n d e WasDrained le h = inr (h.0, took_second s n h.0 h.1, inl h.2)
takes_as cpu (suc zero) s n d e Passed le h = inr (h.0, took_second s n h.0 h.1, inr h.2)
takes_as cpu (suc zero) s n d e (Home word) le h = inl (home_second s n word h.0, h.1)
takes_as cpu (suc (suc zero)) s n d e WasDrained le h = inr (h.0, took_third s n h.0 h.1, inl h.2)
takes_as cpu (suc (suc zero)) s n d e Passed le h = inr (h.0, took_third s n h.0 h.1, inr h.2)
takes_as cpu (suc (suc zero)) s n d e (Home word) le h = inl (home_third s n word h.0, h.1)
takes_as cpu (suc (suc (suc cell))) s n d e answer le h = absurd (omega (arith, le))

pub tried_as : (cpu cell : ℕ) (s n : Plain) (d e : Collection) → n.fixed ≡ s.fixed → TakesStep cpu cell s n d e → IsTried cell s n
tried_as cpu cell s n d e fixed (inl (none, is)) = none.tried fixed
tried_as cpu cell s n d e fixed (inr (batch, takes, taken)) = takes.tried fixed

-- what the daemon knows of the polled side where the batch was noted
pub collected_one : DaemonsCollect → PollsAreTimely → (pace : Pace) (trace : Recording) (cpu cell : ℕ) (until : Daemon) (s n : Plain) (batch : Sent) → TakesOne cell s n batch
    → s.fixed.cpu ≡ cpu → s.fixed.samples ≡ stream_of cpu trace → s.far.rungs ≡ rungs_of pace (records_in trace) until → StandsWell pace (records_in trace) until
    → IsCollected pace trace cpu until s.far → IsCollected pace trace cpu (noted (records_in trace) until batch) n.far
collected_one laws timely pace trace cpu cell until s n batch takes cpu_is samples rungs well is =
    let drain : Drained = drain_of (records_in trace) until batch in
    let mine : batch.note.cpu ≡ cpu = takes.cpu ∙ cpu_is in
    let rung : WasRung batch.note.answers (rungs_of pace (records_in trace) until) = subst (λ (z : List ℕ). WasRung batch.note.answers z) rungs takes.answers in
    let upto : batch.note.upto ≤ due (stream_of cpu trace) (rung_of (rungs_of pace (records_in trace) until) / 2) =
    subst (λ (z : List ℕ). batch.note.upto ≤ due (stream_of cpu trace) (rung_of z / 2)) rungs
    (subst (λ (z : List Marked). batch.note.upto ≤ due z (rung_of s.far.rungs / 2)) samples takes.upto) in
    let here : IsDueAt (stream_of cpu trace) drain = timely pace (records_in trace) until (stream_of cpu trace) batch well.within upto in
    let now = takes.collects laws pace (records_in trace) until (drains_of cpu 0 until.drains) (drains_of cpu 1 until.drains) (drains_of cpu 2 until.drains) well rung is.collects in
    record {
      collects = collects_as pace trace (noted (records_in trace) until batch) n.far _ _ _ _ _ _ (sym (drains_more cpu cell 0 until.drains drain mine takes.own))
          (sym (drains_more cpu cell 1 until.drains drain mine takes.own)) (sym (drains_more cpu cell 2 until.drains drain mine takes.own)) now;
      due0 = all_more (IsDueAt (stream_of cpu trace)) cpu cell 0 until.drains drain mine takes.own is.due0 here;
      due1 = all_more (IsDueAt (stream_of cpu trace)) cpu cell 1 until.drains drain mine takes.own is.due1 here;
      due2 = all_more (IsDueAt (stream_of cpu trace)) cpu cell 2 until.drains drain mine takes.own is.due2 here;
    }
