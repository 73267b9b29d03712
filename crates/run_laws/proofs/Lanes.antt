-- What holds of one processor between any two steps of a run, and that the daemon's doings keep it.
use Rattle.std.proofs.Common.{◌≡◌, ℕ, ◌+◌, ◌/◌, ◌<◌, ◌≤◌, List, [], ◌∷◌, ◌++◌, length, take, sym, ◌∙◌, ap, subst, arith, inl, inr, ◌⊎◌, Bool, true, false, if◌then◌else◌, Some, is_some, leb, leb-true, leb-false}
use Rattle.std.proofs.lemmas.Bool.{cond_both}
use Rattle.std.proofs.lemmas.List.{take-append-le, map-append}
use Rattle.sample_key.specs.Marks.{due}
use Rattle.sample_key.specs.Sent.{Sent}
use Rattle.sample_key.specs.declared.keys.Marked.{Marked}
use Rattle.sample_key.specs.declared.losses.Pace.{Pace}
use Rattle.trace_model.specs.Recording.{Recording}
use Rattle.trace_model.specs.Streams.{stream_of, records_in}
use Rattle.trace_model.specs.declared.notices.Record.{Record}
use Rattle.driver_model.specs.Lists.{AllOf}
use Rattle.driver_model.specs.Handover.{FarSide, rung_of, NeverFallsFrom, WasRung}
use Rattle.driver_model.specs.Invariant.{DriverInvariant, is_active}
use Rattle.driver_laws.proofs.Lists.{all_push, all_map, all_both}
use Rattle.driver_laws.proofs.Marks.{due_later}
use Rattle.database_model.specs.Runs.{Drained}
use Rattle.run_model.specs.Daemon.{in_force, flush_before}
use Rattle.run_model.specs.Running.{Processor, setup_of, counts_of}
use Rattle.run_model.specs.Shares.{batches_in}
use Rattle.run_model.specs.Validity.{IsDueAt, IsTakenInTime}
use Rattle.run_laws.proofs.Basics.{IsPassed, all_take_push}
use Rattle.run_laws.proofs.Owed.{asked_before, answers_of}

-- a batch is of this cell of this processor
abbrev pub IsOf : ℕ → ℕ → Sent → Type 0
IsOf cpu cell batch = (batch.note.cpu ≡ cpu) × (batch.note.cell ≡ cell)

-- the bell value that the daemon rang last
abbrev pub bell_of : Bool → ℕ → ℕ
bell_of asking at = if asking then flush_before at else in_force at

-- the table batches answered all flushes asked for before this position, and all were taken
abbrev pub AllAnswered : Pace → List Record → ℕ → List Sent → List Sent → Type 0
AllAnswered pace records at handed taken = (answers_of handed ≡ asked_before pace records at) × (taken ≡ handed)

-- the table batches answered this flush as well
abbrev pub AnsweredNow : Pace → List Record → ℕ → List Sent → Type 0
AnsweredNow pace records at handed = answers_of handed ≡ asked_before pace records at ++ flush_before at ∷ []

-- while no flush is asked for all are answered; while one is it may be answered as well
abbrev pub Answering : Pace → List Record → ℕ → Bool → List Sent → List Sent → Type 0
Answering pace records at false handed taken = AllAnswered pace records at handed taken
Answering pace records at true handed taken = AllAnswered pace records at handed taken ⊎ AnsweredNow pace records at handed

-- what a table batch names as sent was drained, of which so many were
abbrev pub IsReached : ℕ → ℕ → Drained → Type 0
IsReached count0 count1 drain = (drain.batch.note.sent0 ≤ count0) × (drain.batch.note.sent1 ≤ count1)

-- the flush of a table batch that was drained before this position is complete
abbrev pub IsSettled : ℕ → ℕ → ℕ → Drained → Type 0
IsSettled at count0 count1 drain = drain.at < at → IsReached count0 count1 drain

-- the daemon holds no value: each that it took was given back
pub record IsIdle (far : FarSide) : Type 0 where
  pub free0 : far.first.holds ≡ false
  pub free1 : far.second.holds ≡ false
  pub free2 : far.third.holds ≡ false
  pub given : far.given ≡ Some (counts_of far)

-- the bell was rung last with this value, and the driver heard it or one before
pub record IsRungTo (value : ℕ) (rungs : List ℕ) (heard : ℕ) : Type 0 where
  pub last : rung_of rungs ≡ value
  pub behind : heard ≤ value
  pub rising : NeverFallsFrom 0 rungs
  pub known : WasRung heard rungs

-- One cell of a processor: its batches are its own, all or all but the last were taken, and those were drained when due.
pub record CellHolds (cpu cell at : ℕ) (samples : List Marked) (handed taken : List Sent) (mine : Bool) (drains : List Drained) : Type 0 where
  pub passed : IsPassed taken handed mine
  pub own : AllOf (IsOf cpu cell) handed
  pub same : batches_in drains ≡ taken
  pub due_then : AllOf (IsDueAt samples) drains
  pub before : AllOf (λ drain. drain.at ≤ at) drains

-- One processor with the drains of its buffers and of its table, while so many records are in force.
pub record LaneHolds (pace : Pace) (trace : Recording) (cpu at : ℕ) (asking : Bool) (first second third : List Drained) (processor : Processor) : Type 0 where
  pub lane : DriverInvariant (setup_of pace trace cpu) processor.driver processor.side
  pub buckets : processor.side.buckets ≡ trace.buckets
  pub size : trace.buffer ≡ processor.side.buffer
  pub idle : IsIdle processor.far
  pub bell : IsRungTo (bell_of asking at) processor.far.rungs processor.side.heard
  pub cell0 : CellHolds cpu 0 at (stream_of cpu trace) processor.side.first.handed processor.far.first.taken (is_active processor.driver.pair 0) first
  pub cell1 : CellHolds cpu 1 at (stream_of cpu trace) processor.side.second.handed processor.far.second.taken (is_active processor.driver.pair 1) second
  pub cell2 : CellHolds cpu 2 at (stream_of cpu trace) processor.side.third.handed processor.far.third.taken (is_some processor.driver.table) third
  pub answering : Answering pace (records_in trace) at asking processor.side.third.handed processor.far.third.taken
  pub in_time : AllOf (IsTakenInTime first second) third
  pub settled : AllOf (IsSettled at (length first) (length second)) third

-- the bell's value is of the position
pub bell_half : (asking : Bool) (at : ℕ) → bell_of asking at / 2 ≡ at
bell_half false at = omega arith
bell_half true at = omega arith

-- what the driver took or lost is due where the daemon stands
pub due_here : (samples : List Marked) (asking : Bool) (at heard count : ℕ) → heard ≤ bell_of asking at → count ≤ due samples (heard / 2)
    → count ≤ due samples at
due_here samples asking at heard count behind within =
    let half : bell_of asking at / 2 ≡ at = bell_half asking at in
    omega (arith, due_later samples (heard / 2) at (omega arith))

-- the cell after the batch that waits was drained
pub cell_drained : (cpu cell at : ℕ) (samples : List Marked) (handed taken : List Sent) (mine : Bool) (drains : List Drained) (drain : Drained)
    → handed ≡ taken ++ drain.batch ∷ [] → drain.at ≡ at → drain.batch.note.upto ≤ due samples at
    → CellHolds cpu cell at samples handed taken mine drains
    → CellHolds cpu cell at samples handed (taken ++ drain.batch ∷ []) mine (drains ++ drain ∷ [])
cell_drained cpu cell at samples handed taken mine drains drain waits here ripe holds = record {
  passed = record { front = inl (sym waits); home = λ home. sym waits };
  own = holds.own;
  same = map-append (λ (d : Drained). d.batch) drains (drain ∷ []) ∙ ap {B = List Sent} (λ (z : List Sent). z ++ drain.batch ∷ []) holds.same;
  due_then = all_push (IsDueAt samples) drains drain holds.due_then (subst (λ (n : ℕ). drain.batch.note.upto ≤ due samples n) (sym here) ripe);
  before = all_push (λ d. d.at ≤ at) drains drain holds.before (omega arith);
}

-- the cell when more records are in force
pub cell_later : (cpu cell at later : ℕ) (samples : List Marked) (handed taken : List Sent) (mine : Bool) (drains : List Drained) → at ≤ later
    → CellHolds cpu cell at samples handed taken mine drains → CellHolds cpu cell later samples handed taken mine drains
cell_later cpu cell at later samples handed taken mine drains on holds = record {
  passed = holds.passed;
  own = holds.own;
  same = holds.same;
  due_then = holds.due_then;
  before = all_map (λ d. d.at ≤ at) (λ d. d.at ≤ later) (λ d h. omega arith) drains holds.before;
}

-- a batch of buffer 0 that is drained now is in time for the table batches that name it
pub timely_first : (at : ℕ) (first second third : List Drained) (drain : Drained) → drain.at ≡ at
    → AllOf (IsSettled at (length first) (length second)) third → AllOf (IsTakenInTime first second) third
    → AllOf (IsTakenInTime (first ++ drain ∷ []) second) third
timely_first at first second third drain here settled times =
    all_both (IsSettled at (length first) (length second)) (IsTakenInTime first second) (IsTakenInTime (first ++ drain ∷ []) second)
    (λ t done time. record {
      now = time.now;
      before0 = cond_both (leb at t.at) tt tt (λ (z : Unit {0}). AllOf (λ e. e.at ≤ t.at) (take t.batch.note.sent0 (first ++ drain ∷ [])))
          (λ e. all_take_push (λ d. d.at ≤ t.at) t.batch.note.sent0 first drain time.before0 (omega (arith, leb-true at t.at e)))
          (λ e. rw (take-append-le t.batch.note.sent0 first (drain ∷ []) (done (leb-false at t.at e)).0) time.before0);
      before1 = time.before1;
    }) third settled times

-- a batch of buffer 1 likewise
pub timely_second : (at : ℕ) (first second third : List Drained) (drain : Drained) → drain.at ≡ at
    → AllOf (IsSettled at (length first) (length second)) third → AllOf (IsTakenInTime first second) third
    → AllOf (IsTakenInTime first (second ++ drain ∷ [])) third
timely_second at first second third drain here settled times =
    all_both (IsSettled at (length first) (length second)) (IsTakenInTime first second) (IsTakenInTime first (second ++ drain ∷ []))
    (λ t done time. record {
      now = time.now;
      before0 = time.before0;
      before1 = cond_both (leb at t.at) tt tt (λ (z : Unit {0}). AllOf (λ e. e.at ≤ t.at) (take t.batch.note.sent1 (second ++ drain ∷ [])))
          (λ e. all_take_push (λ d. d.at ≤ t.at) t.batch.note.sent1 second drain time.before1 (omega (arith, leb-true at t.at e)))
          (λ e. rw (take-append-le t.batch.note.sent1 second (drain ∷ []) (done (leb-false at t.at e)).1) time.before1);
    }) third settled times

-- what was complete stays complete
pub settled_more : (at count0 count1 more0 more1 : ℕ) (third : List Drained) → count0 ≤ more0 → count1 ≤ more1
    → AllOf (IsSettled at count0 count1) third → AllOf (IsSettled at more0 more1) third
settled_more at count0 count1 more0 more1 third l m settled =
    all_map (IsSettled at count0 count1) (IsSettled at more0 more1) (λ t h early. (omega (arith, (h early).0), omega (arith, (h early).1))) third settled

-- and what is complete now is complete at the next position
pub settled_next : (at count0 count1 : ℕ) (first second third : List Drained)
    → AllOf (λ t. t.batch.note.answers ≡ flush_before at → IsReached count0 count1 t) third → AllOf (IsTakenInTime first second) third
    → AllOf (IsSettled at count0 count1) third → AllOf (IsSettled (at + 1) count0 count1) third
settled_next at count0 count1 first second [] reached times settled = tt
settled_next at count0 count1 first second (t ∷ third) reached times settled = (
  (λ early. elim (cases t.at) as (λ z. IsReached count0 count1 t) [
    | inl below ↦ settled.0 below
    | inr other ↦ let here : t.at ≡ at = omega arith in reached.0 (times.0.now ∙ ap (λ (n : ℕ). flush_before n) here)
  ]),
  settled_next at count0 count1 first second third reached.1 times.1 settled.1,
)
  where
    cases : (n : ℕ) → (n < at) ⊎ (at ≤ n)
    cases n = cond_both (leb at n) tt tt (λ (z : Unit {0}). (n < at) ⊎ (at ≤ n)) (λ e. inr (leb-true at n e)) (λ e. inl (leb-false at n e))
