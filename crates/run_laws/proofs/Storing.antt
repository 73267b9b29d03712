-- What is kept of a run can be stored part by part, and tallied.
use Rattle.std.proofs.Common.{◌≡◌, ℕ, zero, suc, ◌+◌, ◌/◌, ◌<◌, ◌≤◌, List, [], ◌∷◌, ◌++◌, length, map, refl, sym, ◌∙◌, ap, subst, arith, Bool, true, false, cond, Some, eqb}
use Rattle.std.specs.Prelude.{slice_get, filter, All, IsSomeAnd}
use Rattle.std.proofs.lemmas.Bool.{cond_both, cond-true}
use Rattle.std.proofs.lemmas.List.{length-map}
use Rattle.std.proofs.lemmas.List.Elements.{All-from_recursion}
use Rattle.std.specs.List.{AllByRecursion}
use Rattle.sample_key.specs.Sent.{Sent}
use Rattle.sample_key.specs.declared.losses.Loss.{Loss}
use Rattle.sample_key.specs.declared.losses.Pace.{Pace}
use Rattle.trace_model.specs.Parts.{part_of}
use Rattle.trace_model.specs.Recording.{Recording}
use Rattle.trace_model.specs.Streams.{stream_of, records_in}
use Rattle.driver_model.specs.Lists.{EachFrom, AllOf}
use Rattle.driver_model.specs.Invariant.{entries_of}
use Rattle.driver_laws.proofs.Lists.{all_map, all_both, all_last}
use Rattle.driver_laws.proofs.Marks.{due_most}
use Rattle.database_model.specs.Runs.{Drained}
use Rattle.database_model.specs.Ranges.{IsDrained, AreLosses, LossesRiseFrom, EndsWith, IsSegment, IsRecorded}
use Rattle.run_model.specs.Daemon.{is_known}
use Rattle.run_model.specs.Running.{Processor, System, record_of}
use Rattle.run_model.specs.Shares.{is_of, drains_of, batches_in, drains_in_part, last_part, segment_of}
use Rattle.run_model.specs.Validity.{IsOfTrace, IsPlaced}
use Rattle.run_laws.specs.Laws.{IsFit}
use Rattle.run_laws.proofs.Basics.{IsFront}
use Rattle.run_laws.proofs.Systems.{SystemHolds, of_cell, got_map}
use Rattle.run_laws.proofs.Endings.{drained_facts, facts_front, got_within}

-- the standard library's word for the same
pub all_std : {A : Type 0} (P : A → Type 0) (xs : List A) → AllOf P xs → All P xs
all_std {A = A} P xs h = All-from_recursion P xs (by_recursion xs h)
  where
    by_recursion : (ys : List A) → AllOf P ys → AllByRecursion P ys
    by_recursion [] h = tt
    by_recursion (y ∷ ys) h = (h.0, by_recursion ys h.1)

-- what is so at each index is so of all
all_from_got : {A : Type 0} (P : A → Type 0) (xs : List A) → ((k : ℕ) (x : A) → slice_get xs k ≡ Some x → P x) → AllOf P xs
all_from_got P [] h = tt
all_from_got P (x ∷ xs) h = (h 0 x refl, all_from_got P xs (λ k y e. h (suc k) y e))

all_filter : {A : Type 0} (P : A → Type 0) (test : A → Bool) (xs : List A) → AllOf P xs → AllOf P (filter test xs)
all_filter P test [] h = tt
all_filter {A = A} P test (x ∷ xs) h =
    cond_both (test x) (x ∷ filter test xs) (filter test xs) (λ (z : List A). AllOf P z) (λ e. (h.0, all_filter P test xs h.1)) (λ e. all_filter P test xs h.1)

-- what the drains of each cell of each processor have, all have
pub all_by_cell : (P : Drained → Type 0) (trace : Recording) (drains : List Drained) → AllOf (IsOfTrace trace) drains
    → ((cpu cell : ℕ) → cpu < trace.cpus → cell ≤ 2 → AllOf P (drains_of cpu cell drains)) → AllOf P drains
all_by_cell P trace [] own h = tt
all_by_cell P trace (d ∷ ds) own h =
    let cpu = d.batch.note.cpu in
    let cell = d.batch.note.cell in
    let first : AllOf P (d ∷ drains_of cpu cell ds) =
    subst (λ (z : List Drained). AllOf P z) (cond-true (is_of cpu cell d) (d ∷ drains_of cpu cell ds) (drains_of cpu cell ds) (of_cell cpu cell d (refl, refl)))
    (h cpu cell own.0.0 own.0.1) in (
      first.0,
      all_by_cell P trace ds own.1 (λ k c within few.
          cond_both (is_of k c d) (d ∷ drains_of k c ds) (drains_of k c ds) (λ (z : List Drained). AllOf P z → AllOf P (drains_of k c ds)) (λ e all. all.1) (λ e all. all) (h k c within few)),
    )

-- a cell is one of three
by_three : (P : ℕ → Type 0) (cell : ℕ) → cell ≤ 2 → P 0 → P 1 → P 2 → P cell
by_three P zero few a b c = a
by_three P (suc zero) few a b c = b
by_three P (suc (suc zero)) few a b c = c
by_three P (suc (suc (suc n))) few a b c = absurd (omega arith)

-- a batch has no more entries than all together
entry_counts : (batches : List Sent) → AllOf (λ b. length b.entries ≤ entries_of batches) batches
entry_counts [] = tt
entry_counts (b ∷ bs) = (omega arith, all_map (λ c. length c.entries ≤ entries_of bs) (λ c. length c.entries ≤ entries_of (b ∷ bs)) (λ c h. omega arith) bs (entry_counts bs))

-- the batches drained of a cell are no larger than a stream
cell_fits : (handed taken : List Sent) (drains : List Drained) → IsFront taken handed → batches_in drains ≡ taken → entries_of handed ≤ 2000000
    → AllOf (λ d. length d.batch.entries ≤ 2000000) drains
cell_fits handed taken drains front same few =
    drained_facts (λ b. length b.entries ≤ 2000000) drains taken same
    (facts_front (λ b. length b.entries ≤ 2000000) taken handed front
    (all_map (λ b. length b.entries ≤ entries_of handed) (λ b. length b.entries ≤ 2000000) (λ b h. omega arith) handed (entry_counts handed)))

drains_fit : (pace : Pace) (trace : Recording) (first_epoch : ℕ) (system : System) → IsFit trace → SystemHolds pace trace first_epoch system
    → AllOf (λ d. length d.batch.entries ≤ 2000000) system.daemon.drains
drains_fit pace trace first_epoch system fit holds =
    let daemon = system.daemon in
    all_by_cell (λ d. length d.batch.entries ≤ 2000000) trace daemon.drains holds.books.drains.of_trace
    (λ cpu cell within few.
    let found = got_within system.processors cpu (omega (arith, holds.count)) in
    let lane = holds.lanes cpu found.0 found.1 in
    let most : found.0.driver.at ≤ length (stream_of cpu trace) = omega (arith, lane.lane.in_range.at, due_most (stream_of cpu trace) (found.0.side.heard / 2)) in
    let limit : length (stream_of cpu trace) ≤ 2000000 = (fit.streams cpu).few in
    by_three (λ c. AllOf (λ d. length d.batch.entries ≤ 2000000) (drains_of cpu c daemon.drains)) cell few
    (cell_fits found.0.side.first.handed found.0.far.first.taken (drains_of cpu 0 daemon.drains) lane.cell0.passed.front lane.cell0.same
    (omega (arith, lane.lane.counted.written, lane.lane.counted.all)))
    (cell_fits found.0.side.second.handed found.0.far.second.taken (drains_of cpu 1 daemon.drains) lane.cell1.passed.front lane.cell1.same
    (omega (arith, lane.lane.counted.written, lane.lane.counted.all)))
    (cell_fits found.0.side.third.handed found.0.far.third.taken (drains_of cpu 2 daemon.drains) lane.cell2.passed.front lane.cell2.same
    (omega (arith, lane.lane.counted.placed, lane.lane.counted.all))))

-- drains that are placed and small can be stored
pub drains_stored : (trace : Recording) (first_epoch : ℕ) (drains : List Drained) → IsFit trace → AllOf (IsPlaced (records_in trace) first_epoch) drains
    → AllOf (λ d. length d.batch.entries ≤ 2000000) drains → AllOf IsDrained drains
drains_stored trace first_epoch drains fit placed small =
    all_both (IsPlaced (records_in trace) first_epoch) (λ d. length d.batch.entries ≤ 2000000) IsDrained
    (λ d placed size. record {
      position = omega (arith, placed.at, fit.records);
      size = size;
      flags = ap length placed.known ∙ length-map d.batch.entries (is_known (records_in trace) d.at);
    }) drains placed small

system_stored : (pace : Pace) (trace : Recording) (first_epoch : ℕ) (system : System) → IsFit trace → SystemHolds pace trace first_epoch system
    → AllOf IsDrained system.daemon.drains
system_stored pace trace first_epoch system fit holds =
    drains_stored trace first_epoch system.daemon.drains fit holds.books.drains.placed (drains_fit pace trace first_epoch system fit holds)

-- losses in order rise
pub losses_rise : (count least : ℕ) (P : Loss → Type 0) (done losses : List Loss) → count ≤ 2000000
    → ((loss : Loss) → AllOf (λ m. m.index < loss.index) done → least ≤ loss.index)
    → EachFrom (λ before l. (l.index < count) × AllOf (λ m. m.index < l.index) before × P l) done losses → LossesRiseFrom least losses
losses_rise count least P done [] few from h = tt
losses_rise count least P done (l ∷ ls) few from h = (
  from l h.0.1,
  omega (arith, h.0.0),
  losses_rise count (l.index + 1) P (done ++ l ∷ []) ls few
      (λ m before. let b : l.index < m.index = all_last (λ o. o.index < m.index) done l before in omega arith) h.1,
)

losses_stored : (pace : Pace) (trace : Recording) (first_epoch : ℕ) (system : System) → IsFit trace → SystemHolds pace trace first_epoch system
    → AllOf AreLosses (map (λ processor. processor.driver.losses) system.processors)
losses_stored pace trace first_epoch system fit holds =
    all_from_got AreLosses (map (λ (p : Processor). p.driver.losses) system.processors) (λ cpu losses there.
    let found = got_map (λ (p : Processor). p.driver.losses) system.processors cpu losses there in
    let lane = holds.lanes cpu found.0 found.1 in
    let samples = stream_of cpu trace in
    let most : found.0.driver.at ≤ length samples = omega (arith, lane.lane.in_range.at, due_most samples (found.0.side.heard / 2)) in
    let limit : length samples ≤ 2000000 = (fit.streams cpu).few in
    subst (λ (z : List Loss). AreLosses z) (sym found.2)
    (losses_rise found.0.driver.at 0 (λ l. IsSomeAnd (slice_get samples l.index) (λ s. l.event ≡ s.key.event)) [] found.0.driver.losses (omega arith)
    (λ l h. omega arith) lane.lane.losses_in_order))

-- the losses of a segment
ends_with : (last : Bool) (losses : List (List Loss)) → 1 ≤ length losses → length losses ≤ 16 → All AreLosses losses → EndsWith last (cond last losses [])
ends_with true losses some few all = (some, few, all)
ends_with false losses some few all = refl

pub storable : (pace : Pace) (trace : Recording) (run first_epoch : ℕ) (system : System) → IsFit trace → SystemHolds pace trace first_epoch system → 1 ≤ run
    → (part : ℕ) → part ≤ last_part (records_in trace) → IsSegment (segment_of (records_in trace) (record_of run first_epoch system) part)
storable pace trace run first_epoch system fit holds some part within =
    let records = records_in trace in
    let losses = map (λ (p : Processor). p.driver.losses) system.processors in
    let count : length losses ≡ trace.cpus = length-map system.processors (λ (p : Processor). p.driver.losses) ∙ holds.count in
    record {
      run = some;
      part = omega (arith, fit.parts);
      drains = all_std IsDrained (drains_in_part records part system.daemon.drains)
          (all_filter IsDrained (λ d. eqb (part_of records d.at) part) system.daemon.drains (system_stored pace trace first_epoch system fit holds));
      losses = ends_with (eqb part (last_part records)) losses (omega (arith, fit.some)) (omega (arith, fit.cpus))
          (all_std AreLosses losses (losses_stored pace trace first_epoch system fit holds));
    }

pub recorded : (pace : Pace) (trace : Recording) (run first_epoch : ℕ) (system : System) → IsFit trace → SystemHolds pace trace first_epoch system
    → IsRecorded (record_of run first_epoch system)
recorded pace trace run first_epoch system fit holds =
    let losses = map (λ (p : Processor). p.driver.losses) system.processors in
    let count : length losses ≡ trace.cpus = length-map system.processors (λ (p : Processor). p.driver.losses) ∙ holds.count in
    record {
      drains = all_std IsDrained system.daemon.drains (system_stored pace trace first_epoch system fit holds);
      processors = omega (arith, fit.cpus);
      losses = all_std AreLosses losses (losses_stored pace trace first_epoch system fit holds);
    }
