-- At the exact pace the record counts each place as the trace's samples lie there.
use Rattle.std.proofs.Common.{◌≡◌, ◌≢◌, ℕ, zero, suc, ◌+◌, ◌/◌, ◌<◌, ◌≤◌, List, [], ◌∷◌, ◌++◌, length, take, refl, sym, ◌∙◌, ap, subst, arith, inl, inr, Bool, false, cond, if◌then◌else◌, Some, None, Option, eqb, eqb-true, eq-eqb, append_assoc, length-append}
use Rattle.std.specs.Prelude.{count_by}
use Rattle.std.specs.List.{AllByRecursion}
use Rattle.std.proofs.Math.Seq.{take-append_seam}
use Rattle.std.proofs.lemmas.Bool.{cond_both, cond-true, cond-false, eqb-false}
use Rattle.std.proofs.lemmas.List.Sums.{sum_by-cons}
use Rattle.sample_key.specs.Bags.{weight}
use Rattle.sample_key.specs.Events.{code_of, event_of_code}
use Rattle.sample_key.specs.Marks.{due}
use Rattle.sample_key.specs.declared.events.Event.{Event}
use Rattle.sample_key.specs.declared.events.Event.TheVariants.{Cycles, Imiss, Dmiss, Branchmp}
use Rattle.sample_key.specs.declared.keys.Key.{Key}
use Rattle.sample_key.specs.declared.keys.Marked.{Marked}
use Rattle.sample_key.specs.declared.losses.Pace.TheVariants.{Exact}
use Rattle.trace_model.specs.declared.notices.Record.{Record}
use Rattle.trace_model.specs.declared.notices.Line.{Line}
use Rattle.trace_model.specs.declared.notices.Line.TheVariants.{Sample, Rec}
use Rattle.trace_model.specs.declared.notices.Place.{Place}
use Rattle.trace_model.specs.Attribution.{place_at, place_after}
use Rattle.trace_model.specs.Counting.{Spot, Known, Unknown, spot_at, spot_of, same_spot, spots_from, spots_in}
use Rattle.trace_model.specs.Parts.{epoch_after}
use Rattle.trace_model.specs.Recording.{Recording, name_at}
use Rattle.trace_model.specs.Streams.{names_below, stream_from, stream_of, records_from, records_in}
use Rattle.driver_model.specs.Lists.{AllOf}
use Rattle.driver_laws.proofs.Adds.{same_parts}
use Rattle.driver_laws.proofs.Lists.{all_map, all_both}
use Rattle.database_model.specs.Runs.{Drained, Recorded}
use Rattle.run_model.specs.Daemon.{flush_before}
use Rattle.run_model.specs.Shares.{Share, is_of, drains_of, share_of}
use Rattle.run_model.specs.Validity.{IsOfTrace, IsPlaced, IsTakenInTime, IsValidShare, IsValidRun, answers_in, answers_owed, flushes_of}
use Rattle.run_laws.specs.Laws.{IsFit, GoesUpToDue}
use Rattle.run_laws.proofs.Endings.{drained_facts}
use Rattle.run_laws.proofs.Basics.{eqb_apart}
use Rattle.run_laws.proofs.Lanes.{IsOf}
use Rattle.run_laws.proofs.Systems.{of_cell, of_other_cell, of_other_cpu}
use Rattle.run_joins.specs.Joins.{WasJoined}
use Rattle.run_joins.proofs.Joining.{joined_share, owed_climbs}
use Rattle.run_joins.proofs.Rising.{ClimbsFrom, IsAmong}
use Rattle.run_exact.specs.Exact.{counted_where, lies_at, drained_at, IsExactRecord}
use Rattle.run_exact.proofs.Sums.{Respects, sums_agree, counted-append}
use Rattle.run_exact.proofs.Upto.{entries_upto, samples_upto, share_upto, share_weight, most_due, least_due, samples_due}
use Rattle.run_exact.proofs.Places.{placed, placed_upto, marked, marked_upto, placed_zero, marked_zero, placed_next, marked_next, placed_all, marked_all}

-- whether a key lies at a place by the records up to a position
abbrev pub tests_of : Spot → ℕ → List (List ℕ) → List Record → ℕ → Key → Bool
tests_of spot first_epoch images records at key = lies_at spot (epoch_after first_epoch (take at records)) images records at key

-- the code of an event tells it
event_back : (e : Event) → event_of_code (code_of e) ≡ Some e
event_back Cycles = refl
event_back Imiss = refl
event_back Dmiss = refl
event_back Branchmp = refl

event_same : (e f : Event) → code_of e ≡ code_of f → e ≡ f
event_same e f h = let s : Some e ≡ Some f = sym (event_back e) ∙ ap (λ (n : ℕ). event_of_code n) h ∙ event_back f in cc

spot_same : (epoch : ℕ) (images : List (List ℕ)) (a b : Key) (place : Option Place) → a.event ≡ b.event → a.pc ≡ b.pc → spot_at epoch images a place ≡ spot_at epoch images b place
spot_same epoch images a b None e p = λ i. Unknown epoch (e i) (p i)
spot_same epoch images a b (Some place) e p = λ i. Known epoch (name_at images place.image) (e i) place.offset

lies_same : (spot : Spot) (epoch : ℕ) (images : List (List ℕ)) (records : List Record) (at : ℕ) → Respects (lies_at spot epoch images records at)
lies_same spot epoch images records at a b same =
    let parts = same_parts a b same in
    ap (λ (s : Spot). same_spot spot s)
    (spot_same epoch images a b (place_at records at a.pid a.pc) (event_same a.event b.event parts.2) parts.1
    ∙ λ i. spot_at epoch images b (place_at records at (parts.0 i) (parts.1 i)))

-- at the exact pace each record owes a flush, and the close is owed
exact_owes : (number k close : ℕ) (records : List Record) → number ≤ k → k ≤ number + length records → close ≡ flush_before (number + length records)
    → IsAmong (flushes_of Exact number records ++ close ∷ []) (flush_before k)
exact_owes number k close [] low high e = inl (omega arith)
exact_owes number k close (x ∷ xs) low high e =
    cond_both (eqb number k) tt tt (λ (z : Unit {0}). IsAmong (flush_before number ∷ (flushes_of Exact (number + 1) xs ++ close ∷ [])) (flush_before k))
    (λ t. inl (ap (λ (n : ℕ). flush_before n) (eqb-true number k t)))
    (λ t. let apart : number ≢ k = eqb-false number k t in inr (exact_owes (number + 1) k close xs (omega arith) (omega arith) (omega arith)))

-- what was drained of a processor by a position is, key by key, the samples due there
share_agrees : (trace : Recording) (cpu most : ℕ) (share : Share) → IsFit trace → IsValidShare Exact trace (stream_of cpu trace) share → share.losses ≡ []
    → AllOf (GoesUpToDue (stream_of cpu trace)) share.third → most ≤ length (records_in trace)
    → (key : Key) → weight key (share_upto most share) ≡ weight key (samples_upto most (stream_of cpu trace))
share_agrees trace cpu most share fit valid none exact within key =
    let samples = stream_of cpu trace in
    let records = records_in trace in
    let owed : IsAmong (answers_owed Exact records) (flush_before most) = exact_owes 0 most (flush_before (length records)) records (omega arith) (omega arith) (omega arith) in
    let some : IsAmong (answers_in share.third) (flush_before most) = subst (λ (z : List ℕ). IsAmong z (flush_before most)) (sym valid.answered.answers) owed in
    let climbs : ClimbsFrom 0 (answers_in share.third) = subst (λ (z : List ℕ). ClimbsFrom 0 z) (sym valid.answered.answers) (owed_climbs Exact records) in
    omega (
      arith,
      samples_due key most 0 samples (fit.streams cpu).rising,
      share_weight key most share,
      most_due key most samples share.first valid.timely.due0,
      most_due key most samples share.second valid.timely.due1,
      most_due key most samples share.third valid.timely.due2,
      valid.timely.bounded (due samples most) key,
      least_due key most 0 samples share none valid.flushes valid.answered.times exact climbs some,
    )

-- so they agree on every test
agree_at : (trace : Recording) (cpu most : ℕ) (share : Share) (test : Key → Bool) → IsFit trace → IsValidShare Exact trace (stream_of cpu trace) share → share.losses ≡ []
    → AllOf (GoesUpToDue (stream_of cpu trace)) share.third → most ≤ length (records_in trace) → Respects test
    → counted_where test (entries_upto most share.first) + counted_where test (entries_upto most share.second) + counted_where test (entries_upto most share.third)
    ≡ counted_where test (samples_upto most (stream_of cpu trace))
agree_at trace cpu most share test fit valid none exact within same =
    omega (
      arith,
      sums_agree test same (share_upto most share) (samples_upto most (stream_of cpu trace)) (share_agrees trace cpu most share fit valid none exact within),
      counted-append test (entries_upto most share.first) (entries_upto most share.second ++ entries_upto most share.third),
      counted-append test (entries_upto most share.second) (entries_upto most share.third),
    )

-- and so each by the test of its own position
all_agree : (trace : Recording) (cpu most : ℕ) (share : Share) (tests : ℕ → Key → Bool) → IsFit trace → IsValidShare Exact trace (stream_of cpu trace) share → share.losses ≡ []
    → AllOf (GoesUpToDue (stream_of cpu trace)) share.third → most ≤ length (records_in trace) → ((n : ℕ) → Respects (tests n))
    → placed_upto tests most share.first + placed_upto tests most share.second + placed_upto tests most share.third ≡ marked_upto tests most (stream_of cpu trace)
all_agree trace cpu zero share tests fit valid none exact within same =
    omega (
      arith,
      placed_zero tests share.first,
      placed_zero tests share.second,
      placed_zero tests share.third,
      marked_zero tests (stream_of cpu trace),
      agree_at trace cpu 0 share (tests 0) fit valid none exact within (same 0),
    )
all_agree trace cpu (suc most) share tests fit valid none exact within same =
    omega (
      arith,
      placed_next tests most share.first,
      placed_next tests most share.second,
      placed_next tests most share.third,
      marked_next tests most (stream_of cpu trace),
      agree_at trace cpu most share (tests (suc most)) fit valid none exact (omega arith) (same (suc most)),
      agree_at trace cpu (suc most) share (tests (suc most)) fit valid none exact within (same (suc most)),
      all_agree trace cpu most share tests fit valid none exact (omega arith) same,
    )

-- what all drains have, those of a cell have
all_of_cell : (P : Drained → Type 0) (cpu cell : ℕ) (drains : List Drained) → AllOf P drains → AllOf P (drains_of cpu cell drains)
all_of_cell P cpu cell [] all = tt
all_of_cell P cpu cell (d ∷ ds) all =
    cond_both (is_of cpu cell d) (d ∷ drains_of cpu cell ds) (drains_of cpu cell ds) (λ (z : List Drained). AllOf P z)
    (λ e. (all.0, all_of_cell P cpu cell ds all.1)) (λ e. all_of_cell P cpu cell ds all.1)

-- the sum over so many processors
abbrev pub over : ℕ → (ℕ → ℕ) → ℕ
over zero f = 0
over (suc n) f = over n f + f n

over_same : (n : ℕ) (f g : ℕ → ℕ) → ((k : ℕ) → k < n → f k ≡ g k) → over n f ≡ over n g
over_same zero f g h = refl
over_same (suc n) f g h = omega (arith, over_same n f g (λ k l. h k (omega arith)), h n (omega arith))

over_none : (n : ℕ) → over n (λ k. 0) ≡ 0
over_none zero = refl
over_none (suc n) = omega (arith, over_none n)

over_one : (n k v : ℕ) (f g : ℕ → ℕ) → k < n → f k ≡ v + g k → ((j : ℕ) → j < n → (j ≡ k → ⊥) → f j ≡ g j) → over n f ≡ v + over n g
over_one zero k v f g within here others = absurd (omega arith)
over_one (suc n) k v f g within here others =
    cond_both (eqb k n) tt tt (λ (z : Unit {0}). over (suc n) f ≡ v + over (suc n) g)
    (λ t.
    let same : k ≡ n = eqb-true k n t in
    let at_n : f n ≡ v + g n = subst (λ (m : ℕ). f m ≡ v + g m) same here in
    omega (arith, at_n, over_same n f g (λ j l. others j (omega arith) (λ e. omega arith))))
    (λ t.
    let apart : k ≢ n = eqb-false k n t in
    let at_n : f n ≡ g n = others n (omega arith) (λ e. apart (sym e)) in
    omega (arith, at_n, over_one n k v f g (omega arith) here (λ j l. others j (omega arith))))

-- what a processor's drains count
abbrev pub three : (ℕ → Key → Bool) → List Drained → ℕ → ℕ
three tests drains cpu = placed tests (drains_of cpu 0 drains) + placed tests (drains_of cpu 1 drains) + placed tests (drains_of cpu 2 drains)

own_placed : (tests : ℕ → Key → Bool) (cpu cell : ℕ) (d : Drained) (ds : List Drained) → IsOf cpu cell d.batch
    → placed tests (drains_of cpu cell (d ∷ ds)) ≡ counted_where (tests d.at) d.batch.entries + placed tests (drains_of cpu cell ds)
own_placed tests cpu cell d ds own =
    ap (λ (z : List Drained). placed tests z) (cond-true (is_of cpu cell d) (d ∷ drains_of cpu cell ds) (drains_of cpu cell ds) (of_cell cpu cell d own))

other_placed : (tests : ℕ → Key → Bool) (cpu cell : ℕ) (d : Drained) (ds : List Drained) → is_of cpu cell d ≡ false
    → placed tests (drains_of cpu cell (d ∷ ds)) ≡ placed tests (drains_of cpu cell ds)
other_placed tests cpu cell d ds apart =
    ap (λ (z : List Drained). placed tests z) (cond-false (is_of cpu cell d) (d ∷ drains_of cpu cell ds) (drains_of cpu cell ds) apart)

three_own : (tests : ℕ → Key → Bool) (cpu cell : ℕ) (d : Drained) (ds : List Drained) → cell ≤ 2 → IsOf cpu cell d.batch
    → three tests (d ∷ ds) cpu ≡ counted_where (tests d.at) d.batch.entries + three tests ds cpu
three_own tests cpu zero d ds few own =
    omega (arith, own_placed tests cpu 0 d ds own, other_placed tests cpu 1 d ds (of_other_cell cpu 0 1 d own (λ e. omega arith)), other_placed tests cpu 2 d ds (of_other_cell cpu 0 2 d own (λ e. omega arith)))
three_own tests cpu (suc zero) d ds few own =
    omega (arith, own_placed tests cpu 1 d ds own, other_placed tests cpu 0 d ds (of_other_cell cpu 1 0 d own (λ e. omega arith)), other_placed tests cpu 2 d ds (of_other_cell cpu 1 2 d own (λ e. omega arith)))
three_own tests cpu (suc (suc zero)) d ds few own =
    omega (arith, own_placed tests cpu 2 d ds own, other_placed tests cpu 0 d ds (of_other_cell cpu 2 0 d own (λ e. omega arith)), other_placed tests cpu 1 d ds (of_other_cell cpu 2 1 d own (λ e. omega arith)))
three_own tests cpu (suc (suc (suc n))) d ds few own = absurd (omega arith)

three_other : (tests : ℕ → Key → Bool) (cpu other : ℕ) (d : Drained) (ds : List Drained) → d.batch.note.cpu ≡ cpu → (cpu ≡ other → ⊥)
    → three tests (d ∷ ds) other ≡ three tests ds other
three_other tests cpu other d ds own apart =
    omega (arith, other_placed tests other 0 d ds (of_other_cpu cpu other 0 d own apart), other_placed tests other 1 d ds (of_other_cpu cpu other 1 d own apart), other_placed tests other 2 d ds (of_other_cpu cpu other 2 d own apart))

-- each drain is of one cell of one processor
placed_by_cpu : (tests : ℕ → Key → Bool) (trace : Recording) (drains : List Drained) → AllOf (IsOfTrace trace) drains → placed tests drains ≡ over trace.cpus (three tests drains)
placed_by_cpu tests trace [] own = sym (over_same trace.cpus (three tests []) (λ k. 0) (λ k l. refl) ∙ over_none trace.cpus)
placed_by_cpu tests trace (d ∷ ds) own =
    let cpu = d.batch.note.cpu in
    omega (
      arith,
      placed_by_cpu tests trace ds own.1,
      over_one trace.cpus cpu (counted_where (tests d.at) d.batch.entries) (three tests (d ∷ ds)) (three tests ds) own.0.0
          (three_own tests cpu d.batch.note.cell d ds own.0.1 (refl, refl))
          (λ j l apart. three_other tests cpu j d ds refl (λ e. apart (sym e))),
    )

-- each sample is of one processor
marked_by_cpu : (spot : Spot) (first_epoch cpus : ℕ) (images : List (List ℕ)) (records before : List Record) (lines : List Line) → records ≡ before ++ records_from lines
    → AllByRecursion (names_below cpus) lines
    → count_by (same_spot spot) (spots_from first_epoch images before lines)
    ≡ over cpus (λ cpu. marked (tests_of spot first_epoch images records) (stream_from cpu (length before) lines))
marked_by_cpu spot first_epoch cpus images records before [] all named =
    sym (over_same cpus (λ cpu. marked (tests_of spot first_epoch images records) (stream_from cpu (length before) [])) (λ k. 0) (λ k l. refl) ∙ over_none cpus)
marked_by_cpu spot first_epoch cpus images records before (Sample cpu key ∷ lines) all named =
    let tests = tests_of spot first_epoch images records in
    let mark = length before in
    let taken : take mark records ≡ before = ap (λ (z : List Record). take mark z) all ∙ take-append_seam before (records_from lines) in
    let value : ℕ = if tests mark key then 1 else 0 in
    let lies : (if same_spot spot (spot_of first_epoch images before key) then 1 else 0) ≡ value =
    ap {B = ℕ} (λ (z : List Record). if same_spot spot (spot_at (epoch_after first_epoch z) images key (place_after z key.pid key.pc)) then 1 else 0) (sym taken) in
    let rest = marked_by_cpu spot first_epoch cpus images records before lines all named.1 in
    let sample : Marked = record { key = key; mark = mark } in
    let one = over_one cpus cpu value (λ k. marked tests (stream_from k mark (Sample cpu key ∷ lines))) (λ k. marked tests (stream_from k mark lines)) named.0
    (ap (λ (z : List Marked). marked tests z) (cond-true (eqb cpu cpu) (sample ∷ stream_from cpu mark lines) (stream_from cpu mark lines) (eq-eqb cpu cpu refl)))
    (λ j l apart. ap (λ (z : List Marked). marked tests z) (cond-false (eqb cpu j) (sample ∷ stream_from j mark lines) (stream_from j mark lines) (eqb_apart cpu j (λ e. apart (sym e))))) in
    omega (
      arith,
      sum_by-cons (λ s. cond (same_spot spot s) 1 0) (spot_of first_epoch images before key) (spots_from first_epoch images before lines),
      lies,
      rest,
      one,
    )
marked_by_cpu spot first_epoch cpus images records before (Rec notice ∷ lines) all named =
    let tests = tests_of spot first_epoch images records in
    let more = before ++ notice ∷ [] in
    let all_more : records ≡ more ++ records_from lines = all ∙ sym (append_assoc before (notice ∷ []) (records_from lines)) in
    let size : length more ≡ length before + 1 = length-append before (notice ∷ []) in
    marked_by_cpu spot first_epoch cpus images records more lines all_more named.1
    ∙ over_same cpus (λ cpu. marked tests (stream_from cpu (length more) lines)) (λ cpu. marked tests (stream_from cpu (length before + 1) lines))
    (λ k l. ap (λ (n : ℕ). marked tests (stream_from k n lines)) size)

-- a drain's own epoch is that of its position
drained_is : (spot : Spot) (first_epoch : ℕ) (images : List (List ℕ)) (records : List Record) (drains : List Drained) → AllOf (IsPlaced records first_epoch) drains
    → drained_at spot images records drains ≡ placed (tests_of spot first_epoch images records) drains
drained_is spot first_epoch images records [] all = refl
drained_is spot first_epoch images records (d ∷ ds) all =
    omega (
      arith,
      drained_is spot first_epoch images records ds all.1,
      ap (λ (n : ℕ). counted_where (lies_at spot n images records d.at) d.batch.entries) all.0.epoch,
    )

pub exact_plain : (trace : Recording) (kept : Recorded) → IsFit trace → IsValidRun Exact trace kept → IsExactRecord trace kept → (spot : Spot)
    → drained_at spot trace.images (records_in trace) kept.drains ≡ count_by (same_spot spot) (spots_in trace kept.first_epoch)
exact_plain trace kept fit valid exact spot =
    let records = records_in trace in
    let tests = tests_of spot kept.first_epoch trace.images records in
    let last = length records in
    let at_all : AllOf (λ d. d.at ≤ last) kept.drains =
    all_map (IsPlaced records kept.first_epoch) (λ d. d.at ≤ last) (λ d p. p.at) kept.drains valid.drains.placed in
    let each : (cpu : ℕ) → cpu < trace.cpus → three tests kept.drains cpu ≡ marked tests (stream_of cpu trace) = λ cpu within.
    omega (
      arith,
      placed_all tests last (drains_of cpu 0 kept.drains) (all_of_cell (λ d. d.at ≤ last) cpu 0 kept.drains at_all),
      placed_all tests last (drains_of cpu 1 kept.drains) (all_of_cell (λ d. d.at ≤ last) cpu 1 kept.drains at_all),
      placed_all tests last (drains_of cpu 2 kept.drains) (all_of_cell (λ d. d.at ≤ last) cpu 2 kept.drains at_all),
      marked_all tests last (stream_of cpu trace) (fit.streams cpu).marks,
      all_agree trace cpu last (share_of kept cpu) tests fit (valid.shares cpu within) (exact.losses cpu within) (exact.due_then cpu within) (omega arith)
          (λ n. lies_same spot (epoch_after kept.first_epoch (take n records)) trace.images records n),
    ) in
    drained_is spot kept.first_epoch trace.images records kept.drains valid.drains.placed
    ∙ placed_by_cpu tests trace kept.drains valid.drains.of_trace
    ∙ over_same trace.cpus (three tests kept.drains) (λ cpu. marked tests (stream_of cpu trace)) each
    ∙ sym (marked_by_cpu spot kept.first_epoch trace.cpus trace.images records [] trace.lines refl fit.named)

-- a joined run has lost nothing, and its flushes go up to what was due
pub joined_exact : (trace : Recording) (kept : Recorded) → ((cpu : ℕ) → cpu < trace.cpus → WasJoined Exact trace cpu (share_of kept cpu)) → IsExactRecord trace kept
joined_exact trace kept joined = record {
  losses = λ cpu within. let j = joined cpu within in j.2.losses ∙ j.2.lane.exact.0;
  due_then = λ cpu within.
      let j = joined cpu within in
      let share = share_of kept cpu in
      let samples = stream_of cpu trace in
      all_both (λ d. d.batch.note.upto ≡ due samples (d.batch.note.answers / 2)) (IsTakenInTime share.first share.second) (GoesUpToDue samples)
      (λ d e time. let half : d.batch.note.answers / 2 ≡ d.at = omega (arith, time.now) in e ∙ ap (λ (n : ℕ). due samples n) half) share.third
      (drained_facts (λ b. b.note.upto ≡ due samples (b.note.answers / 2)) share.third j.1.third.handed j.2.all2 j.2.lane.exact.1)
      (joined_share Exact trace cpu j.0 j.1 share j.2).0.answered.times;
}
