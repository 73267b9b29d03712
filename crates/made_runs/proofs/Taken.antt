-- The tally of a record that lost nothing: the total of the lost ones is 0, and that of the taken ones is the number of samples.
use Rattle.std.proofs.Common.{◌≡◌, ℕ, zero, suc, ◌+◌, ◌<◌, ◌≤◌, ◌&&◌, Bool, true, false, cond, List, [], ◌∷◌, length, map, eqb, ltb, refl, ◌∙◌, ap, subst, arith}
use Rattle.std.specs.Prelude.{filter, sum_by}
use Rattle.std.specs.List.{zip}
use Rattle.std.proofs.lemmas.Bool.{cond-true, lt-ltb}
use Rattle.std.proofs.lemmas.Bool.Decides.{nat_tests}
use Rattle.std.proofs.lemmas.List.{length-map}
use Rattle.std.proofs.lemmas.List.Sums.{sum_by-append, sum_by-cons}
use Rattle.sample_key.specs.Counted.{Counted}
use Rattle.sample_key.specs.Events.{all_events, code_of}
use Rattle.sample_key.specs.declared.events.Event.{Event}
use Rattle.sample_key.specs.declared.events.Event.TheVariants.{Cycles, Imiss, Dmiss, Branchmp}
use Rattle.sample_key.specs.declared.losses.Loss.{Loss}
use Rattle.sample_key.specs.declared.losses.Pace.TheVariants.{Free}
use Rattle.trace_model.specs.Recording.{Recording}
use Rattle.trace_model.specs.Streams.{records_in, samples_in, stream_of}
use Rattle.trace_model.specs.declared.notices.Record.{Record}
use Rattle.driver_model.specs.Lists.{AllOf}
use Rattle.database_model.specs.declared.tallies.TallyRow.{TallyRow}
use Rattle.database_model.specs.Runs.{Drained, Recorded}
use Rattle.database_model.specs.Tally.{agrees, drained_of, has_samples, lost_of, processor_rows, row_of, rows_of, samples_of, tally_of}
use Rattle.run_model.specs.Shares.{share_in}
use Rattle.run_model.specs.Daemon.{is_known}
use Rattle.run_model.specs.Validity.{AreCountedOnce, IsOfTrace, IsPlaced, IsValidRun}
use Rattle.run_laws.specs.Laws.{IsFit}
use Rattle.run_exact.specs.Exact.{counted_where}
use Rattle.summary_text.specs.Summaries.{taken_in}
use Rattle.quiet_runs.proofs.Bounding.{index_none}
use Rattle.quiet_runs.proofs.Summing.{is_any, over, over_none, over_one, passed, passed_all}
use Rattle.made_runs.proofs.Counted.{streams_are_all}

-- ---- rows without samples

no_taken : (row : TallyRow) → has_samples row ≡ false → taken_in row ≡ 0
no_taken row none = grind (arith, nat_tests)

keep_row : (f : TallyRow → ℕ) (b : Bool) (row : TallyRow) (rows : List TallyRow) → (b ≡ false → f row ≡ 0)
    → sum_by f (cond b (row ∷ rows) rows) ≡ f row + sum_by f rows
keep_row f true row rows none = sum_by-cons f row rows
keep_row f false row rows none = omega (arith, none refl)

-- rows that are left out add nothing
filtered : (f : TallyRow → ℕ) → ((row : TallyRow) → has_samples row ≡ false → f row ≡ 0) → (rows : List TallyRow)
    → sum_by f (filter has_samples rows) ≡ sum_by f rows
filtered f none [] = refl
filtered f none (row ∷ rows) =
    omega (arith, keep_row f (has_samples row) row (filter has_samples rows) (none row), filtered f none rows, sum_by-cons f row rows)

-- ---- the four events

abbrev four : (Event → ℕ) → ℕ
four f = f Cycles + f Imiss + f Dmiss + f Branchmp

four_rows : (f : TallyRow → ℕ) (r : Recorded) (cpu : ℕ) → sum_by f (map (row_of r cpu) all_events) ≡ four (λ e. f (row_of r cpu e))
four_rows f r cpu = omega arith

-- an entry counts for its own event, by its own flag
one_flag : (event : Event) (flag : Bool) (n : ℕ)
    → four (λ e. cond (eqb (code_of event) (code_of e) && agrees true flag) n 0 + cond (eqb (code_of event) (code_of e) && agrees false flag) n 0) ≡ n
one_flag Cycles true n = omega arith
one_flag Cycles false n = omega arith
one_flag Imiss true n = omega arith
one_flag Imiss false n = omega arith
one_flag Dmiss true n = omega arith
one_flag Dmiss false n = omega arith
one_flag Branchmp true n = omega arith
one_flag Branchmp false n = omega arith

entry_counted : (c : Counted × Bool) → four (λ e. samples_of e true c + samples_of e false c) ≡ c.0.count
entry_counted c = one_flag c.0.key.event c.1 c.0.count

-- so do entries with their flags
entries_counted : (entries : List Counted) (known : List Bool) → length known ≡ length entries
    → four (λ e. sum_by (samples_of e true) (zip entries known) + sum_by (samples_of e false) (zip entries known)) ≡ counted_where is_any entries
entries_counted [] known same = refl
entries_counted (c ∷ entries) [] same = absurd (omega arith)
entries_counted (c ∷ entries) (flag ∷ known) same =
    let rest = zip entries known in
    omega (
      arith,
      entry_counted (c, flag),
      entries_counted entries known (omega arith),
      sum_by-cons (samples_of Cycles true) (c, flag) rest,
      sum_by-cons (samples_of Cycles false) (c, flag) rest,
      sum_by-cons (samples_of Imiss true) (c, flag) rest,
      sum_by-cons (samples_of Imiss false) (c, flag) rest,
      sum_by-cons (samples_of Dmiss true) (c, flag) rest,
      sum_by-cons (samples_of Dmiss false) (c, flag) rest,
      sum_by-cons (samples_of Branchmp true) (c, flag) rest,
      sum_by-cons (samples_of Branchmp false) (c, flag) rest,
    )

-- ---- drains, which have a flag for each entry

abbrev HasFlags : Drained → Type 0
HasFlags d = length d.known ≡ length d.batch.entries

by_cpu : (b : Bool) (x : Event → Bool → ℕ) (total : ℕ) → four (λ e. x e true + x e false) ≡ total
    → four (λ e. cond b (x e true) 0 + cond b (x e false) 0) ≡ cond b total 0
by_cpu true x total is = is
by_cpu false x total is = refl

-- what a drain counts of a processor
abbrev of_cpu : ℕ → Drained → ℕ
of_cpu cpu d = cond (eqb d.batch.note.cpu cpu) (counted_where is_any d.batch.entries) 0

drain_counted : (cpu : ℕ) (d : Drained) → HasFlags d → four (λ e. drained_of cpu e true d + drained_of cpu e false d) ≡ of_cpu cpu d
drain_counted cpu d flags =
    by_cpu (eqb d.batch.note.cpu cpu) (λ e flag. sum_by (samples_of e flag) (zip d.batch.entries d.known)) (counted_where is_any d.batch.entries)
    (entries_counted d.batch.entries d.known flags)

unfoldable all_of_cpu : ℕ → List Drained → ℕ
all_of_cpu cpu [] = 0
all_of_cpu cpu (d ∷ drains) = of_cpu cpu d + all_of_cpu cpu drains

drains_counted : (cpu : ℕ) (drains : List Drained) → AllOf HasFlags drains
    → four (λ e. sum_by (drained_of cpu e true) drains + sum_by (drained_of cpu e false) drains) ≡ all_of_cpu cpu drains
unfolding all_of_cpu
drains_counted cpu [] flags = refl
drains_counted cpu (d ∷ drains) flags =
    omega (
      arith,
      drain_counted cpu d flags.0,
      drains_counted cpu drains flags.1,
      sum_by-cons (drained_of cpu Cycles true) d drains,
      sum_by-cons (drained_of cpu Cycles false) d drains,
      sum_by-cons (drained_of cpu Imiss true) d drains,
      sum_by-cons (drained_of cpu Imiss false) d drains,
      sum_by-cons (drained_of cpu Dmiss true) d drains,
      sum_by-cons (drained_of cpu Dmiss false) d drains,
      sum_by-cons (drained_of cpu Branchmp true) d drains,
      sum_by-cons (drained_of cpu Branchmp false) d drains,
    )

-- ---- the rows of processors that lost nothing

abbrev LostNothing : Recorded → Type 0
LostNothing r = AllOf (λ (l : List Loss). l ≡ []) r.losses

none_lost : (r : Recorded) → LostNothing r → (cpu : ℕ) (event : Event) → (row_of r cpu event).lost ≡ 0
none_lost r none cpu event = ap (lost_of event) (index_none r.losses cpu none)

processor_taken : (r : Recorded) → AllOf HasFlags r.drains → LostNothing r → (cpu : ℕ) → sum_by taken_in (processor_rows r cpu) ≡ all_of_cpu cpu r.drains
processor_taken r flags none cpu =
    omega (
      arith,
      filtered taken_in no_taken (map (row_of r cpu) all_events),
      four_rows taken_in r cpu,
      drains_counted cpu r.drains flags,
      none_lost r none cpu Cycles,
      none_lost r none cpu Imiss,
      none_lost r none cpu Dmiss,
      none_lost r none cpu Branchmp,
    )

rows_taken : (r : Recorded) → AllOf HasFlags r.drains → LostNothing r → (n : ℕ) → sum_by taken_in (rows_of r n) ≡ over n (λ cpu. all_of_cpu cpu r.drains)
unfolding rows_of
rows_taken r flags none zero = refl
rows_taken r flags none (suc n) =
    omega (arith, sum_by-append taken_in (rows_of r n) (processor_rows r n), rows_taken r flags none n, processor_taken r flags none n)

abbrev lost_in : TallyRow → ℕ
lost_in row = row.lost

processor_lost : (r : Recorded) → LostNothing r → (cpu : ℕ) → sum_by lost_in (processor_rows r cpu) ≡ 0
processor_lost r none cpu =
    omega (
      arith,
      filtered lost_in (λ row is. omega (arith, no_taken row is)) (map (row_of r cpu) all_events),
      four_rows lost_in r cpu,
      none_lost r none cpu Cycles,
      none_lost r none cpu Imiss,
      none_lost r none cpu Dmiss,
      none_lost r none cpu Branchmp,
    )

rows_lost : (r : Recorded) → LostNothing r → (n : ℕ) → sum_by lost_in (rows_of r n) ≡ 0
unfolding rows_of
rows_lost r none zero = refl
rows_lost r none (suc n) =
    omega (arith, sum_by-append lost_in (rows_of r n) (processor_rows r n), rows_lost r none n, processor_lost r none n)

-- ---- all processors

over_passed : (n : ℕ) (drains : List Drained) → AllOf (λ (d : Drained). d.batch.note.cpu < n) drains
    → over n (λ cpu. all_of_cpu cpu drains) ≡ passed is_any drains
unfolding all_of_cpu passed
over_passed n [] own = over_none n
over_passed n (d ∷ drains) own =
    let total = counted_where is_any d.batch.entries in
    let one = over_one n d.batch.note.cpu total (λ cpu. all_of_cpu cpu (d ∷ drains)) (λ cpu. all_of_cpu cpu drains) (λ cpu. refl) in
    let here : cond (ltb d.batch.note.cpu n) total 0 ≡ total = cond-true (ltb d.batch.note.cpu n) total 0 (lt-ltb d.batch.note.cpu n own.0) in
    omega (arith, one, here, over_passed n drains own.1)

below : (trace : Recording) → trace.cpus ≤ 16 → (drains : List Drained) → AllOf (IsOfTrace trace) drains → AllOf (λ (d : Drained). d.batch.note.cpu < 16) drains
below trace few [] own = tt
below trace few (d ∷ drains) own = (omega (arith, few, own.0.0), below trace few drains own.1)

flagged : (records : List Record) (first_epoch : ℕ) (drains : List Drained) → AllOf (IsPlaced records first_epoch) drains → AllOf HasFlags drains
flagged records first_epoch [] placed = tt
flagged records first_epoch (d ∷ drains) placed =
    (ap length placed.0.known ∙ length-map d.batch.entries (is_known records d.at), flagged records first_epoch drains placed.1)

-- the total of the lost ones
pub lost_none : (kept : Recorded) → LostNothing kept → sum_by (λ row. row.lost) (tally_of kept) ≡ 0
lost_none kept none = rows_lost kept none 16

-- the total of the taken ones
pub taken_all : (trace : Recording) (kept : Recorded) → IsFit trace → IsValidRun Free trace kept → LostNothing kept
    → sum_by taken_in (tally_of kept) ≡ length (samples_in trace)
taken_all trace kept fit valid none =
    let once : (cpu : ℕ) → cpu < trace.cpus → AreCountedOnce (stream_of cpu trace) (share_in kept.drains [] cpu)
    = λ cpu l. subst (λ (losses : List Loss). AreCountedOnce (stream_of cpu trace) (share_in kept.drains losses cpu)) (index_none kept.losses cpu none) (valid.shares cpu l).counted in
    rows_taken kept (flagged (records_in trace) kept.first_epoch kept.drains valid.drains.placed) none 16
    ∙ (over_passed 16 kept.drains (below trace fit.cpus kept.drains valid.drains.of_trace)
    ∙ (passed_all trace kept.drains (λ cpu. stream_of cpu trace) valid.drains.of_trace once
    ∙ streams_are_all trace.cpus 0 trace.lines fit.named))
