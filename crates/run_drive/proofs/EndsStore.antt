-- What the end of a run leaves of the store: all parts, or those before a fault.
use Rattle.std.proofs.Common.{◌≡◌, refl, sym, ◌∙◌, ap, subst, arith, ℕ, ◌+◌, ◌≤◌, Bool, true, false, List, [], length, take, append-nil, Option, Some, None, Ok, Err, eqb, eq-eqb}
use Rattle.std.specs.Prelude.{filter}
use Rattle.std.specs.List.{count_by}
use Rattle.std.proofs.lemmas.Bool.{cond-true}
use Rattle.std.proofs.lemmas.List.Sums.{length-filter}
use Rattle.sample_key.specs.declared.losses.Loss.{Loss}
use Rattle.sample_key.specs.declared.losses.Pace.{Pace}
use Rattle.trace_model.specs.Parts.{ends_part, epoch_after, part_of}
use Rattle.trace_model.specs.Recording.{Recording}
use Rattle.trace_model.specs.Streams.{records_in}
use Rattle.trace_model.specs.declared.notices.Record.{Record}
use Rattle.database_model.specs.Runs.{Drained, Recorded, Segment}
use Rattle.store_io.specs.Files.{Files}
use Rattle.database_state.specs.Heads.{Head}
use Rattle.database_state.specs.declared.faults.DbFault.{DbFault}
use Rattle.growth_model.specs.Grown.{epoch_after_parts, part_count}
use Rattle.lane_side.specs.Plain.{Plain}
use Rattle.run_model.specs.Daemon.{Daemon}
use Rattle.run_model.specs.Shares.{drains_in_part, last_part}
use Rattle.shared_side.specs.Shown.{Shown}
use Rattle.lane_threads.specs.Working.{Working}
use Rattle.dcpid_core.specs.Collection.{Collection}
use Rattle.dcpid_core.specs.Finishing.{Finishes, record_in}
use Rattle.dcpid_core.specs.Parts.{part_in}
use Rattle.dcpid_core.specs.Storing.{HasFailed, IsCommitted, Part}
use Rattle.replay_drive.specs.Growing.{KeepsStore}
use Rattle.replay_drive.proofs.AdvanceStores.{store_as}
use Rattle.replay_drive.proofs.PartsKept.{epoch_by_parts}
use Rattle.std.proofs.lemmas.List.{take_all}
use Rattle.replay_drive.proofs.StoreKept.{IsNextPart, store_fails, store_grows}
use Rattle.daemon_rounds.specs.Knowing.{Knows}
use Rattle.daemon_rounds.specs.Storing.{GoesOnFrom}
use Rattle.run_drive.specs.Ending.{WereJoined}
use Rattle.run_drive.specs.Outcomes.{LeavesAll, StopsRun}
use Rattle.run_drive.specs.Running.{HasFinished, plain_sides}
use Rattle.run_drive.proofs.EndsJoined.{EndLaws, WasFinished, losses_in, record_with, run_valid, until_all}
use Rattle.run_drive.proofs.EndsCut.{run_cut}

-- ---- the last part

-- all records that end a part
taken_whole : (records : List Record) (n : ℕ) → last_part records ≤ n → take n (filter ends_part records) ≡ filter ends_part records
taken_whole records n most = take_all n (filter ends_part records) (omega (arith, length-filter ends_part records, most))

-- what is left is the last part of the run's record
pub last_next : (pace : Pace) (trace : Recording) (run first_epoch : ℕ) (until : Daemon) (daemon : Collection) (sides : List Plain) (losses : List (List Loss))
    → Knows pace trace run first_epoch until daemon sides → daemon.failure ≡ None → until.applied ≡ length (records_in trace)
    → IsNextPart trace (record_with run first_epoch until losses) daemon.part (part_in daemon daemon.state.epoch true losses)
    × (daemon.part + 1 ≡ part_count (records_in trace))
last_next pace trace run first_epoch until daemon sides losses knows fine all =
    let records = records_in trace in
    let same : daemon.state ≡ until = knows.same fine in
    let part : daemon.part ≡ part_of records until.applied = knows.parts.part fine ∙ ap (λ (z : Daemon). part_of records z.applied) same in
    let last : daemon.part ≡ last_part records = part ∙ ap (λ n. part_of records n) all ∙ ap (count_by ends_part) (take_all (length records) records (omega arith)) in
    let is : eqb daemon.part (last_part records) ≡ true = eq-eqb daemon.part (last_part records) last in
    let at_epoch : daemon.state.epoch ≡ epoch_after_parts first_epoch records (daemon.part + 1) =
    ap (λ (z : Daemon). z.epoch) same ∙ knows.books.epoch ∙ epoch_by_parts first_epoch records until.applied
    ∙ ap (λ n. epoch_after_parts first_epoch records n) (sym part)
    ∙ ap (λ (z : List Record). epoch_after first_epoch z) (taken_whole records daemon.part (omega (arith, last)) ∙ sym (taken_whole records (daemon.part + 1) (omega (arith, last)))) in
    let noted : daemon.noted ≡ drains_in_part records daemon.part until.drains =
    knows.parts.noted fine ∙ ap (λ (z : Daemon). drains_in_part records daemon.part z.drains) same in
    let lost = sym (cond-true (eqb daemon.part (last_part records)) losses [] is) in (
      record {
        same = whole_part (ap (λ (t : Recording). t.images) knows.trace_is) (ap records_in knows.trace_is) at_epoch
            (segment_parts knows.run_is refl (sym is) knows.first_is noted lost);
        within = omega (arith, last);
      },
      ap (λ n. n + 1) last,
    )
  where
    segment_with : ℕ → ℕ → Bool → ℕ → List Drained → List (List Loss) → Segment
    segment_with run part last first drains losses = record { run = run; part = part; last = last; first_epoch = first; drains = drains; losses = losses }

    segment_parts : {r1 r2 p1 p2 : ℕ} {l1 l2 : Bool} {f1 f2 : ℕ} {d1 d2 : List Drained} {x1 x2 : List (List Loss)} → r1 ≡ r2 → p1 ≡ p2 → l1 ≡ l2 → f1 ≡ f2 → d1 ≡ d2 → x1 ≡ x2
        → segment_with r1 p1 l1 f1 d1 x1 ≡ segment_with r2 p2 l2 f2 d2 x2
    segment_parts r p l f d x = λ i. segment_with (r i) (p i) (l i) (f i) (d i) (x i)

    part_with : List (List ℕ) → List Record → ℕ → Segment → Part
    part_with images records epoch segment = record { images = images; records = records; head = daemon.head; epoch = epoch; segment = segment }

    whole_part : {i1 i2 : List (List ℕ)} {r1 r2 : List Record} {e1 e2 : ℕ} {s1 s2 : Segment} → i1 ≡ i2 → r1 ≡ r2 → e1 ≡ e2 → s1 ≡ s2 → part_with i1 r1 e1 s1 ≡ part_with i2 r2 e2 s2
    whole_part images records epoch segment = λ i. part_with (images i) (records i) (epoch i) (segment i)

-- ---- what is answered

-- where a record is answered no fault was kept, and it is that of the run
pub ok_fine : {D : Type 0} (files : D → Option Files) (faults moment : D → ℕ) (left : D → ℕ → Files → Type 0) (daemon : Collection) (losses : List (List Loss)) (failure : Option DbFault) (store after : D) (kept : Recorded)
    → Finishes files faults moment left daemon losses failure store (Ok kept) after → (failure ≡ None) × (kept ≡ record_in daemon losses)
ok_fine files faults moment left daemon losses None store after kept ends = (refl, ends.0)
ok_fine files faults moment left daemon losses (Some fault) store after kept ends = absurd cc

-- the record that is answered
pub kept_is : (pace : Pace) (trace : Recording) (run first_epoch : ℕ) (until : Daemon) (daemon : Collection) (sides : List Plain) (losses : List (List Loss))
    → Knows pace trace run first_epoch until daemon sides → daemon.failure ≡ None → record_in daemon losses ≡ record_with run first_epoch until losses
kept_is pace trace run first_epoch until daemon sides losses knows fine =
    λ i. record { run = knows.run_is i; first_epoch = knows.first_is i; drains = (knows.same fine i).drains; losses = losses }

-- the record goes on from what was drained, by nothing more
goes_to : (begin : Head) (until : Daemon) (losses : List (List Loss)) → GoesOnFrom begin until (record_with (begin.runs + 1) begin.epoch until losses)
goes_to begin until losses = record { run = refl; first_epoch = refl; more = []; drains = sym (append-nil until.drains); later = tt }

-- ---- what is left

-- the run is finished, with no fault
pub finished : {D : Type 0} (files : D → Option Files) (faults moment : D → ℕ) (left : D → ℕ → Files → Type 0) (pace : Pace) (trace : Recording) (begin : Head) (start store : D) (daemon : Collection) (works : List Working) (sides : List Shown)
    → WereJoined pace trace works sides → (h : HasFinished files faults moment left pace trace begin start store daemon sides) → daemon.failure ≡ None
    → WasFinished pace trace (begin.runs + 1) begin.epoch h.until daemon works sides
finished files faults moment left pace trace begin start store daemon works sides joined h fine = record { joined = joined; knows = h.knows; over = h.over; fine = fine }

pub ok_leaves : {D : Type 0} (files : D → Option Files) (faults moment : D → ℕ) (left : D → ℕ → Files → Type 0) (pace : Pace) (trace : Recording) (begin : Head) (start store after : D) (daemon : Collection) (works : List Working) (sides : List Shown) (losses : List (List Loss)) (kept : Recorded)
    → WereJoined pace trace works sides → HasFinished files faults moment left pace trace begin start store daemon sides
    → Finishes files faults moment left daemon losses daemon.failure store (Ok kept) after → LeavesAll files faults moment left trace kept begin start after
ok_leaves {D} files faults moment left pace trace begin start store after daemon works sides losses kept joined h ends =
    let ok = ok_fine files faults moment left daemon losses daemon.failure store after kept ends in
    let whole = record_with (begin.runs + 1) begin.epoch h.until losses in
    let done = finished files faults moment left pace trace begin start store daemon works sides joined h ok.0 in
    let all = until_all pace trace (begin.runs + 1) begin.epoch h.until daemon works sides done in
    let next = last_next pace trace (begin.runs + 1) begin.epoch h.until daemon (plain_sides sides) losses h.knows ok.0 all in
    let came : Finishes files faults moment left daemon losses None store (Ok kept) after = subst (λ o. Finishes files faults moment left daemon losses o store (Ok kept) after) ok.0 ends in
    let now = store_as files faults moment left trace whole begin start store daemon.part daemon.part daemon.head daemon.head daemon.failure None refl refl ok.0 (h.store whole (goes_to begin h.until losses)) in
    let committed = subst (λ (p : Part). IsCommitted files faults moment left p came.1.0 store after) next.0.same came.1.1 in
    let grown : KeepsStore files faults moment left trace whole begin start after (daemon.part + 1) came.1.0 None =
    store_grows files faults moment left trace whole begin daemon.head came.1.0 start store after daemon.part (record { run = refl; first_epoch = refl }) next.0.within now committed in
    let mine : whole ≡ kept = sym (ok.1 ∙ kept_is pace trace (begin.runs + 1) begin.epoch h.until daemon (plain_sides sides) losses h.knows ok.0) in
    record {
      head = came.1.0;
      store = subst (λ (z : Recorded). KeepsStore files faults moment left trace z begin start after (part_count (records_in trace)) came.1.0 None) mine
          (subst (λ (n : ℕ). KeepsStore files faults moment left trace whole begin start after n came.1.0 None) next.1 grown);
    }

-- the last part could not be committed
fails_last : {D : Type 0} (files : D → Option Files) (faults moment : D → ℕ) (left : D → ℕ → Files → Type 0) → EndLaws → (pace : Pace) (trace : Recording) (begin : Head) (start store after : D) (daemon : Collection) (works : List Working) (sides : List Shown) (fault : DbFault)
    → WereJoined pace trace works sides → HasFinished files faults moment left pace trace begin start store daemon sides → daemon.failure ≡ None
    → HasFailed files faults moment left (part_in daemon daemon.state.epoch true (losses_in works)) fault store after
    → StopsRun files faults moment left pace trace begin start after fault
fails_last files faults moment left laws pace trace begin start store after daemon works sides fault joined h fine ends =
    let whole = record_with (begin.runs + 1) begin.epoch h.until (losses_in works) in
    let done = finished files faults moment left pace trace begin start store daemon works sides joined h fine in
    let all = until_all pace trace (begin.runs + 1) begin.epoch h.until daemon works sides done in
    let next = last_next pace trace (begin.runs + 1) begin.epoch h.until daemon (plain_sides sides) (losses_in works) h.knows fine all in
    let now = store_as files faults moment left trace whole begin start store daemon.part daemon.part daemon.head daemon.head daemon.failure None refl refl fine (h.store whole (goes_to begin h.until (losses_in works))) in
    let failed = subst (λ (p : Part). HasFailed files faults moment left p fault store after) next.0.same ends in
    record {
      kept = whole;
      ended = true;
      parts = daemon.part;
      head = daemon.head;
      follows = record { run = refl; first_epoch = refl };
      valid = run_valid laws pace trace (begin.runs + 1) begin.epoch h.until daemon works sides done;
      last = λ other here. refl;
      store = store_fails files faults moment left trace whole begin daemon.head start store after daemon.part fault (record { run = refl; first_epoch = refl }) next.0.within now failed;
    }

-- a fault was kept before
kept_before : {D : Type 0} (files : D → Option Files) (faults moment : D → ℕ) (left : D → ℕ → Files → Type 0) → EndLaws → (pace : Pace) (trace : Recording) (begin : Head) (start store : D) (daemon : Collection) (works : List Working) (sides : List Shown) (fault : DbFault)
    → WereJoined pace trace works sides → HasFinished files faults moment left pace trace begin start store daemon sides → daemon.failure ≡ Some fault
    → StopsRun files faults moment left pace trace begin start store fault
kept_before files faults moment left laws pace trace begin start store daemon works sides fault joined h fails =
    let part = record_with (begin.runs + 1) begin.epoch h.until [] in
    record {
      kept = part;
      ended = false;
      parts = daemon.part;
      head = daemon.head;
      follows = record { run = refl; first_epoch = refl };
      valid = (refl, run_cut laws pace trace (begin.runs + 1) begin.epoch h.until daemon fault works sides joined h.knows fails);
      last = λ other here. absurd (omega (arith, here, subst (λ (t : Recording). daemon.part + 1 ≤ last_part (records_in t)) h.knows.trace_is (h.early fault fails other)));
      store = store_as files faults moment left trace part begin start store daemon.part daemon.part daemon.head daemon.head daemon.failure (Some fault) refl refl fails (h.store part (goes_to begin h.until []));
    }

err_by : {D : Type 0} (files : D → Option Files) (faults moment : D → ℕ) (left : D → ℕ → Files → Type 0) → EndLaws → (pace : Pace) (trace : Recording) (begin : Head) (start store after : D) (daemon : Collection) (works : List Working) (sides : List Shown) (fault : DbFault) (failure : Option DbFault)
    → WereJoined pace trace works sides → HasFinished files faults moment left pace trace begin start store daemon sides → daemon.failure ≡ failure
    → Finishes files faults moment left daemon (losses_in works) failure store (Err fault) after
    → StopsRun files faults moment left pace trace begin start after fault
err_by files faults moment left laws pace trace begin start store after daemon works sides fault None joined h is ends =
    fails_last files faults moment left laws pace trace begin start store after daemon works sides fault joined h is ends
err_by {D} files faults moment left laws pace trace begin start store after daemon works sides fault (Some first) joined h is ends =
    let same : first ≡ fault = cc in
    subst (λ (s : D). StopsRun files faults moment left pace trace begin start s fault) (sym ends.1)
    (kept_before files faults moment left laws pace trace begin start store daemon works sides fault joined h (is ∙ ap (λ (z : DbFault). Some z) same))

pub err_leaves : {D : Type 0} (files : D → Option Files) (faults moment : D → ℕ) (left : D → ℕ → Files → Type 0) → EndLaws → (pace : Pace) (trace : Recording) (begin : Head) (start store after : D) (daemon : Collection) (works : List Working) (sides : List Shown) (losses : List (List Loss)) (fault : DbFault)
    → WereJoined pace trace works sides → HasFinished files faults moment left pace trace begin start store daemon sides → losses ≡ losses_in works
    → Finishes files faults moment left daemon losses daemon.failure store (Err fault) after
    → StopsRun files faults moment left pace trace begin start after fault
err_leaves files faults moment left laws pace trace begin start store after daemon works sides losses fault joined h lost ends =
    err_by files faults moment left laws pace trace begin start store after daemon works sides fault daemon.failure joined h refl
    (subst (λ (z : List (List Loss)). Finishes files faults moment left daemon z daemon.failure store (Err fault) after) lost ends)
