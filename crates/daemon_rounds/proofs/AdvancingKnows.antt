-- After an advance the daemon knows its sides still.
use Rattle.std.proofs.Common.{arith, ◌≡◌, ℕ, ◌≤◌, refl, sym, ◌∙◌, ap, subst, Bool, true, false, List, length, Option, Some, None}
use Rattle.std.specs.List.{AllByRecursion}
use Rattle.std.proofs.lemmas.List.{length-map}
use Rattle.sample_key.specs.declared.losses.Pace.{Pace}
use Rattle.trace_model.specs.Recording.{Recording}
use Rattle.trace_model.specs.Streams.{records_in}
use Rattle.store_io.specs.Files.{Files}
use Rattle.database_state.specs.declared.faults.DbFault.{DbFault}
use Rattle.lane_side.specs.Plain.{Plain}
use Rattle.run_model.specs.Books.{KeepsBooks}
use Rattle.run_model.specs.Daemon.{Advancing, Daemon, advance}
use Rattle.run_model.specs.declared.advances.Advanced.TheVariants.{Finished}
use Rattle.run_laws.specs.Laws.{Extends}
use Rattle.run_laws.proofs.Basics.{none_there}
use Rattle.run_laws.proofs.Growing.{extends_advanced, extends_same}
use Rattle.run_joins.specs.Collecting.{BooksAreKept, DaemonsCollect}
use Rattle.dcpid_core.specs.Advancing.{FaultAfter, Outcome, advance_of, commits}
use Rattle.dcpid_core.specs.Collection.{Collection, rang, rang_if}
use Rattle.dcpid_core.specs.Counting.{AdvancesAsTheRun, CountsAgree, fars_in}
use Rattle.replay_drive.specs.Growing.{KeepsParts}
use Rattle.replay_drive.specs.Standing.{ends_run}
use Rattle.replay_drive.proofs.AdvanceStands.{Kind, Went, both_hold, by_kind, is_none_none, kinds}
use Rattle.replay_drive.proofs.AdvanceStores.{IsAdvance}
use Rattle.replay_drive.proofs.Alike.{advance_drains}
use Rattle.replay_drive.proofs.PartsKept.{positions}
use Rattle.daemon_rounds.specs.Going.{IsOver}
use Rattle.daemon_rounds.specs.Knowing.{Knows, KnowsFrom}
use Rattle.daemon_rounds.specs.Sides.{IsFlushedSide}
use Rattle.daemon_rounds.proofs.Advancing.{GoesRight, goes_right, same_daemon, well_like}
use Rattle.daemon_rounds.proofs.AdvancingSides.{each_done, each_kept, each_rang_if, each_still, flushed_sides}

-- the laws of the daemon that an advance cites
pub record AdvanceLaws : Type 0 where
  pub advances : AdvancesAsTheRun
  pub counts : CountsAgree
  pub books : BooksAreKept
  pub collects : DaemonsCollect

-- ---- the daemon's advance is the run's

-- What an advance of a daemon that knows its sides is.
pub record IsRuns (pace : Pace) (trace : Recording) (d : Collection) (sides : List Plain) : Type 0 where
  pub its : advance_of d ≡ advance pace (records_in trace) (fars_in sides) d.state
  pub kind : Kind pace (records_in trace) d.state (advance_of d)
  pub right : GoesRight pace (records_in trace) (fars_in sides) d.state (advance_of d)
  pub advance : IsAdvance d

-- until it keeps a fault its books are kept where it stands
books_now : (pace : Pace) (trace : Recording) (run first_epoch : ℕ) (until : Daemon) (d : Collection) (sides : List Plain)
    → Knows pace trace run first_epoch until d sides → d.failure ≡ None → KeepsBooks pace trace first_epoch d.state
books_now pace trace run first_epoch until d sides knows fine = subst (λ (z : Daemon). KeepsBooks pace trace first_epoch z) (sym (knows.same fine)) knows.books

pub is_runs : AdvanceLaws → (pace : Pace) (trace : Recording) (run first_epoch : ℕ) (until : Daemon) (d : Collection) (sides : List Plain)
    → Knows pace trace run first_epoch until d sides → IsRuns pace trace d sides
is_runs laws pace trace run first_epoch until d sides knows =
    let records = records_in trace in
    let mine : advance_of d ≡ advance pace records (fars_in sides) d.state =
    laws.advances d sides knows.counts ∙ ap (λ (p : Pace). advance p (records_in d.trace) (fars_in sides) d.state) knows.pace_is
    ∙ ap (λ (t : Recording). advance pace (records_in t) (fars_in sides) d.state) knows.trace_is in
    let kind : Kind pace records d.state (advance_of d) =
    subst (λ (a : Advancing). Kind pace records d.state a) (sym mine) (kinds pace records (fars_in sides) d.state knows.well) in
    record {
      its = mine;
      kind = kind;
      right = subst (λ (a : Advancing). GoesRight pace records (fars_in sides) d.state a) (sym mine) (goes_right pace records (fars_in sides) d.state knows.well);
      advance = record {
        kind = subst (λ (p : Pace). Kind p (records_in d.trace) d.state (advance_of d)) (sym knows.pace_is)
            (subst (λ (t : Recording). Kind pace (records_in t) d.state (advance_of d)) (sym knows.trace_is) kind);
        left = ap (λ (a : Advancing). a.daemon.drains) mine ∙ advance_drains d.state pace records (fars_in sides);
        before = λ fine. positions d.state d.state.drains (books_now pace trace run first_epoch until d sides knows fine).before;
      };
    }

-- ---- a fault that is kept

some_none : {A B : Type 0} (o : Option A) (x : A) → o ≡ Some x → o ≡ None → B
some_none o x e n = cc

-- it stays
pub fault_stays : {D : Type 0} (files : D → Option Files) (faults moment : D → ℕ) (left : D → ℕ → Files → Type 0) (d e : Collection) (store after : D) (b : Bool) (fault : DbFault)
    → commits d (advance_of d).answer ≡ b → Outcome files faults moment left b d (advance_of d) store e after → d.failure ≡ Some fault → e.failure ≡ Some fault
fault_stays files faults moment left d e store after true fault commit h was = some_none d.failure fault was (is_none_none d.failure (both_hold _ _ _ commit))
fault_stays files faults moment left d e store after false fault commit h was = by d.failure was h.fault
  where
    by : (o : Option DbFault) → o ≡ Some fault → FaultAfter o (advance_of d).answer e.failure → e.failure ≡ Some fault
    by None is after = absurd cc
    by (Some other) is after = after ∙ is

-- where the daemon stood when it kept a fault, or stands now
abbrev pub stood : Option DbFault → Daemon → Daemon → Daemon
stood None until next = next
stood (Some fault) until next = until

-- ---- what it knows

as_many : (ring : Option ℕ) (sides : List Plain) → length (rang_if ring sides) ≡ length sides
as_many None sides = refl
as_many (Some value) sides = length-map sides (rang value)

-- the books after an advance of a daemon that keeps no fault
pub books_then : AdvanceLaws → (pace : Pace) (trace : Recording) (run first_epoch : ℕ) (until : Daemon) (d : Collection) (sides : List Plain)
    → Knows pace trace run first_epoch until d sides → d.failure ≡ None → KeepsBooks pace trace first_epoch (advance_of d).daemon
books_then laws pace trace run first_epoch until d sides knows fine =
    subst (λ (a : Advancing). KeepsBooks pace trace first_epoch a.daemon) (sym (is_runs laws pace trace run first_epoch until d sides knows).its)
    (laws.books.advanced pace trace first_epoch d.state (fars_in sides) (books_now pace trace run first_epoch until d sides knows fine))

pub knows_then : AdvanceLaws → (pace : Pace) (trace : Recording) (run first_epoch : ℕ) (until : Daemon) (d e : Collection) (sides : List Plain) (o : Option DbFault)
    → Knows pace trace run first_epoch until d sides → d.failure ≡ o → Went (advance_of d) d e → KeepsParts trace e → ((fault : DbFault) → d.failure ≡ Some fault → e.failure ≡ Some fault)
    → Knows pace trace run first_epoch (stood o until (advance_of d).daemon) e (rang_if (advance_of d).ring sides)
knows_then laws pace trace run first_epoch until d e sides None knows fine went parts stays =
    let step = is_runs laws pace trace run first_epoch until d sides knows in
    let fits = by_kind laws.counts d e sides (advance_of d) step.advance.kind went knows.fits knows.counts in
    let now : KnowsFrom pace trace 0 d.state None sides =
    subst (λ (z : Daemon). KnowsFrom pace trace 0 z None sides) (sym (knows.same fine)) (each_still pace trace 0 until d.failure None sides (sym fine) knows.each) in
    record {
      trace_is = went.trace ∙ knows.trace_is;
      pace_is = went.pace ∙ knows.pace_is;
      run_is = went.run ∙ knows.run_is;
      first_is = went.first_epoch ∙ knows.first_is;
      same = λ none. same_daemon e.state (advance_of d).daemon went.state (went.drains none).1;
      well = well_like pace (records_in trace) e.state (advance_of d).daemon went.state step.right.well;
      books = books_then laws pace trace run first_epoch until d sides knows fine;
      parts = parts;
      few = knows.few;
      count = as_many (advance_of d).ring sides ∙ knows.count;
      fits = fits.0;
      counts = fits.1;
      each = each_kept pace trace 0 (advance_of d).daemon e.failure (rang_if (advance_of d).ring sides)
          (each_rang_if pace trace 0 (advance_of d).daemon None (advance_of d).ring sides
          (each_done laws.collects pace trace d.state (advance_of d) sides step.kind step.right now));
    }
knows_then laws pace trace run first_epoch until d e sides (Some fault) knows was went parts stays =
    let step = is_runs laws pace trace run first_epoch until d sides knows in
    let fits = by_kind laws.counts d e sides (advance_of d) step.advance.kind went knows.fits knows.counts in
    record {
      trace_is = went.trace ∙ knows.trace_is;
      pace_is = went.pace ∙ knows.pace_is;
      run_is = went.run ∙ knows.run_is;
      first_is = went.first_epoch ∙ knows.first_is;
      same = λ none. some_none e.failure fault (stays fault was) none;
      well = well_like pace (records_in trace) e.state (advance_of d).daemon went.state step.right.well;
      books = knows.books;
      parts = parts;
      few = knows.few;
      count = as_many (advance_of d).ring sides ∙ knows.count;
      fits = fits.0;
      counts = fits.1;
      each = each_rang_if pace trace 0 until e.failure (advance_of d).ring sides
          (each_still pace trace 0 until d.failure e.failure sides (stays fault was ∙ sym was) knows.each);
    }

-- the daemon only goes on
pub extends_then : AdvanceLaws → (pace : Pace) (trace : Recording) (run first_epoch : ℕ) (until : Daemon) (d : Collection) (sides : List Plain) (o : Option DbFault)
    → Knows pace trace run first_epoch until d sides → d.failure ≡ o → Extends until (stood o until (advance_of d).daemon)
extends_then laws pace trace run first_epoch until d sides None knows fine =
    subst (λ (z : Daemon). Extends z (advance_of d).daemon) (knows.same fine)
    (subst (λ (a : Advancing). Extends d.state a.daemon) (sym (is_runs laws pace trace run first_epoch until d sides knows).its)
    (extends_advanced pace (records_in trace) (fars_in sides) d.state))
extends_then laws pace trace run first_epoch until d sides (Some fault) knows was = extends_same until until (omega arith) refl

-- ---- the end

-- where the answer is that the run is finished
pub over_then : AdvanceLaws → (pace : Pace) (trace : Recording) (run first_epoch : ℕ) (until : Daemon) (d e : Collection) (sides : List Plain)
    → Knows pace trace run first_epoch until d sides → Went (advance_of d) d e → (advance_of d).answer ≡ Finished → IsOver e (rang_if (advance_of d).ring sides)
over_then laws pace trace run first_epoch until d e sides knows went is =
    let records = records_in trace in
    let closes = (is_runs laws pace trace run first_epoch until d sides knows).right.ended (ap ends_run is) in
    let finished : e.state.finished ≡ true = ap (λ (z : Daemon). z.finished) went.state ∙ ap (λ (z : Daemon). z.finished) closes.daemon in
    let applied : e.state.applied ≡ d.state.applied = ap (λ (z : Daemon). z.applied) went.state ∙ ap (λ (z : Daemon). z.applied) closes.daemon in
    let past : length records ≤ d.state.applied = none_there records d.state.applied closes.over in
    let all : d.state.applied ≡ length records = omega (arith, past, knows.well.within) in
    record {
      finished = finished;
      all = applied ∙ all ∙ ap (λ (t : Recording). length (records_in t)) (sym (went.trace ∙ knows.trace_is));
      flushed = subst (λ (o : Option ℕ). AllByRecursion (IsFlushedSide e.state.applied) (rang_if o sides)) (sym closes.ring)
          (subst (λ (n : ℕ). AllByRecursion (IsFlushedSide n) sides) (sym applied) (flushed_sides d.state.applied sides closes.flushed));
    }
