-- The daemon's books are kept by a batch that is noted and by every advance.
use Rattle.std.proofs.Common.{◌≡◌, ℕ, ◌+◌, ◌<◌, ◌≤◌, List, [], length, take, get_or, refl, sym, ◌∙◌, ap, subst, arith, Bool, if◌then◌else◌, Some, None, Option}
use Rattle.std.specs.Prelude.{slice_get}
use Rattle.std.specs.List.{count_by}
use Rattle.std.proofs.lemmas.Bool.{cond_both}
use Rattle.std.proofs.lemmas.List.Sums.{count_by_more_yes, count_by_more_no}
use Rattle.std.proofs.lemmas.Option.{slice_get_within, get_or_from_slice_get}
use Rattle.sample_key.specs.Sent.{Sent}
use Rattle.sample_key.specs.declared.losses.Pace.{Pace}
use Rattle.trace_model.specs.Parts.{begins_epoch}
use Rattle.trace_model.specs.Recording.{Recording}
use Rattle.trace_model.specs.Streams.{records_in}
use Rattle.trace_model.specs.declared.notices.Record.{Record}
use Rattle.driver_model.specs.Lists.{AllOf}
use Rattle.driver_model.specs.Handover.{FarSide}
use Rattle.driver_laws.proofs.Lists.{all_push, all_map, each_push}
use Rattle.database_model.specs.Runs.{Drained}
use Rattle.run_model.specs.Daemon.{Daemon, Advancing, new_daemon, needs_flush, drain_of, noted, move, ask, settle, go_on, begin, advance, first_waiting, flush_before}
use Rattle.run_model.specs.Validity.{IsOfTrace, IsPlaced}
use Rattle.run_model.specs.Books.{AsksInNeed, IsBefore, KeepsBooks}

-- one record more of a kind, or none
pub count_next : (test : Record → Bool) (records : List Record) (at : ℕ) (notice : Record) → slice_get records at ≡ Some notice
    → count_by test (take (at + 1) records) ≡ count_by test (take at records) + (if test notice then 1 else 0)
count_next test records at notice there =
    let within : at < length records = slice_get_within records at notice there in
    let here : get_or records at notice ≡ notice = get_or_from_slice_get records at notice notice there in
    cond_both (test notice) 1 0 (λ (more : ℕ). count_by test (take (at + 1) records) ≡ count_by test (take at records) + more)
    (λ e. count_by_more_yes test records at notice within (ap (λ (n : Record). test n) here ∙ e))
    (λ e. count_by_more_no test records at notice within (ap (λ (n : Record). test n) here ∙ e) ∙ omega arith)

-- a new daemon's books
pub books_begin : (pace : Pace) (trace : Recording) (first_epoch : ℕ) → KeepsBooks pace trace first_epoch (new_daemon first_epoch)
books_begin pace trace first_epoch = record {
  stands = record { within = omega arith; need = λ asks. absurd cc };
  epoch = omega arith;
  drains = record { of_trace = tt; placed = tt; later = tt };
  before = tt;
}

-- a batch is noted
pub books_noted : (pace : Pace) (trace : Recording) (first_epoch : ℕ) (daemon : Daemon) (batch : Sent) → batch.note.cpu < trace.cpus → batch.note.cell ≤ 2
    → KeepsBooks pace trace first_epoch daemon → KeepsBooks pace trace first_epoch (noted (records_in trace) daemon batch)
books_noted pace trace first_epoch daemon batch cpu cell books =
    let drain : Drained = drain_of (records_in trace) daemon batch in
    record {
      stands = record { within = books.stands.within; need = books.stands.need };
      epoch = books.epoch;
      drains = record {
        of_trace = all_push (IsOfTrace trace) daemon.drains drain books.drains.of_trace (cpu, cell);
        placed = all_push (IsPlaced (records_in trace) first_epoch) daemon.drains drain books.drains.placed
            (record { at = books.stands.within; epoch = books.epoch; known = refl });
        later = each_push (λ done d. AllOf (λ e. (e.at ≤ d.at) × (e.epoch ≤ d.epoch)) done) [] daemon.drains drain books.drains.later books.before;
      };
      before = all_push (IsBefore daemon) daemon.drains drain books.before (omega arith, omega arith);
    }

-- the next record is put in force
books_moved : (pace : Pace) (trace : Recording) (first_epoch : ℕ) (daemon : Daemon) (notice : Record) → slice_get (records_in trace) daemon.applied ≡ Some notice
    → KeepsBooks pace trace first_epoch daemon → KeepsBooks pace trace first_epoch (move daemon notice).daemon
books_moved pace trace first_epoch daemon notice there books =
    record {
      stands = record {
        within = omega (arith, slice_get_within (records_in trace) daemon.applied notice there);
        need = λ asks. absurd cc;
      };
      epoch = omega (arith, books.epoch, count_next begins_epoch (records_in trace) daemon.applied notice there);
      drains = books.drains;
      before = all_map (IsBefore daemon) (IsBefore (move daemon notice).daemon) (λ d h. (omega (arith, h.0), omega (arith, h.1))) daemon.drains books.before;
    }

-- a flush or the close is asked for
books_asked : (pace : Pace) (trace : Recording) (first_epoch : ℕ) (daemon : Daemon) → AsksInNeed pace (slice_get (records_in trace) daemon.applied)
    → KeepsBooks pace trace first_epoch daemon → KeepsBooks pace trace first_epoch (ask daemon).daemon
books_asked pace trace first_epoch daemon need books = record {
  stands = record { within = books.stands.within; need = λ asks. need };
  epoch = books.epoch;
  drains = books.drains;
  before = books.before;
}

books_begun : (pace : Pace) (trace : Recording) (first_epoch : ℕ) (daemon : Daemon) (next : Option Record) → slice_get (records_in trace) daemon.applied ≡ next
    → KeepsBooks pace trace first_epoch daemon → KeepsBooks pace trace first_epoch (begin pace daemon next).daemon
books_begun pace trace first_epoch daemon None there books =
    books_asked pace trace first_epoch daemon (subst (λ (n : Option Record). AsksInNeed pace n) (sym there) tt) books
books_begun pace trace first_epoch daemon (Some notice) there books =
    cond_both (needs_flush pace notice) (ask daemon) (move daemon notice) (λ (a : Advancing). KeepsBooks pace trace first_epoch a.daemon)
    (λ e. books_asked pace trace first_epoch daemon (subst (λ (n : Option Record). AsksInNeed pace n) (sym there) e) books)
    (λ e. books_moved pace trace first_epoch daemon notice there books)

books_settled : (pace : Pace) (trace : Recording) (first_epoch : ℕ) (daemon : Daemon) (next : Option Record) → slice_get (records_in trace) daemon.applied ≡ next
    → KeepsBooks pace trace first_epoch daemon → KeepsBooks pace trace first_epoch (settle daemon next).daemon
books_settled pace trace first_epoch daemon None there books = record {
  stands = record { within = books.stands.within; need = books.stands.need };
  epoch = books.epoch;
  drains = books.drains;
  before = books.before;
}
books_settled pace trace first_epoch daemon (Some notice) there books = books_moved pace trace first_epoch daemon notice there books

books_gone_on : (pace : Pace) (trace : Recording) (first_epoch : ℕ) (daemon : Daemon) (waiting : Option ℕ)
    → KeepsBooks pace trace first_epoch daemon → KeepsBooks pace trace first_epoch (go_on (records_in trace) daemon waiting).daemon
books_gone_on pace trace first_epoch daemon None books = books_settled pace trace first_epoch daemon (slice_get (records_in trace) daemon.applied) refl books
books_gone_on pace trace first_epoch daemon (Some cpu) books = books

-- every advance
pub books_advanced : (pace : Pace) (trace : Recording) (first_epoch : ℕ) (daemon : Daemon) (fars : List FarSide) → KeepsBooks pace trace first_epoch daemon
    → KeepsBooks pace trace first_epoch (advance pace (records_in trace) fars daemon).daemon
books_advanced pace trace first_epoch daemon fars books =
    cond_both daemon.asking (go_on (records_in trace) daemon (first_waiting (flush_before daemon.applied) 0 fars)) (begin pace daemon (slice_get (records_in trace) daemon.applied))
    (λ (a : Advancing). KeepsBooks pace trace first_epoch a.daemon)
    (λ e. books_gone_on pace trace first_epoch daemon (first_waiting (flush_before daemon.applied) 0 fars) books)
    (λ e. books_begun pace trace first_epoch daemon (slice_get (records_in trace) daemon.applied) refl books)
