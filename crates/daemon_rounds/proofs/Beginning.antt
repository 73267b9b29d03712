-- What a new daemon knows of new sides.
use Rattle.std.proofs.Common.{arith, refl, sym, ◌∙◌, ap, subst, ℕ, ◌+◌, List, [], ◌∷◌, length, None}
use Rattle.std.specs.Prelude.{replicate}
use Rattle.sample_key.specs.declared.losses.Pace.{Pace}
use Rattle.trace_model.specs.Recording.{Recording}
use Rattle.trace_model.specs.Streams.{records_in}
use Rattle.driver_model.specs.Sides.{Side}
use Rattle.driver_model.specs.Handover.{FarSide}
use Rattle.database_state.specs.Heads.{Head}
use Rattle.lane_side.specs.Plain.{Plain}
use Rattle.run_model.specs.Daemon.{flush_before, new_daemon}
use Rattle.run_joins.specs.Collecting.{BooksAreKept, Collects, DaemonsCollect}
use Rattle.dcpid_core.specs.Collection.{FitFrom, new_collection}
use Rattle.dcpid_core.specs.Counting.{Agree, Agrees, CountsAgree, fars_in}
use Rattle.dcpid_core.specs.Flushes.{no_flush}
use Rattle.daemon_rounds.specs.Beginning.{NewDaemonsKnow}
use Rattle.daemon_rounds.specs.Knowing.{KnowsFrom}
use Rattle.daemon_rounds.specs.Sides.{AreIdle, AreNew}

fits_new : (pace : Pace) (trace : Recording) (head : Head) (cpu : ℕ) (sides : List Plain) → AreNew trace cpu sides → FitFrom (new_collection trace pace head) cpu sides
fits_new pace trace head cpu [] all = tt
fits_new pace trace head cpu (side ∷ sides) all = (
  record {
    cpu = all.0.cpu_is;
    samples = all.0.samples;
    first = ap (λ (f : FarSide). f.first.holds) all.0.far;
    second = ap (λ (f : FarSide). f.second.holds) all.0.far;
    third = ap (λ (f : FarSide). f.third.holds) all.0.far;
    rungs = ap (λ (f : FarSide). f.rungs) all.0.far;
  },
  fits_new pace trace head (cpu + 1) sides all.1,
)

agree_new : CountsAgree → (trace : Recording) (cpu : ℕ) (sides : List Plain) → AreNew trace cpu sides → Agree (flush_before 0) (replicate (length sides) no_flush) (fars_in sides)
agree_new laws trace cpu [] all = tt
agree_new laws trace cpu (side ∷ sides) all =
    (subst (λ (f : FarSide). Agrees (flush_before 0) no_flush f) (sym all.0.far) (laws.starts 0 None), agree_new laws trace (cpu + 1) sides all.1)

knows_new : DaemonsCollect → (pace : Pace) (trace : Recording) (first : ℕ) (cpu : ℕ) (sides : List Plain) → AreNew trace cpu sides → KnowsFrom pace trace cpu (new_daemon first) None sides
knows_new laws pace trace first cpu [] all = tt
knows_new laws pace trace first cpu (side ∷ sides) all = (
  record {
    collects = subst (λ (f : FarSide). Collects pace (records_in trace) (new_daemon first) [] [] [] f) (sym all.0.far) (laws.begins pace (records_in trace) first None);
    due0 = tt;
    due1 = tt;
    due2 = tt;
  },
  knows_new laws pace trace first (cpu + 1) sides all.1,
)

idle_new : (trace : Recording) (cpu : ℕ) (sides : List Plain) → AreNew trace cpu sides → AreIdle sides
idle_new trace cpu [] all = tt
idle_new trace cpu (side ∷ sides) all =
    let first = ap (λ (v : Side). v.first.tries) all.0.seen in
    let second = ap (λ (v : Side). v.second.tries) all.0.seen in
    let third = ap (λ (v : Side). v.third.tries) all.0.seen in
    let rung = ap (λ (f : FarSide). f.rung_at) all.0.far in
    ((λ even. (second ∙ sym first, third ∙ sym first, omega (arith, rung))), idle_new trace (cpu + 1) sides all.1)

pub begins : BooksAreKept → DaemonsCollect → CountsAgree → NewDaemonsKnow
begins books collects counts = λ pace trace head sides few count all. (
  record {
    trace_is = refl;
    pace_is = refl;
    run_is = refl;
    first_is = refl;
    same = λ none. refl;
    well = (books.begins pace trace head.epoch).stands;
    books = books.begins pace trace head.epoch;
    parts = record { part = λ none. refl; noted = λ none. refl };
    few = few;
    count = count;
    fits = fits_new pace trace head 0 sides all;
    counts = subst (λ (n : ℕ). Agree (flush_before 0) (replicate n no_flush) (fars_in sides)) count (agree_new counts trace 0 sides all);
    each = knows_new collects pace trace head.epoch 0 sides all;
  },
  idle_new trace 0 sides all,
)
