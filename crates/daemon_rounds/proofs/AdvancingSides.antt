-- What an advance leaves of the sides, and of what the daemon knows of each.
use Rattle.std.proofs.Common.{arith, ◌≡◌, ℕ, ◌+◌, refl, sym, ◌∙◌, ap, subst, Bool, true, List, [], ◌∷◌, map, append-nil, Option, Some, None}
use Rattle.std.specs.Prelude.{slice_get}
use Rattle.std.specs.List.{AllByRecursion}
use Rattle.sample_key.specs.declared.losses.Pace.{Pace}
use Rattle.trace_model.specs.Recording.{Recording}
use Rattle.trace_model.specs.Streams.{records_in}
use Rattle.trace_model.specs.declared.notices.Record.{Record}
use Rattle.driver_model.specs.Sides.{Side}
use Rattle.driver_model.specs.Handover.{FarSide}
use Rattle.database_state.specs.declared.faults.DbFault.{DbFault}
use Rattle.lane_side.specs.Fixed.{Fixed}
use Rattle.lane_side.specs.Plain.{Plain}
use Rattle.run_model.specs.Daemon.{Advancing, Daemon, flush_before, move, needs_flush}
use Rattle.run_joins.specs.Collecting.{DaemonsCollect}
use Rattle.dcpid_core.specs.Collection.{MayRing, rang, rang_if, views}
use Rattle.dcpid_core.specs.Counting.{fars_in}
use Rattle.replay_drive.proofs.AdvanceStands.{Kind, Moves, Waits, Ends, Asks}
use Rattle.daemon_rounds.specs.Knowing.{IsCollected, KnowsFrom, KnowsOf}
use Rattle.daemon_rounds.specs.Sides.{AreIdle, IsFlushedSide}
use Rattle.daemon_rounds.proofs.Advancing.{AreFlushed, GoesRight}

-- ---- the sides

idle_rang : (value : ℕ) (sides : List Plain) → AllByRecursion MayRing sides → AreIdle (map (rang value) sides)
idle_rang value [] all = tt
idle_rang value (side ∷ sides) all =
    (λ even. let r = all.0 even in (sym r.0, sym r.1 ∙ sym r.0, omega arith), idle_rang value sides all.1)

idle_still : (sides : List Plain) → AllByRecursion MayRing sides → AreIdle sides
idle_still [] all = tt
idle_still (side ∷ sides) all =
    (λ even. let r = all.0 even in (sym r.0, sym r.1 ∙ sym r.0, omega (arith, r.2)), idle_still sides all.1)

-- after an advance they are idle
pub idle_rang_if : (ring : Option ℕ) (sides : List Plain) → AllByRecursion MayRing sides → AreIdle (rang_if ring sides)
idle_rang_if None sides all = idle_still sides all
idle_rang_if (Some value) sides all = idle_rang value sides all

-- where the flush of all is complete
pub flushed_sides : (applied : ℕ) (sides : List Plain) → AreFlushed (flush_before applied) (fars_in sides) → AllByRecursion (IsFlushedSide applied) sides
flushed_sides applied [] all = tt
flushed_sides applied (side ∷ sides) all = (all.0, flushed_sides applied sides all.1)

-- what no call changes stays
fixed_rang_if : (ring : Option ℕ) (sides : List Plain) → map (λ (s : Plain). s.fixed) (rang_if ring sides) ≡ map (λ (s : Plain). s.fixed) sides
fixed_rang_if None sides = refl
fixed_rang_if (Some value) sides = rung sides
  where
    rung : (sides : List Plain) → map (λ (s : Plain). s.fixed) (map (rang value) sides) ≡ map (λ (s : Plain). s.fixed) sides
    rung [] = refl
    rung (side ∷ sides) = ap {B = List Fixed} (λ z. side.fixed ∷ z) (rung sides)

fixed_in : {S : Type 0} (seen : S → Side) (far : S → FarSide) (fixed : S → Fixed) (sides : List S) → map (λ (s : Plain). s.fixed) (views seen far fixed sides) ≡ map fixed sides
fixed_in seen far fixed [] = refl
fixed_in seen far fixed (side ∷ sides) = ap {B = List Fixed} (λ z. fixed side ∷ z) (fixed_in seen far fixed sides)

pub fixed_stays : {S : Type 0} (seen : S → Side) (far : S → FarSide) (fixed : S → Fixed) (ring : Option ℕ) (before after : List S)
    → views seen far fixed after ≡ rang_if ring (views seen far fixed before) → map fixed after ≡ map fixed before
fixed_stays seen far fixed ring before after rings =
    sym (fixed_in seen far fixed after) ∙ ap (map (λ (s : Plain). s.fixed)) rings ∙ fixed_rang_if ring (views seen far fixed before) ∙ fixed_in seen far fixed before

-- ---- what the daemon knows of each

-- a daemon that stands there with the same drains
collected_as : (pace : Pace) (trace : Recording) (cpu : ℕ) (until : Daemon) (asking : Bool) (epoch : ℕ) (finished : Bool) (far : FarSide)
    → IsCollected pace trace cpu until far → IsCollected pace trace cpu (record until { asking = asking; epoch = epoch; finished = finished }) far
collected_as pace trace cpu until asking epoch finished far is = record {
  collects = record {
    taken0 = is.collects.taken0;
    taken1 = is.collects.taken1;
    taken2 = is.collects.taken2;
    before0 = is.collects.before0;
    before1 = is.collects.before1;
    before2 = is.collects.before2;
    collected = is.collects.collected;
  };
  due0 = is.due0;
  due1 = is.due1;
  due2 = is.due2;
}

each_as : (pace : Pace) (trace : Recording) (cpu : ℕ) (until : Daemon) (asking : Bool) (epoch : ℕ) (finished : Bool) (sides : List Plain)
    → KnowsFrom pace trace cpu until None sides → KnowsFrom pace trace cpu (record until { asking = asking; epoch = epoch; finished = finished }) None sides
each_as pace trace cpu until asking epoch finished [] each = tt
each_as pace trace cpu until asking epoch finished (side ∷ sides) each =
    (collected_as pace trace cpu until asking epoch finished side.far each.0, each_as pace trace (cpu + 1) until asking epoch finished sides each.1)

-- the next record was put in force
each_moved : DaemonsCollect → (pace : Pace) (trace : Recording) (cpu : ℕ) (until : Daemon) (notice : Record) (sides : List Plain) → slice_get (records_in trace) until.applied ≡ Some notice
    → (needs_flush pace notice ≡ true → AreFlushed (flush_before until.applied) (fars_in sides)) → KnowsFrom pace trace cpu until None sides → KnowsFrom pace trace cpu (move until notice).daemon None sides
each_moved laws pace trace cpu until notice [] there all each = tt
each_moved laws pace trace cpu until notice (side ∷ sides) there all each = (
  record {
    collects = laws.moved pace (records_in trace) until notice _ _ _ side.far there (λ needs. (all needs).0) each.0.collects;
    due0 = each.0.due0;
    due1 = each.0.due1;
    due2 = each.0.due2;
  },
  each_moved laws pace trace (cpu + 1) until notice sides there (λ needs. (all needs).1) each.1,
)

-- the bells were rung
collected_rang : (pace : Pace) (trace : Recording) (cpu : ℕ) (until : Daemon) (value : ℕ) (side : Plain) → IsCollected pace trace cpu until side.far → IsCollected pace trace cpu until (rang value side).far
collected_rang pace trace cpu until value side is = record {
  collects = record {
    taken0 = is.collects.taken0;
    taken1 = is.collects.taken1;
    taken2 = is.collects.taken2;
    before0 = is.collects.before0;
    before1 = is.collects.before1;
    before2 = is.collects.before2;
    collected = is.collects.collected;
  };
  due0 = is.due0;
  due1 = is.due1;
  due2 = is.due2;
}

known_rang : (pace : Pace) (trace : Recording) (cpu : ℕ) (until : Daemon) (failure : Option DbFault) (value : ℕ) (side : Plain) → KnowsOf pace trace cpu until failure side.far → KnowsOf pace trace cpu until failure (rang value side).far
known_rang pace trace cpu until None value side is = collected_rang pace trace cpu until value side is
known_rang pace trace cpu until (Some fault) value side was =
    record { then = was.then; collected = was.collected; first = was.first; second = was.second; third = was.third }

each_rang : (pace : Pace) (trace : Recording) (cpu : ℕ) (until : Daemon) (failure : Option DbFault) (value : ℕ) (sides : List Plain)
    → KnowsFrom pace trace cpu until failure sides → KnowsFrom pace trace cpu until failure (map (rang value) sides)
each_rang pace trace cpu until failure value [] each = tt
each_rang pace trace cpu until failure value (side ∷ sides) each =
    (known_rang pace trace cpu until failure value side each.0, each_rang pace trace (cpu + 1) until failure value sides each.1)

pub each_rang_if : (pace : Pace) (trace : Recording) (cpu : ℕ) (until : Daemon) (failure : Option DbFault) (ring : Option ℕ) (sides : List Plain)
    → KnowsFrom pace trace cpu until failure sides → KnowsFrom pace trace cpu until failure (rang_if ring sides)
each_rang_if pace trace cpu until failure None sides each = each
each_rang_if pace trace cpu until failure (Some value) sides each = each_rang pace trace cpu until failure value sides each

-- a fault may be kept from now on
known_kept : (pace : Pace) (trace : Recording) (cpu : ℕ) (until : Daemon) (failure : Option DbFault) (far : FarSide) → IsCollected pace trace cpu until far → KnowsOf pace trace cpu until failure far
known_kept pace trace cpu until None far is = is
known_kept pace trace cpu until (Some fault) far is =
    record { then = far; collected = is; first = ([], append-nil far.first.taken); second = ([], append-nil far.second.taken); third = ([], append-nil far.third.taken) }

pub each_kept : (pace : Pace) (trace : Recording) (cpu : ℕ) (until : Daemon) (failure : Option DbFault) (sides : List Plain) → KnowsFrom pace trace cpu until None sides → KnowsFrom pace trace cpu until failure sides
each_kept pace trace cpu until failure [] each = tt
each_kept pace trace cpu until failure (side ∷ sides) each = (known_kept pace trace cpu until failure side.far each.0, each_kept pace trace (cpu + 1) until failure sides each.1)

-- which fault is kept is the same
pub each_still : (pace : Pace) (trace : Recording) (cpu : ℕ) (until : Daemon) (was now : Option DbFault) (sides : List Plain) → now ≡ was → KnowsFrom pace trace cpu until was sides → KnowsFrom pace trace cpu until now sides
each_still pace trace cpu until was now sides same each = subst (λ (o : Option DbFault). KnowsFrom pace trace cpu until o sides) (sym same) each

-- what an advance does
pub each_done : DaemonsCollect → (pace : Pace) (trace : Recording) (d : Daemon) (done : Advancing) (sides : List Plain) → Kind pace (records_in trace) d done → GoesRight pace (records_in trace) (fars_in sides) d done
    → KnowsFrom pace trace 0 d None sides → KnowsFrom pace trace 0 done.daemon None sides
each_done laws pace trace d done sides (Waits same ring answer) right each = subst (λ (z : Daemon). KnowsFrom pace trace 0 z None sides) (sym same) each
each_done laws pace trace d done sides (Ends same ring answer) right each =
    subst (λ (z : Daemon). KnowsFrom pace trace 0 z None sides) (sym same) (each_as pace trace 0 d d.asking d.epoch true sides each)
each_done laws pace trace d done sides (Asks was same ring answer) right each =
    subst (λ (z : Daemon). KnowsFrom pace trace 0 z None sides) (sym same) (each_as pace trace 0 d true d.epoch d.finished sides each)
each_done laws pace trace d done sides (Moves notice there needs same ring answer) right each =
    subst (λ (z : Daemon). KnowsFrom pace trace 0 z None sides) (sym same) (each_moved laws pace trace 0 d notice sides there (right.moved answer.0 notice there) each)
