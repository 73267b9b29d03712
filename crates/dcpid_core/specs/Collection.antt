-- The daemon as contracts see it, and the sides that fit it.
use Rattle.std.specs.Prelude.{◌≡◌, ℕ, ◌+◌, false, List, [], ◌∷◌, length, map, replicate, Option, Some, None}
use Rattle.std.specs.List.{AllByRecursion}
use Rattle.sample_key.specs.declared.losses.Pace.{Pace}
use Rattle.trace_model.specs.Recording.{Recording}
use Rattle.trace_model.specs.Streams.{records_in, stream_of}
use Rattle.driver_model.specs.Sides.{Side}
use Rattle.driver_model.specs.Handover.{FarSide, side_called, far_rang}
use Rattle.database_model.specs.Runs.{Drained}
use Rattle.database_state.specs.Heads.{Head}
use Rattle.database_state.specs.declared.faults.DbFault.{DbFault}
use Rattle.lane_side.specs.Fixed.{Fixed}
use Rattle.lane_side.specs.Plain.{Plain}
use Rattle.lane_side.specs.Calls.{RingsEvenly}
use Rattle.run_model.specs.Daemon.{Daemon, new_daemon, rungs_of}
use Rattle.dcpid_core.specs.Flushes.{no_flush}
use Rattle.dcpid_core.specs.declared.flushes.Flush.{Flush}

-- the daemon with what it collects
pub record Collection : Type 0 where
  -- what never changes: the trace, the pace, the number of the run, and the epoch in which it began
  pub trace : Recording
  pub pace : Pace
  pub run : ℕ
  pub first_epoch : ℕ
  -- where it stands, with all drains of this run
  pub state : Daemon
  -- what it took of each processor
  pub flushes : List Flush
  -- how many parts were committed, and the drains of the one that is not
  pub part : ℕ
  pub noted : List Drained
  -- the head of its database
  pub head : Head
  -- the fault that it keeps
  pub failure : Option DbFault

-- a new daemon, with a database of this head
abbrev pub new_collection : Recording → Pace → Head → Collection
new_collection trace pace head = record {
  trace = trace;
  pace = pace;
  run = head.runs + 1;
  first_epoch = head.epoch;
  state = new_daemon head.epoch;
  flushes = replicate trace.cpus no_flush;
  part = 0;
  noted = [];
  head = head;
  failure = None;
}

-- The side of a processor fits the daemon: it has the processor's samples, the daemon holds none of its values, and it was rung
-- with the values that the daemon rang.
pub record IsFitting (daemon : Collection) (number : ℕ) (fixed : Fixed) (far : FarSide)
    : Type 0 where
  pub cpu : fixed.cpu ≡ number
  pub samples : fixed.samples ≡ stream_of number daemon.trace
  pub first : far.first.holds ≡ false
  pub second : far.second.holds ≡ false
  pub third : far.third.holds ≡ false
  pub rungs : far.rungs ≡ rungs_of daemon.pace (records_in daemon.trace) daemon.state

-- the sides of the processors from this one on fit the daemon
abbrev pub FitFrom : Collection → ℕ → List Plain → Type 0
FitFrom daemon number [] = Unit {0}
FitFrom daemon number (side ∷ sides) =
    IsFitting daemon number side.fixed side.far × FitFrom daemon (number + 1) sides

-- a side may be rung
abbrev pub MayRing : Plain → Type 0
MayRing side = RingsEvenly side.fixed.even side.seen side.far

-- There is one side for each processor, in order; it fits the daemon and may be rung.
pub record AreFitting (daemon : Collection) (sides : List Plain) : Type 0 where
  pub count : length sides ≡ daemon.trace.cpus
  pub each : FitFrom daemon 0 sides
  pub even : AllByRecursion MayRing sides

-- what the two traits of a side speak of, for each of these sides
abbrev pub views : {S : Type 0} → (S → Side) → (S → FarSide) → (S → Fixed) → List S → List Plain
views seen far fixed sides =
    map (λ side. record { seen = seen side; far = far side; fixed = fixed side }) sides

-- a side after its bell was rung with this value
abbrev pub rang : ℕ → Plain → Plain
rang value side = record {
  seen = side_called side.seen;
  far = far_rang side.far value side.seen.first.tries;
  fixed = side.fixed;
}

-- the sides after their bells were rung, if a value is to be rung
abbrev pub rang_if : Option ℕ → List Plain → List Plain
rang_if None sides = sides
rang_if (Some value) sides = map (rang value) sides
