-- The drivers of all processors with their plain sides, as the processors of a run.
use Rattle.std.specs.Prelude.{◌≡◌, ℕ, ◌+◌, false, length, slice_get, map, List, [], ◌∷◌, Some}
use Rattle.std.specs.List.{range_with_len}
use Rattle.sample_key.specs.declared.losses.Pace.{Pace}
use Rattle.trace_model.specs.Recording.{Recording}
use Rattle.trace_model.specs.Streams.{stream_of, records_in}
use Rattle.driver_model.specs.Handover.{FarSide}
use Rattle.lane_side.specs.Fixed.{Fixed, plain_fixed}
use Rattle.lane_side.specs.Plain.{Plain}
use Rattle.cpu_lane.specs.Seen.{Seen}
use Rattle.cpu_lane.specs.Runs.{Runs}
use Rattle.run_model.specs.Daemon.{Daemon}
use Rattle.run_model.specs.Running.{Processor, System, setup_of, new_processor, counts_of, after_turn}

-- a lane and its side, as a processor of a run
abbrev pub processor_of : Seen → Plain → Processor
processor_of lane side = record { driver = lane.driver; side = side.seen; far = side.far }

-- lanes and their sides, as the processors of a run
abbrev pub processors_of : List Seen → List Plain → List Processor
processors_of [] sides = []
processors_of (lane ∷ lanes) [] = []
processors_of (lane ∷ lanes) (side ∷ sides) =
    processor_of lane side ∷ processors_of lanes sides

-- what a turn leaves of a side: the daemon's half, and what no call changes
pub record DaemonsHalf : Type 0 where
  pub far : FarSide
  pub fixed : Fixed

abbrev pub half_of : Plain → DaemonsHalf
half_of side = record { far = side.far; fixed = side.fixed }

-- all that the daemon took was given back, and it holds nothing
pub record IsGivenBack (far : FarSide) : Type 0 where
  pub given : far.given ≡ Some (counts_of far)
  pub free0 : far.first.holds ≡ false
  pub free1 : far.second.holds ≡ false
  pub free2 : far.third.holds ≡ false

-- a lane and its side are those of this processor of a trace, between two steps
pub record IsPlayer (pace : Pace) (trace : Recording) (cpu : ℕ) (lane : Seen) (side : Plain)
    : Type 0 where
  pub setup : lane.setup ≡ setup_of pace trace cpu
  pub runs : Runs (length (records_in trace) + 1) lane side.seen side.far side.fixed
  pub fixed : side.fixed ≡ plain_fixed cpu (stream_of cpu trace)
  pub back : IsGivenBack side.far

-- so are all, numbered from here on
abbrev pub ArePlayers : Pace → Recording → ℕ → List Seen → List Plain → Type 0
ArePlayers pace trace cpu [] [] = Unit {0}
ArePlayers pace trace cpu [] (side ∷ sides) = ⊥
ArePlayers pace trace cpu (lane ∷ lanes) [] = ⊥
ArePlayers pace trace cpu (lane ∷ lanes) (side ∷ sides) =
    IsPlayer pace trace cpu lane side × ArePlayers pace trace (cpu + 1) lanes sides

-- lanes, their sides and the daemon, as a run
abbrev pub system_of : Daemon → List Seen → List Plain → System
system_of daemon lanes sides =
    record { processors = processors_of lanes sides; daemon = daemon }

-- a run after a turn of the driver of this processor
abbrev pub turned_at : Pace → Recording → System → ℕ → System
turned_at pace trace system cpu =
    after_turn pace trace system cpu (slice_get system.processors cpu)

-- a lane and its side are those of this processor at the start
pub record StartsAt (pace : Pace) (trace : Recording) (cpu : ℕ) (lane : Seen) (side : Plain)
    : Type 0 where
  pub player : IsPlayer pace trace cpu lane side
  pub new : processor_of lane side ≡ new_processor trace cpu

-- so many lanes and sides are those of the first processors at the start
pub record AllStart (pace : Pace) (trace : Recording) (count : ℕ) (lanes : List Seen)
    (sides : List Plain) : Type 0 where
  pub players : ArePlayers pace trace 0 lanes sides
  pub new : processors_of lanes sides ≡ map (new_processor trace) (range_with_len 0 count)
