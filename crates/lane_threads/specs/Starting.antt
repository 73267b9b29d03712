-- The lane and both sides of a processor of a trace before the first step.
use Rattle.std.specs.Prelude.{◌≡◌, ℕ, ◌+◌, None, List, [], ◌∷◌}
use Rattle.sample_key.specs.declared.losses.Pace.{Pace}
use Rattle.trace_model.specs.Recording.{Recording}
use Rattle.trace_model.specs.Streams.{stream_of}
use Rattle.driver_model.specs.Sides.{new_side}
use Rattle.driver_model.specs.Handover.{new_far}
use Rattle.run_model.specs.Running.{setup_of}
use Rattle.run_closes.specs.Closes.{WasHandedOver}
use Rattle.shared_side.specs.Shown.{Shown}
use Rattle.lane_threads.specs.Working.{Working, IsWorking}

-- A work and the daemon's side are two ends of the same cells and bell.
abbrev pub AreEndsOfOne : Working → Shown → Type 0
AreEndsOfOne work daemon = work.side.fixed.ends ≡ daemon.fixed.ends

-- The daemon's side of this processor, of which nothing was handed, taken, rung or polled.
pub record IsNewSide (trace : Recording) (cpu : ℕ) (daemon : Shown) : Type 0 where
  pub cpu_is : daemon.fixed.cpu ≡ cpu
  pub samples : daemon.fixed.samples ≡ stream_of cpu trace
  pub seen : daemon.seen ≡ new_side None trace.buckets trace.buffer
  pub far : daemon.far ≡ new_far None

-- The lane and its side, and the daemon's side, of this processor at the start.
pub record StartsAt (pace : Pace) (trace : Recording) (cpu : ℕ) (work : Working) (daemon : Shown)
    : Type 0 where
  pub setup : work.lane.setup ≡ setup_of pace trace cpu
  pub buckets : work.side.seen.buckets ≡ trace.buckets
  pub daemons : IsNewSide trace cpu daemon
  pub ends : AreEndsOfOne work daemon

-- so are all, by number, from this one on
abbrev pub AllStart : Pace → Recording → ℕ → List Working → List Shown → Type 0
AllStart pace trace cpu [] [] = Unit {0}
AllStart pace trace cpu [] (daemon ∷ daemons) = ⊥
AllStart pace trace cpu (work ∷ works) [] = ⊥
AllStart pace trace cpu (work ∷ works) (daemon ∷ daemons) =
    StartsAt pace trace cpu work daemon × AllStart pace trace (cpu + 1) works daemons

-- The three cells between a work and the daemon's side were closed, and met the handover; the
-- driver's invariant holds.
pub record WereClosed (work : Working) (daemon : Shown) : Type 0 where
  pub first : WasHandedOver work.side.seen.first daemon.far.first
  pub second : WasHandedOver work.side.seen.second daemon.far.second
  pub third : WasHandedOver work.side.seen.third daemon.far.third
  pub working : IsWorking work.lane work.side
