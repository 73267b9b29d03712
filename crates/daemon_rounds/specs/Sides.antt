-- The daemon's sides between two rounds of polls, and before the first.
use Rattle.std.specs.Prelude.{◌≡◌, ℕ, ◌+◌, ◌≤◌, ◌==◌, if◌then◌else◌, true, List, [], ◌∷◌, slice_get, slice_set, Some, None}
use Rattle.std.specs.List.{AllByRecursion}
use Rattle.trace_model.specs.Recording.{Recording}
use Rattle.trace_model.specs.Streams.{stream_of}
use Rattle.driver_model.specs.Handover.{new_far}
use Rattle.driver_model.specs.Sides.{new_side}
use Rattle.lane_side.specs.Plain.{Plain}
use Rattle.run_model.specs.Daemon.{flush_before, is_flushed}
use Rattle.dcpid_core.specs.Collection.{MayRing}
use Rattle.dcpid_core.specs.Polling.{CellPollsEvenly}

-- Between two rounds: where the cells must be polled evenly, each was polled as often, and no ring came after these polls.
abbrev pub IsIdle : Plain → Type 0
IsIdle side = side.fixed.even ≡ true →
    (side.seen.second.tries ≡ side.seen.first.tries)
    × (side.seen.third.tries ≡ side.seen.first.tries)
    × (side.far.rung_at ≤ side.seen.first.tries)

-- so are all
abbrev pub AreIdle : List Plain → Type 0
AreIdle sides = AllByRecursion IsIdle sides

-- A poll of this cell: one try more of it and none of the others, and nothing was rung.
pub record IsTried (cell : ℕ) (before after : Plain) : Type 0 where
  pub fixed : after.fixed ≡ before.fixed
  pub tries0 : after.seen.first.tries
      ≡ before.seen.first.tries + (if cell == 0 then 1 else 0)
  pub tries1 : after.seen.second.tries
      ≡ before.seen.second.tries + (if cell == 1 then 1 else 0)
  pub tries2 : after.seen.third.tries
      ≡ before.seen.third.tries + (if cell == 2 then 1 else 0)
  pub rung_at : after.far.rung_at ≡ before.far.rung_at

-- So it was of the side at this place, and no other changed.
pub record IsTriedAt (cell place : ℕ) (before after : List Plain) : Type 0 where
  pub was : Plain
  pub side : Plain
  pub at : slice_get before place ≡ Some was
  pub set : after ≡ slice_set before place side
  pub tried : IsTried cell was side

-- The side at this place was idle and may be rung now, and no other changed.
pub record IsReadyAt (place : ℕ) (before after : List Plain) : Type 0 where
  pub side : Plain
  pub set : after ≡ slice_set before place side
  pub ready : MayRing side

-- the side at this place is idle
abbrev pub IsIdleAt : ℕ → List Plain → Type 0
IsIdleAt place sides = (side : Plain) × (slice_get sides place ≡ Some side) × IsIdle side

-- where the cells must be polled evenly, this cell of the side at this place is not ahead of the others
abbrev pub MayPollAt : ℕ → ℕ → List Plain → Type 0
MayPollAt cell place sides = (side : Plain) × (slice_get sides place ≡ Some side)
    × CellPollsEvenly cell side.fixed side.seen

-- Nothing was handed, taken, rung or polled of the side of this processor.
pub record IsNew (trace : Recording) (cpu : ℕ) (side : Plain) : Type 0 where
  pub cpu_is : side.fixed.cpu ≡ cpu
  pub samples : side.fixed.samples ≡ stream_of cpu trace
  pub seen : side.seen ≡ new_side None trace.buckets trace.buffer
  pub far : side.far ≡ new_far None

-- so it is of all, numbered from here on
abbrev pub AreNew : Recording → ℕ → List Plain → Type 0
AreNew trace cpu [] = Unit {0}
AreNew trace cpu (side ∷ sides) = IsNew trace cpu side × AreNew trace (cpu + 1) sides

-- the flush before the next record, or the close, was found complete
abbrev pub IsFlushedSide : ℕ → Plain → Type 0
IsFlushedSide applied side = is_flushed (flush_before applied) side.far ≡ true
