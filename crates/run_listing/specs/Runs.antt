-- The runs of a database: the record of a run joined of its segments.
use Rattle.std.specs.Prelude.{ℕ, ◌==◌, Bool, true, if◌then◌else◌, List, [], ◌∷◌, filter, None, Some, ◌≡◌, ◌+◌, ◌<◌, ◌≤◌, false, length, slice_index_or}
use Rattle.std.specs.declared.option.Option.{Option}
use Rattle.std.specs.List.{fold, flat_map}
use Rattle.sample_key.specs.declared.losses.Loss.{Loss}
use Rattle.database_model.specs.Runs.{Segment, Recorded}

-- the segments that are not bad
abbrev pub readable : List (Option Segment) → List Segment
readable [] = []
readable (None ∷ segments) = readable segments
readable (Some s ∷ segments) = s ∷ readable segments

-- the number of the last run
abbrev pub last_run : List Segment → ℕ
last_run segments = fold (λ before s. s.run) 0 segments

-- the parts of a run, in their order
abbrev pub parts_of : ℕ → List Segment → List Segment
parts_of run segments = filter (λ s. s.run == run) segments

-- the epoch in which part 0 says that the run began
abbrev pub first_epoch_of : List Segment → ℕ
first_epoch_of parts = fold (λ before s. if s.part == 0 then s.first_epoch else before) 0 parts

-- the losses of the last of the parts
abbrev pub losses_of : List Segment → List (List Loss)
losses_of parts = fold (λ before s. s.losses) [] parts

-- the last of the parts is the run's last
abbrev pub is_whole : List Segment → Bool
is_whole parts = fold (λ before s. s.last) true parts

-- the record of a run of these parts
abbrev pub joined : ℕ → List Segment → Recorded
joined run parts = record {
  run = run;
  first_epoch = first_epoch_of parts;
  drains = flat_map (λ s. s.drains) parts;
  losses = losses_of parts;
}

-- The parts of a run stand in their order: part k is the k-th, from 0, and none but the last of them is the run's last.
pub record AreInOrder (parts : List Segment) : Type 0 where
  pub numbered : (k : ℕ) (d : Segment) → k < length parts → (slice_index_or parts k d).part ≡ k
  pub one_end : (k : ℕ) (d : Segment) → k + 1 < length parts → (slice_index_or parts k d).last ≡ false

-- Segments are those of runs 1 up to the last one, each of which has parts in their order.
pub record AreRuns (segments : List Segment) : Type 0 where
  pub each : (run : ℕ) → 1 ≤ run → run ≤ last_run segments → 0 < length (parts_of run segments)
  pub parts : (run : ℕ) → AreInOrder (parts_of run segments)
  pub none : parts_of 0 segments ≡ []
  pub above : (run : ℕ) → last_run segments < run → parts_of run segments ≡ []
