-- In which order the segments of a database stand, and the first that is bad or out of it.
use Rattle.std.specs.Prelude.{ℕ, ◌+◌, ◌==◌, ◌&&◌, ◌||◌, not, Bool, true, if◌then◌else◌, List, [], ◌∷◌, None, Some}
use Rattle.std.specs.declared.option.Option.{Option}
use Rattle.store_io.specs.declared.file_refs.FileRef.{FileRef}
use Rattle.store_io.specs.declared.file_refs.FileRef.TheVariants as files
use Rattle.database_model.specs.Runs.{Segment}

-- how far a run has come: how many of its parts there are, and whether the last of them is the run's last
pub record Reached : Type 0 where
  pub run : ℕ
  pub parts : ℕ
  pub whole : Bool

-- before the first segment, as if a run 0 had come to its end
abbrev pub no_run : Reached
no_run = record { run = 0; parts = 0; whole = true }

-- how far its run has come with a segment
abbrev pub reached : Segment → Reached
reached s = record { run = s.run; parts = s.part + 1; whole = s.last }

-- the segment is the next part of the run
abbrev pub goes_on : Reached → Segment → Bool
goes_on before s = s.run == before.run && s.part == before.parts && not before.whole

-- the segment is the first part of the next run
abbrev pub begins_next : Reached → Segment → Bool
begins_next before s = s.run == before.run + 1 && s.part == 0

-- the segment is in order
abbrev pub follows : Reached → Segment → Bool
follows before s = goes_on before s || begins_next before s

-- the file of the first segment, from generation g on, that is bad, or neither goes on with the run before it nor begins the next one
abbrev pub first_bad_from : Reached → ℕ → List (Option Segment) → Option FileRef
first_bad_from before g [] = None
first_bad_from before g (None ∷ segments) = Some (files.Segment g)
first_bad_from before g (Some s ∷ segments) =
    if follows before s then first_bad_from (reached s) (g + 1) segments else Some (files.Segment g)

-- the same of all segments of a database, of which the first is of generation 1
abbrev pub first_bad : List (Option Segment) → Option FileRef
first_bad segments = first_bad_from no_run 1 segments
