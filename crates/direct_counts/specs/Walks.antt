-- A walk over the lines of a trace, in the middle.
use Rattle.std.specs.Prelude.{◌≡◌, ℕ, ◌+◌, ◌^◌, ◌<◌, ◌≤◌, true, List, ◌∷◌, ◌++◌, length, map, reverse}
use Rattle.std.specs.List.{count_by}
use Rattle.load_map.specs.declared.maps.LoadMap.{LoadMap}
use Rattle.load_map.specs.Maps.{StandsFor}
use Rattle.trace_model.specs.declared.notices.Line.{Line}
use Rattle.trace_model.specs.declared.notices.Record.{Record}
use Rattle.trace_model.specs.declared.recordings.Trace.{Trace}
use Rattle.trace_model.specs.Attribution.{own_place, kernel_place}
use Rattle.trace_model.specs.declared.counts.Counts.{Counts}
use Rattle.trace_model.specs.Counting.{AreCountsOf, Row, Spot, spots_from, spots_in}
use Rattle.trace_model.specs.Listed.{rows_of}
use Rattle.trace_model.specs.Parts.{epoch_after}
use Rattle.trace_model.specs.Recording.{HasImage, are_good, line_said}
use Rattle.trace_model.specs.Said.{Said, is_part_end}
use Rattle.trace_model.specs.Traces.{recording_of}
use Rattle.direct_counts.specs.declared.sites.Site.{Site}
use Rattle.direct_counts.specs.declared.walks.Walk.{Walk}
use Rattle.direct_counts.specs.Ranks.{AreRanks}
use Rattle.direct_counts.specs.Sites.{Tallies}

-- a walk whose lines that are left are these: what it holds is what the lines before them make of it, and with what is
-- left it comes to all spots
pub record Walks (images names : List (List ℕ)) (ranks : List ℕ) (mappings : LoadMap) (epoch : ℕ) (entries : List (Site × ℕ)) (all : List Spot) (left : List Line) : Type 0 where
  pub before : List (Said ℕ)
  pub rest : List (Said ℕ)
  pub records : List Record
  pub done : List Spot
  pub are_ranks : AreRanks images names ranks
  pub good : are_good before (map (line_said images) left ++ rest) ≡ true
  pub stands : StandsFor mappings records
  pub own : (pid pc : ℕ) → HasImage images (own_place (reverse records) pid pc)
  pub kernel : (pc : ℕ) → HasImage images (kernel_place (reverse records) pc)
  pub epoch_is : epoch ≡ epoch_after 0 records
  pub epochs : epoch ≤ count_by is_part_end before
  pub tallied : Tallies names entries done
  pub whole : all ≡ done ++ spots_from 0 images records left
  pub short : length done + length left < 2 ^ 64

-- the same of a walk as it stands
abbrev pub IsWalk : List (List ℕ) → Walk → List Spot → List Line → Type 0
IsWalk images walk all left = Walks images walk.ranking.now.names.items walk.ranking.now.ranks.items walk.mappings walk.epoch walk.counts.entries all left

-- the line is the next one of some walk
abbrev pub CanTake : Walk → Line → Type 0
CanTake walk line = (images : List (List ℕ)) × (all : List Spot) × (left : List Line) × IsWalk images walk all (line ∷ left)

-- the line was taken: whatever the walk, it goes on behind the line, with the same ranking
abbrev pub Takes : Walk → Line → Walk → Type 0
Takes before line after = (images : List (List ℕ)) (all : List Spot) (left : List Line) → IsWalk images before all (line ∷ left) → (after.ranking.now ≡ before.ranking.now) × IsWalk images after all left

-- a table that counts the samples of a trace
abbrev pub TalliesTrace : List (List ℕ) → List (Site × ℕ) → Trace → Type 0
TalliesTrace names entries trace = Tallies names entries (spots_in (recording_of trace) 0)

-- counts that list each place at which samples of a trace lie, with the number of samples there, in epochs from 0
abbrev pub CountsSamples : Trace → Counts → Type 0
CountsSamples trace counts = AreCountsOf (rows_of counts) (spots_in (recording_of trace) 0)

-- two lists that count the same samples are equal
abbrev pub HaveOneListing : Type 0
HaveOneListing = (first second : List Row) (spots : List Spot) → AreCountsOf first spots → AreCountsOf second spots → first ≡ second
