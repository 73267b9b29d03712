-- What a load map answers, and which records it stands for.
use Rattle.std.specs.Prelude.{◌≡◌, ℕ, ◌+◌, ◌==◌, true, List, [], ◌∷◌, ◌++◌, reverse, unwrap_or, if◌then◌else◌}
use Rattle.std.specs.declared.option.Option.{Option}
use Rattle.std.specs.declared.option.Option.TheVariants.{Some, None}
use Rattle.std.specs.Ordering.{nat_cmp}
use Rattle.std.specs.BTreeMap.{get}
use Rattle.std.specs.List.{Contains}
use Rattle.trace_model.specs.declared.notices.Record.{Record}
use Rattle.trace_model.specs.declared.notices.Place.{Place}
use Rattle.trace_model.specs.Attribution.{own_place, kernel_place, place_after}
use Rattle.load_map.specs.declared.maps.LoadMap.{LoadMap}
use Rattle.load_map.specs.declared.ranges.Range.{Range}
use Rattle.load_map.specs.Ranges.{place_in, place_at, is_covered, IsCoveredIn}

-- the ranges of a process, none where it has no mapping
abbrev pub ranges_of : LoadMap → ℕ → List Range
ranges_of map pid = unwrap_or (get nat_cmp map.processes pid) []

-- where the map finds an address among the mappings of the process
abbrev pub own_of : LoadMap → ℕ → ℕ → Option Place
own_of map pid pc = place_in (ranges_of map pid) pc

-- where the map finds an address among the mappings of the kernel
abbrev pub kernel_of : LoadMap → ℕ → Option Place
kernel_of map pc = place_in map.kernel pc

-- the map answers as these records, in the order of the trace: for each process, and for the kernel
pub record StandsFor (map : LoadMap) (records : List Record) : Type 0 where
  pub own : (pid pc : ℕ) → own_of map pid pc ≡ own_place (reverse records) pid pc
  pub kernel : (pc : ℕ) → kernel_of map pc ≡ kernel_place (reverse records) pc

-- the second map stands for all that the first stands for
abbrev pub StandsAs : LoadMap → LoadMap → Type 0
StandsAs before after = (records : List Record) → StandsFor before records → StandsFor after records

-- the second map stands for all that the first stands for, and one record more
abbrev pub Applies : LoadMap → Record → LoadMap → Type 0
Applies before entry after = (records : List Record) → StandsFor before records → StandsFor after (records ++ entry ∷ [])

-- the place that the records give an address, whichever the map stands for
abbrev pub Finds : LoadMap → ℕ → ℕ → Option Place → Type 0
Finds map pid pc found = (records : List Record) → StandsFor map records → found ≡ place_after records pid pc

-- each address that one of these ranges covers has its place there by a record of the process
abbrev pub CoverOnlyPlaces : LoadMap → ℕ → List Range → Type 0
CoverOnlyPlaces map pid ranges = (records : List Record) → StandsFor map records → (range : Range) (pc : ℕ) → Contains ranges range → is_covered range pc ≡ true → own_place (reverse records) pid pc ≡ Some (place_at range pc)

-- each address to which a record of the process gives a place is covered by one of these ranges, and has this place there
abbrev pub CoverAllPlaces : LoadMap → ℕ → List Range → Type 0
CoverAllPlaces map pid ranges = (records : List Record) → StandsFor map records → (pc : ℕ) (place : Place) → own_place (reverse records) pid pc ≡ Some place → IsCoveredIn ranges pc place

-- the ranges of one process are changed, and those of the others stay
abbrev pub Changes : LoadMap → LoadMap → ℕ → (List Range → List Range) → Type 0
Changes before after pid change = (other : ℕ) → ranges_of after other ≡ (if pid == other then change (ranges_of before other) else ranges_of before other)

-- the ranges of each process stay
abbrev pub Keeps : LoadMap → LoadMap → Type 0
Keeps before after = (other : ℕ) → ranges_of after other ≡ ranges_of before other

-- the range of a mapping
abbrev pub range_of : ℕ → ℕ → ℕ → Range
range_of base size image = record { base = base; end = base + size; image = image; origin = base }
