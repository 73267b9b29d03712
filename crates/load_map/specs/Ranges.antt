-- Ranges of addresses in an ordered list without overlaps: where an address lies in it, and what a cut leaves of it.
use Rattle.std.specs.Prelude.{◌≡◌, ℕ, ◌-◌, ◌%◌, ◌<◌, ◌≤◌, ◌&&◌, nat_le, nat_lt, min, max, take, drop, Bool, true, if◌then◌else◌, List, [], ◌∷◌, ◌++◌, option_to_list}
use Rattle.std.specs.List.{Contains, prefix_len}
use Rattle.std.specs.declared.option.Option.{Option}
use Rattle.std.specs.declared.option.Option.TheVariants.{Some, None}
use Rattle.trace_model.specs.declared.notices.Place.{Place}
use Rattle.load_map.specs.declared.ranges.Range.{Range}

-- a range covers an address or more, and offset 0 of its image lies at a multiple of 4 that is not above its base
pub record IsRange (range : Range) : Type 0 where
  pub some : range.base < range.end
  pub origin : range.origin ≤ range.base
  pub aligned : range.origin % 4 ≡ 0

-- ranges in rising order and apart, the first of them not below an address
abbrev pub RangesFrom : ℕ → List Range → Type 0
RangesFrom least [] = Unit {0}
RangesFrom least (range ∷ ranges) = (least ≤ range.base) × IsRange range × RangesFrom range.end ranges

-- a range covers its first address and not its end
abbrev pub is_covered : Range → ℕ → Bool
is_covered range pc = nat_le range.base pc && nat_lt pc range.end

-- the place of an address that a range covers
abbrev pub place_at : Range → ℕ → Place
place_at range pc = record { image = range.image; offset = pc - range.origin }

-- one of the ranges covers an address, which has this place there
abbrev pub IsCoveredIn : List Range → ℕ → Place → Type 0
IsCoveredIn ranges pc place = (range : Range) × Contains ranges range × (is_covered range pc ≡ true) × (place ≡ place_at range pc)

-- where an address lies in a list of ranges
abbrev pub place_in : List Range → ℕ → Option Place
place_in [] pc = None
place_in (range ∷ ranges) pc = if is_covered range pc then Some (place_at range pc) else place_in ranges pc

-- the part of a range that lies before an address, and the part from an address on
abbrev pub cut_before : ℕ → Range → Range
cut_before base range = record { base = range.base; end = min range.end base; image = range.image; origin = range.origin }

abbrev pub cut_after : ℕ → Range → Range
cut_after end range = record { base = max range.base end; end = range.end; image = range.image; origin = range.origin }

-- what lies before an address
abbrev pub lefts : ℕ → List Range → List Range
lefts base [] = []
lefts base (range ∷ ranges) = if nat_lt range.base base then cut_before base range ∷ lefts base ranges else lefts base ranges

-- what lies from an address on
abbrev pub rights : ℕ → List Range → List Range
rights end [] = []
rights end (range ∷ ranges) = if nat_lt end range.end then cut_after end range ∷ rights end ranges else rights end ranges

-- other ranges in place of all that lies from `base` up to `end`
abbrev pub exchanged : ℕ → ℕ → List Range → List Range → List Range
exchanged base end new ranges = lefts base ranges ++ (new ++ rights end ranges)

-- a list after the exchange, with a range or with none
abbrev pub IsExchanged : ℕ → ℕ → Option Range → List Range → List Range → Type 0
IsExchanged base end new before after = after ≡ exchanged base end (option_to_list new) before

-- a range put where it covers, and what lies from `base` up to `end` taken away
abbrev pub with_range : Range → List Range → List Range
with_range range ranges = exchanged range.base range.end (range ∷ []) ranges

abbrev pub without_range : ℕ → ℕ → List Range → List Range
without_range base end ranges = exchanged base end [] ranges

-- how many of the ranges in front end at an address or before it
abbrev pub ended_by : ℕ → List Range → ℕ
ended_by pc ranges = prefix_len (λ range. nat_le range.end pc) ranges

-- the part of the first range that lies before an address, if there is one
abbrev pub left_of : ℕ → List Range → List Range
left_of base [] = []
left_of base (range ∷ ranges) = if nat_lt range.base base then cut_before base range ∷ [] else []

-- the part of the first range that lies from an address on
abbrev pub right_of : ℕ → List Range → List Range
right_of end [] = []
right_of end (range ∷ ranges) = cut_after end range ∷ []

-- where an address lies that is below the end of the first range
abbrev pub first_place : List Range → ℕ → Option Place
first_place [] pc = None
first_place (range ∷ ranges) pc = if nat_le range.base pc then Some (place_at range pc) else None

-- whether the first range, if there is one, begins at an address or behind it
abbrev pub is_free_to : ℕ → List Range → Bool
is_free_to end [] = true
is_free_to end (range ∷ ranges) = nat_le end range.base

-- ranges with one more at an index, if there is one
abbrev pub with_some : ℕ → Option Range → List Range → List Range
with_some at new ranges = take at ranges ++ (option_to_list new ++ drop at ranges)
