-- Counts by place: how many samples lie at each, and their text.
use Rattle.std.proofs.Props.{props}
use Rattle.std.specs.Prelude.{◌≡◌, ℕ, ◌<◌, ◌==◌, ◌&&◌, Bool, false, if◌then◌else◌, List, [], ◌∷◌, ◌++◌, map, codes}
use Rattle.std.specs.declared.option.Option.{Option}
use Rattle.std.specs.declared.option.Option.TheVariants.{Some, None}
use Rattle.std.specs.declared.cmp.Ordering.{Ordering}
use Rattle.std.specs.declared.cmp.Ordering.TheVariants.{Less, Greater}
use Rattle.std.specs.Ordering.{nat_cmp, ordering_then}
use Rattle.std.specs.Cmp.Lexicographic.{slice_cmp}
use Rattle.std.specs.List.{count_by, flat_map, join_with_byte}
use Rattle.std.specs.Str.{bytes_eq}
use Rattle.std.specs.Fmt.{digits, decimal}
use Rattle.sample_key.specs.declared.events.Event.{Event}
use Rattle.sample_key.specs.declared.keys.Key.{Key}
use Rattle.sample_key.specs.Events.{code_of, name_of}
use Rattle.trace_model.specs.declared.notices.Record.{Record}
use Rattle.trace_model.specs.declared.notices.Line.{Line}
use Rattle.trace_model.specs.declared.notices.Line.TheVariants.{Sample, Rec}
use Rattle.trace_model.specs.declared.notices.Place.{Place}
use Rattle.trace_model.specs.declared.count_lists.KnownCount.{KnownCount}
use Rattle.trace_model.specs.declared.count_lists.UnknownCount.{UnknownCount}
use Rattle.trace_model.specs.Attribution.{place_after}
use Rattle.trace_model.specs.Parts.{epoch_after}
use Rattle.trace_model.specs.Recording.{Recording, name_at}

-- a place that samples are counted at: an offset of an image, or a program counter with no known mapping
pub data Spot : Type 0 where
  Known : ℕ → List ℕ → Event → ℕ → Spot
  Unknown : ℕ → Event → ℕ → Spot

-- where a sample lies that has this place
abbrev pub spot_at : ℕ → List (List ℕ) → Key → Option Place → Spot
spot_at epoch images key None = Unknown epoch key.event key.pc
spot_at epoch images key (Some place) = Known epoch (name_at images place.image) key.event place.offset

-- where a sample lies whose trace has these records before it
abbrev pub spot_of : ℕ → List (List ℕ) → List Record → Key → Spot
spot_of first images before key = spot_at (epoch_after first before) images key (place_after before key.pid key.pc)

-- where each sample of these lines lies, each by the records that stand before it
abbrev pub spots_from : ℕ → List (List ℕ) → List Record → List Line → List Spot
spots_from first images before [] = []
spots_from first images before (Sample cpu key ∷ lines) = spot_of first images before key ∷ spots_from first images before lines
spots_from first images before (Rec notice ∷ lines) = spots_from first images (before ++ notice ∷ []) lines

-- where the samples of a trace lie, in its order, with epochs from the first one
abbrev pub spots_in : Recording → ℕ → List Spot
spots_in r first = spots_from first r.images [] r.lines

-- the order of listed counts: known ones by epoch, image, event and offset, then unknown ones by epoch, event and address
abbrev pub spot_cmp : Spot → Spot → Ordering
spot_cmp (Known e image v o) (Known f other w p) = ordering_then (nat_cmp e f) (ordering_then (slice_cmp nat_cmp image other) (ordering_then (nat_cmp (code_of v) (code_of w)) (nat_cmp o p)))
spot_cmp (Known e image v o) (Unknown f w p) = Less
spot_cmp (Unknown e v o) (Known f other w p) = Greater
spot_cmp (Unknown e v o) (Unknown f w p) = ordering_then (nat_cmp e f) (ordering_then (nat_cmp (code_of v) (code_of w)) (nat_cmp o p))

-- the same place
abbrev pub same_spot : Spot → Spot → Bool
same_spot (Known e image v o) (Known f other w p) = e == f && bytes_eq image other && code_of v == code_of w && o == p
same_spot (Known e image v o) (Unknown f w p) = false
same_spot (Unknown e v o) (Known f other w p) = false
same_spot (Unknown e v o) (Unknown f w p) = e == f && code_of v == code_of w && o == p

-- a listed count
pub record Row : Type 0 where
  pub spot : Spot
  pub count : ℕ

abbrev pub known_row : KnownCount → Row
known_row r = record { spot = Known r.epoch r.image r.event r.offset; count = r.count }

abbrev pub unknown_row : UnknownCount → Row
unknown_row r = record { spot = Unknown r.epoch r.event r.pc; count = r.count }

-- the rows of two lists, the known counts first
abbrev pub rows_in_order : List KnownCount → List UnknownCount → List Row
rows_in_order known unknown = map known_row known ++ map unknown_row unknown

-- what rows list for a place, 0 where they list nothing
abbrev pub listed_at : Spot → List Row → ℕ
listed_at spot [] = 0
listed_at spot (row ∷ rows) = if same_spot spot row.spot then row.count else listed_at spot rows

-- rows that rise strictly, each with a count above 0
abbrev pub Rises : List Row → Type 0
Rises [] = Unit {0}
Rises (row ∷ []) = 0 < row.count
Rises (row ∷ next ∷ rows) = (0 < row.count) × (spot_cmp row.spot next.spot ≡ Less) × Rises (next ∷ rows)

-- rows rise in one way at most
pub rises_once : (rows : List Row) → IsProp (Rises rows)
rises_once [] = hlevel props
rises_once (row ∷ []) = hlevel props
rises_once (row ∷ next ∷ rows) = hlevel (props, rises_once (next ∷ rows))

-- the rows list each place at which samples lie, with the number of samples that lie there
pub record AreCountsOf (rows : List Row) (spots : List Spot) : Type 0 where
  pub rise : Rises rows
  pub counts : (spot : Spot) → listed_at spot rows ≡ count_by (same_spot spot) spots

-- the line of a row: its fields, apart by a space
abbrev pub row_fields : Spot → ℕ → List (List ℕ)
row_fields (Known epoch image event offset) count = codes "k" ∷ decimal epoch ∷ image ∷ name_of event ∷ digits 16 false offset ∷ decimal count ∷ []
row_fields (Unknown epoch event pc) count = codes "u" ∷ decimal epoch ∷ name_of event ∷ digits 16 false pc ∷ decimal count ∷ []

abbrev pub row_text : Row → List ℕ
row_text row = join_with_byte 32 (row_fields row.spot row.count) ++ 10 ∷ []

abbrev pub rows_text : List Row → List ℕ
rows_text rows = flat_map row_text rows
