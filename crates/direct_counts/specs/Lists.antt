-- A table as lists: its sites in order, known ones and then unknown ones.
use Rattle.std.specs.Prelude.{◌≡◌, ℕ, ◌<◌, List, [], ◌∷◌, ◌++◌, map}
use Rattle.std.specs.Ordering.{nat_cmp, ordering_then}
use Rattle.std.specs.List.{All, IsDistinct}
use Rattle.std.specs.List.Sorted.{IsSorted}
use Rattle.std.specs.Map.{keys_of}
use Rattle.std.specs.declared.vec.Vec.{Vec}
use Rattle.trace_model.specs.declared.count_lists.KnownCount.{KnownCount}
use Rattle.trace_model.specs.declared.count_lists.UnknownCount.{UnknownCount}
use Rattle.trace_model.specs.Counting.{AreCountsOf, Row, Spot, known_row, unknown_row}
use Rattle.trace_model.specs.Counting as counting
use Rattle.direct_counts.specs.declared.sites.Site.{Site}
use Rattle.direct_counts.specs.contracts.sites.SiteOrd.TheImpl as site_ord
use Rattle.direct_counts.specs.contracts.sites.SitePartialEq.TheImpl as site_partial_eq
use Rattle.direct_counts.specs.Sites.{AreRanked, Tallies, row_shown}

-- no site stands twice
abbrev pub AreApart : List (Site × ℕ) → Type 0
AreApart entries = IsDistinct site_partial_eq.eq-value.it (keys_of entries)

-- no entry is less than the one before it
abbrev pub AreSorted : List (Site × ℕ) → Type 0
AreSorted entries = IsSorted (λ (a b : Site × ℕ). ordering_then (site_ord.cmp-value.it a.0 b.0) (nat_cmp a.1 b.1)) entries

-- a table that can be listed: each image has its rank, and no count is 0
abbrev pub AreListable : List (List ℕ) → List (Site × ℕ) → Type 0
AreListable names entries = AreRanked names entries × All (λ entry. 0 < entry.1) entries

-- rows list what a table counts
abbrev pub ListsTable : List (List ℕ) → List (Site × ℕ) → List Row → Type 0
ListsTable names entries rows = (spots : List Spot) → Tallies names entries spots → AreCountsOf rows spots

-- the row of this spot put in front where the spot is known, and where it is unknown
abbrev pub if_known : Spot → Row → List Row → List Row
if_known (counting.Known epoch image event offset) row rows = row ∷ rows
if_known (counting.Unknown epoch event pc) row rows = rows

abbrev pub if_unknown : Spot → Row → List Row → List Row
if_unknown (counting.Known epoch image event offset) row rows = rows
if_unknown (counting.Unknown epoch event pc) row rows = row ∷ rows

-- the rows of known spots, and those of unknown ones
abbrev pub knowns : List Row → List Row
knowns [] = []
knowns (row ∷ rows) = if_known row.spot row (knowns rows)

abbrev pub unknowns : List Row → List Row
unknowns [] = []
unknowns (row ∷ rows) = if_unknown row.spot row (unknowns rows)

-- the known rows of two lists and then their unknown rows, where more come behind those that are listed
abbrev pub rows_with : List KnownCount → List UnknownCount → List Row → List Row
rows_with known unknown more = (map known_row known ++ knowns more) ++ (map unknown_row unknown ++ unknowns more)

-- a row goes from the front of what comes to the end of its list
abbrev pub MovesRow : {Z : Type 0} → List (List ℕ) → Site × ℕ → Vec KnownCount Z → Vec UnknownCount Z → Vec KnownCount Z → Vec UnknownCount Z → Type 0
MovesRow names entry known unknown known_after unknown_after = (more : List Row) → rows_with known.items unknown.items (row_shown names entry ∷ more) ≡ rows_with known_after.items unknown_after.items more
