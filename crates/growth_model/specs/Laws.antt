-- The laws of growth: it is determined, and what drains add adds up.
use Rattle.std.specs.Prelude.{◌≡◌, ℕ, ◌<◌, List, ◌++◌}
use Rattle.trace_model.specs.declared.notices.Record.{Record}
use Rattle.database_model.specs.Runs.{Drained, Segment, Recorded}
use Rattle.run_model.specs.Shares.{segment_of}
use Rattle.database_state.specs.Database.{Database}
use Rattle.database_state.specs.Heads.{Head}
use Rattle.growth_model.specs.Additions.{Additions, additions_of, AreSums}
use Rattle.growth_model.specs.Growth.{Grows}
use Rattle.growth_model.specs.Grown.{Grown}
use Rattle.growth_model.specs.Fitting.{HeadGrows, HeadGrowsTo}

-- Two databases that grew from one by the same part are equal.
abbrev pub OnePartIsOne : Type 0
OnePartIsOne =
    (images : List (List ℕ)) (added : Additions) (epoch : ℕ) (segment : Segment)
    (db new other : Database) →
    Grows images added epoch segment db new →
    Grows images added epoch segment db other → new ≡ other

-- So are two that grew by the same first parts of a run.
abbrev pub FirstPartsAreOne : Type 0
FirstPartsAreOne =
    (images : List (List ℕ)) (records : List Record) (kept : Recorded) (parts : ℕ)
    (db new other : Database) →
    Grown images records kept parts db new →
    Grown images records kept parts db other → new ≡ other

-- Two runs with the same segments of the first parts grow a database alike, whatever comes later.
abbrev pub FirstPartsDecide : Type 0
FirstPartsDecide =
    (images : List (List ℕ)) (records : List Record) (kept other : Recorded) (parts : ℕ)
    (db new : Database) →
    kept.run ≡ other.run → kept.first_epoch ≡ other.first_epoch →
    ((part : ℕ) → part < parts → segment_of records kept part ≡ segment_of records other part) →
    Grown images records kept parts db new → Grown images records other parts db new

-- Two heads that grew from one by the same part are equal.
abbrev pub OneHeadIsOne : Type 0
OneHeadIsOne =
    (images : List (List ℕ)) (added : Additions) (epoch : ℕ) (segment : Segment)
    (head new other : Head) →
    HeadGrows images added epoch segment head new →
    HeadGrows images added epoch segment head other → new ≡ other

-- So are two that grew by the same first parts of a run.
abbrev pub FirstHeadsAreOne : Type 0
FirstHeadsAreOne =
    (images : List (List ℕ)) (records : List Record) (kept : Recorded) (parts : ℕ)
    (head new other : Head) →
    HeadGrowsTo images records kept parts head new →
    HeadGrowsTo images records kept parts head other → new ≡ other

-- Drains and more drains add what the first and the others add.
abbrev pub DrainsAddUp : Type 0
DrainsAddUp = (images : List (List ℕ)) (records : List Record) (first second : List Drained)
    → AreSums (additions_of images records first) (additions_of images records second)
    (additions_of images records (first ++ second))
