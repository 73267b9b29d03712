-- Laws of the faults of a change.
use Rattle.std.specs.Prelude.{◌≡◌, ℕ, ◌≤◌, true, List, length}
use Rattle.std.specs.List.{IsDistinct}
use Rattle.std.specs.Str.{bytes_eq}
use Rattle.store_io.specs.Files.{Files}
use Rattle.image_catalog.specs.Images.{AreImages}
use Rattle.database_model.specs.Runs.{Segment}
use Rattle.database_state.specs.Database.{Database}
use Rattle.database_state.specs.Heads.{Head, is_in_range}
use Rattle.database_state.specs.Standing.{database_of}
use Rattle.database_state.specs.declared.faults.DbFault.{DbFault}
use Rattle.growth_model.specs.Additions.{Additions}
use Rattle.growth_model.specs.Growth.{Grows}
use Rattle.profile_merge.specs.Faults.{IsFirstFault}

-- Two first faults are equal.
abbrev pub OneFaultAtMost : Type 0
OneFaultAtMost = (images : List (List ℕ)) (added : Additions) (h : Head) (files : Files)
    (fault other : DbFault) → IsFirstFault images added h files fault →
    IsFirstFault images added h files other → fault ≡ other

-- Where what the files say grows to a database with at most 4,096 images, nothing stops the change.
abbrev pub GrowthHasNoFault : Type 0
GrowthHasNoFault = (images : List (List ℕ)) (added : Additions) (epoch : ℕ) (segment : Segment)
    (h : Head) (files : Files) (new : Database) (fault : DbFault) →
    IsDistinct bytes_eq images → AreImages h.names → is_in_range h ≡ true →
    Grows images added epoch segment (database_of h files) new → length new.names ≤ 4096 →
    IsFirstFault images added h files fault → ⊥
