-- Runs that fit an empty database.
use Rattle.std.specs.Prelude.{◌≡◌, ℕ, ◌+◌, ◌*◌, ◌%◌, ◌^◌, ◌<◌, ◌≤◌, List, length}
use Rattle.trace_model.specs.declared.notices.Record.{Record}
use Rattle.database_model.specs.Runs.{Recorded}
use Rattle.database_state.specs.Database.{empty_database}
use Rattle.database_state.specs.Heads.{empty_head}
use Rattle.growth_model.specs.Additions.{Additions, additions_of}
use Rattle.growth_model.specs.Fitting.{KeepsLimits}
use Rattle.growth_model.specs.Grown.{epoch_after_parts, part_count}

-- Nothing is counted above 2 ^ 48, in a later epoch, of an event that there is not, or at an address that is no multiple of 4.
pub record AreSmall (added : Additions) : Type 0 where
  pub known : (epoch : ℕ) (name : List ℕ) (event offset : ℕ) →
      added.known epoch name event offset ≤ 2 ^ 48
  pub known_at : (epoch : ℕ) (name : List ℕ) (event offset : ℕ) →
      0 < added.known epoch name event offset →
      (epoch ≡ 0) × (event ≤ 3) × (offset % 4 ≡ 0) × (offset < 2 ^ 64)
  pub unknown : (epoch event pc : ℕ) → added.unknown epoch event pc ≤ 2 ^ 48
  pub unknown_at : (epoch event pc : ℕ) → 0 < added.unknown epoch event pc →
      (epoch ≡ 0) × (event ≤ 3) × (pc % 4 ≡ 0) × (pc < 2 ^ 64)

-- A run of few images and parts, in one epoch, whose drains add little.
pub record IsSmallRun (images : List (List ℕ)) (records : List Record) (kept : Recorded) : Type 0 where
  pub run : kept.run ≡ 1
  pub first_epoch : kept.first_epoch ≡ 0
  pub one_epoch : (parts : ℕ) → epoch_after_parts kept.first_epoch records parts ≡ 0
  pub few : length images * part_count records ≤ 4096
  pub rows : 4 * (length images * part_count records) + 4 + part_count records ≤ 65536
  pub small : AreSmall (additions_of images records kept.drains)

-- It fits an empty database.
abbrev pub SmallRunsFit : Type 0
SmallRunsFit = (images : List (List ℕ)) (records : List Record) (kept : Recorded) →
    IsSmallRun images records kept →
    KeepsLimits images records kept empty_head empty_database
