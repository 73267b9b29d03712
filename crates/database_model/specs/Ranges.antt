-- The ranges of profiles, segments and run records, as far as the types of their fields do not keep them.
use Rattle.std.specs.Prelude.{◌≡◌, ℕ, ◌+◌, ◌%◌, ◌^◌, ◌<◌, ◌≤◌, Bool, true, false, List, [], ◌∷◌, length, All}
use Rattle.sample_key.specs.declared.losses.Loss.{Loss}
use Rattle.database_model.specs.declared.profiles.ProfileRow.{ProfileRow}
use Rattle.database_model.specs.Runs.{Drained, Segment, Recorded}

-- a row of a profile: its offset is a multiple of 4, its count from 1 to 2 ^ 48
pub record IsRow (row : ProfileRow) : Type 0 where
  pub aligned : row.offset % 4 ≡ 0
  pub some : 1 ≤ row.count
  pub most : row.count ≤ 2 ^ 48

-- rows whose offsets rise below 2 ^ 64, the first of them not below `least`
abbrev pub RowsRiseFrom : ℕ → List ProfileRow → Type 0
RowsRiseFrom least [] = Unit {0}
RowsRiseFrom least (row ∷ rows) = (least ≤ row.offset) × (row.offset < 2 ^ 64) × IsRow row × RowsRiseFrom (row.offset + 4) rows

-- the rows of a profile: their offsets rise
abbrev pub AreRows : List ProfileRow → Type 0
AreRows rows = RowsRiseFrom 0 rows

-- a drain at a position up to 65,536, of at most 2,000,000 entries, with a flag for each of them
pub record IsDrained (d : Drained) : Type 0 where
  pub position : d.at ≤ 65536
  pub size : length d.batch.entries ≤ 2000000
  pub flags : length d.known ≡ length d.batch.entries

-- losses whose indices rise and are below 2,000,000, the first of them not below `least`
abbrev pub LossesRiseFrom : ℕ → List Loss → Type 0
LossesRiseFrom least [] = Unit {0}
LossesRiseFrom least (loss ∷ losses) = (least ≤ loss.index) × (loss.index < 2000000) × LossesRiseFrom (loss.index + 1) losses

-- the losses of one processor
abbrev pub AreLosses : List Loss → Type 0
AreLosses losses = LossesRiseFrom 0 losses

-- The losses of a segment: a list for each of 1 to 16 processors in the last part, and none before.
abbrev pub EndsWith : Bool → List (List Loss) → Type 0
EndsWith false losses = losses ≡ []
EndsWith true losses = (1 ≤ length losses) × (length losses ≤ 16) × All AreLosses losses

-- a segment that can be stored
pub record IsSegment (s : Segment) : Type 0 where
  pub run : 1 ≤ s.run
  pub part : s.part ≤ 1024
  pub drains : All IsDrained s.drains
  pub losses : EndsWith s.last s.losses

-- what is kept of a run of at most 16 processors
pub record IsRecorded (r : Recorded) : Type 0 where
  pub drains : All IsDrained r.drains
  pub processors : length r.losses ≤ 16
  pub losses : All AreLosses r.losses
