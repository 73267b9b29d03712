-- What the drains of a run add to a database: sums by place.
use Rattle.std.specs.Prelude.{◌≡◌, ℕ, ◌+◌, ◌==◌, ◌&&◌, if◌then◌else◌, List, [], ◌∷◌}
use Rattle.std.specs.declared.option.Option.{Option}
use Rattle.std.specs.declared.option.Option.TheVariants.{Some, None}
use Rattle.std.specs.Str.{bytes_eq}
use Rattle.sample_key.specs.Counted.{Counted}
use Rattle.sample_key.specs.Events.{code_of}
use Rattle.trace_model.specs.Attribution.{place_at}
use Rattle.trace_model.specs.Recording.{name_at}
use Rattle.trace_model.specs.declared.notices.Place.{Place}
use Rattle.trace_model.specs.declared.notices.Record.{Record}
use Rattle.database_model.specs.Runs.{Drained}

-- How often each place is counted: by epoch, image name, event code and offset; and samples with no known mapping by epoch,
-- event code and program counter.
pub record Additions : Type 0 where
  pub known : ℕ → List ℕ → ℕ → ℕ → ℕ
  pub unknown : ℕ → ℕ → ℕ → ℕ

-- what an entry adds at an offset of an image, where its own place is this one
abbrev pub known_count : List (List ℕ) → List ℕ → ℕ → ℕ → Counted → Option Place → ℕ
known_count images name event offset counted None = 0
known_count images name event offset counted (Some place) =
    if bytes_eq name (name_at images place.image) && event == code_of counted.key.event
    && offset == place.offset
    then counted.count else 0

-- what it adds at a program counter with no known mapping
abbrev pub unknown_count : ℕ → ℕ → Counted → Option Place → ℕ
unknown_count event pc counted None =
    if event == code_of counted.key.event && pc == counted.key.pc then counted.count else 0
unknown_count event pc counted (Some place) = 0

-- what entries add at an offset of an image, each where its process and program counter lie
abbrev pub known_of : List (List ℕ) → (ℕ → ℕ → Option Place) → List ℕ → ℕ → ℕ → List Counted → ℕ
known_of images place name event offset [] = 0
known_of images place name event offset (counted ∷ entries) =
    known_count images name event offset counted (place counted.key.pid counted.key.pc)
    + known_of images place name event offset entries

-- what they add at a program counter with no known mapping
abbrev pub unknown_of : (ℕ → ℕ → Option Place) → ℕ → ℕ → List Counted → ℕ
unknown_of place event pc [] = 0
unknown_of place event pc (counted ∷ entries) =
    unknown_count event pc counted (place counted.key.pid counted.key.pc)
    + unknown_of place event pc entries

-- what drains add at an offset of an image in an epoch: each entry in its drain's epoch, and where the records that were in
-- force at the drain place it
abbrev pub known_drained : List (List ℕ) → List Record → ℕ → List ℕ → ℕ → ℕ → List Drained → ℕ
known_drained images records epoch name event offset [] = 0
known_drained images records epoch name event offset (drain ∷ drains) =
    (if epoch == drain.epoch
    then known_of images (place_at records drain.at) name event offset drain.batch.entries else 0)
    + known_drained images records epoch name event offset drains

-- what they add at a program counter with no known mapping
abbrev pub unknown_drained : List Record → ℕ → ℕ → ℕ → List Drained → ℕ
unknown_drained records epoch event pc [] = 0
unknown_drained records epoch event pc (drain ∷ drains) =
    (if epoch == drain.epoch
    then unknown_of (place_at records drain.at) event pc drain.batch.entries else 0)
    + unknown_drained records epoch event pc drains

-- what drains of a trace with these images and records add
abbrev pub additions_of : List (List ℕ) → List Record → List Drained → Additions
additions_of images records drains = record {
  known = λ epoch name event offset. known_drained images records epoch name event offset drains;
  unknown = λ epoch event pc. unknown_drained records epoch event pc drains;
}

-- At each place the one adds what the two others add.
pub record AreSums (first second both : Additions) : Type 0 where
  pub known : (epoch : ℕ) (name : List ℕ) (event offset : ℕ) → both.known epoch name event offset
      ≡ first.known epoch name event offset + second.known epoch name event offset
  pub unknown : (epoch event pc : ℕ) →
      both.unknown epoch event pc ≡ first.unknown epoch event pc + second.unknown epoch event pc
