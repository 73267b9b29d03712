-- What gathering means: the counts by place are those that the drains of a run add to a database.
use Rattle.std.specs.Prelude.{◌≡◌, ℕ, ◌<◌, ◌≤◌, List, length, map, take}
use Rattle.std.specs.declared.option.Option.{Option}
use Rattle.std.specs.declared.option.Option.TheVariants.{Some, None}
use Rattle.std.specs.List.{IsDistinct}
use Rattle.std.specs.Str.{bytes_eq}
use Rattle.sample_key.specs.Sent.{Sent}
use Rattle.sample_key.specs.Events.{event_of_code}
use Rattle.sample_key.specs.declared.events.Event.{Event}
use Rattle.image_catalog.specs.Images.{place_of}
use Rattle.trace_model.specs.declared.notices.Record.{Record}
use Rattle.database_model.specs.Runs.{Drained}
use Rattle.run_model.specs.Daemon.{is_known}
use Rattle.growth_model.specs.Additions.{Additions, additions_of}
use Rattle.profile_merge.specs.declared.owners.Owner.{Owner}
use Rattle.profile_merge.specs.declared.owners.Owner.TheVariants.{Known, Unknown}
use Rattle.profile_merge.specs.Sums.{Collected, gathered_at}

-- what was gathered for an image, by its index in the trace; nothing where there is no such image or event
abbrev pub known_by : Collected → ℕ → ℕ → Option ℕ → Option Event → ℕ
known_by collected epoch offset None event = 0
known_by collected epoch offset (Some image) None = 0
known_by collected epoch offset (Some image) (Some event) =
    gathered_at collected (Known epoch image event) offset

-- what was gathered for unknown samples
abbrev pub unknown_by : Collected → ℕ → ℕ → Option Event → ℕ
unknown_by collected epoch pc None = 0
unknown_by collected epoch pc (Some event) = gathered_at collected (Unknown epoch event) pc

-- what was gathered, by the names of the images and the codes of the events
abbrev pub additions_in : List (List ℕ) → Collected → Additions
additions_in images collected = record {
  known = λ epoch name event offset.
      known_by collected epoch offset (place_of name images) (event_of_code event);
  unknown = λ epoch event pc. unknown_by collected epoch pc (event_of_code event);
}

-- two that add the same at every place
pub record AddAlike (a b : Additions) : Type 0 where
  pub known : (epoch : ℕ) (name : List ℕ) (event offset : ℕ) →
      a.known epoch name event offset ≡ b.known epoch name event offset
  pub unknown : (epoch event pc : ℕ) → a.unknown epoch event pc ≡ b.unknown epoch event pc

-- each image for which something was gathered is an index of these
abbrev pub ImagesAreIn : List (List ℕ) → Collected → Type 0
ImagesAreIn images collected = (epoch image : ℕ) (event : Event) (offset : ℕ) →
    0 < gathered_at collected (Known epoch image event) offset → image < length images

-- the epoch of a profile
abbrev pub epoch_of : Owner → ℕ
epoch_of (Known epoch image event) = epoch
epoch_of (Unknown epoch event) = epoch

-- nothing was gathered for a later epoch
abbrev pub EpochsAreUpTo : ℕ → Collected → Type 0
EpochsAreUpTo last collected = (owner : Owner) (offset : ℕ) →
    0 < gathered_at collected owner offset → epoch_of owner ≤ last

-- What was gathered is what these drains add, where the images of the trace are distinct and each image for which something
-- was gathered is one of them.
abbrev pub Gathers : Collected → List (List ℕ) → List Record → List Drained → Type 0
Gathers collected images records drains =
    IsDistinct bytes_eq images → ImagesAreIn images collected →
    AddAlike (additions_in images collected) (additions_of images records drains)

-- the drain of a batch at a position in an epoch
abbrev pub drained : List Record → ℕ → ℕ → Sent → Drained
drained records at epoch batch = record {
  at = at;
  epoch = epoch;
  batch = batch;
  known = map (is_known records at) batch.entries;
}

-- the first entries of a batch
abbrev pub first_of : ℕ → Sent → Sent
first_of count batch = record batch { entries = take count batch.entries }
