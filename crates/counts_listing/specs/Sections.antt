-- The profiles of a head as sections of its listing.
use Rattle.std.specs.Prelude.{ℕ, List, [], ◌∷◌, ◌++◌, map, sum_by, unwrap_or}
use Rattle.std.specs.declared.cmp.Ordering.{Ordering}
use Rattle.std.specs.Ordering.{nat_cmp, ordering_then}
use Rattle.std.specs.Cmp.Lexicographic.{slice_cmp}
use Rattle.store_io.specs.Files.{Files}
use Rattle.store_io.specs.declared.file_refs.FileRef.{FileRef}
use Rattle.image_catalog.specs.Images.{text_at}
use Rattle.sample_key.specs.declared.events.Event.{Event}
use Rattle.sample_key.specs.declared.events.Event.TheVariants.{Cycles}
use Rattle.sample_key.specs.Events.{code_of, event_of_code}
use Rattle.trace_model.specs.Counting.{Spot, Known, Unknown, Row}
use Rattle.database_model.specs.declared.profiles.ProfileRow.{ProfileRow}
use Rattle.database_state.specs.declared.rows.KnownRow.{KnownRow}
use Rattle.database_state.specs.declared.rows.UnknownRow.{UnknownRow}
use Rattle.dcpiprof_report.specs.Sums.{told_rows}
use Rattle.direct_counts.specs.Sites.{total_at}
use Rattle.counts_listing.specs.declared.sections.Section.{Section as Lent}

-- what the files of these rows tell
abbrev pub all_told : {R : Type 0} → Files → (R → FileRef) → List R → List (List ProfileRow)
all_told files ref rows = map (λ row. told_rows files (ref row)) rows

-- the event of a code up to 3
abbrev pub event_at : ℕ → Event
event_at code = unwrap_or (event_of_code code) Cycles

-- a section as contracts see it: the epoch, the image by name and the event of a profile, and its rows
pub record Section : Type 0 where
  pub epoch : ℕ
  pub image : List ℕ
  pub event : Event
  pub rows : List ProfileRow

abbrev pub section_shown : Lent → Section
section_shown section = record { epoch = section.epoch; image = section.image.now; event = section.event; rows = section.rows.now }

-- the section of a row
abbrev pub section_at : List (List ℕ) → KnownRow → List ProfileRow → Section
section_at names row rows = record { epoch = row.epoch; image = text_at names row.image; event = event_at row.event; rows = rows }

-- the sections of rows, where these are their profiles
abbrev pub sections_at : List (List ℕ) → List KnownRow → List (List ProfileRow) → List Section
sections_at names [] profiles = []
sections_at names (row ∷ rows) [] = []
sections_at names (row ∷ rows) (profile ∷ profiles) = section_at names row profile ∷ sections_at names rows profiles

-- the order of sections: by epoch, then by image name, then by event code
abbrev pub section_cmp : Section → Section → Ordering
section_cmp a b = ordering_then (nat_cmp a.epoch b.epoch) (ordering_then (slice_cmp nat_cmp a.image b.image) (nat_cmp (code_of a.event) (code_of b.event)))

-- what rows of a profile count, as rows of the listing: an offset stands for this place
abbrev pub counts_at : (ℕ → Spot) → List ProfileRow → List Row
counts_at place rows = map (λ (row : ProfileRow). record { spot = place row.offset; count = row.count }) rows

-- the counts of rows of a known profile, and of an unknown one
abbrev pub known_rows : ℕ → List ℕ → Event → List ProfileRow → List Row
known_rows epoch image event rows = counts_at (λ offset. Known epoch image event offset) rows

abbrev pub unknown_rows : ℕ → Event → List ProfileRow → List Row
unknown_rows epoch event rows = counts_at (λ pc. Unknown epoch event pc) rows

-- the counts of a section
abbrev pub section_rows : Section → List Row
section_rows section = known_rows section.epoch section.image section.event section.rows

-- how much known profiles count at a place
abbrev pub known_total : Spot → List (List ℕ) → List KnownRow → List (List ProfileRow) → ℕ
known_total spot names rows profiles = sum_by (λ section. total_at spot (section_rows section)) (sections_at names rows profiles)

-- the counts of unknown profiles, one after the other
abbrev pub unknown_listed : List UnknownRow → List (List ProfileRow) → List Row
unknown_listed [] profiles = []
unknown_listed (row ∷ rows) [] = []
unknown_listed (row ∷ rows) (profile ∷ profiles) = unknown_rows row.epoch (event_at row.event) profile ++ unknown_listed rows profiles

-- how much unknown profiles count at a place
abbrev pub unknown_total : Spot → List UnknownRow → List (List ProfileRow) → ℕ
unknown_total spot rows profiles = total_at spot (unknown_listed rows profiles)
