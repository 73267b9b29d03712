-- What every trace keeps: its sizes, its limits, and the ranges of what stands in it.
use Rattle.std.specs.Prelude.{◌≡◌, ℕ, ◌≤◌, true, length}
use Rattle.std.specs.List.{AllByRecursion, count_by}
use Rattle.sample_key.specs.declared.limits.TheConstants.{MOST_SAMPLES}
use Rattle.trace_model.specs.declared.limits.TheConstants.{MOST_BUCKETS, MOST_CPUS, MOST_ENTRIES, MOST_PARTS, MOST_RECORDS, MOST_STEPS}
use Rattle.trace_model.specs.Attribution.{place_at}
use Rattle.trace_model.specs.Parts.{ends_part}
use Rattle.trace_model.specs.Recording.{HasImage, Recording, is_named, keeps_ranges}
use Rattle.trace_model.specs.Streams.{names_below, records_in, samples_in, steps_below}

-- 1 to 16 processors, and tables and buffers that hold something
pub record HasSizes (r : Recording) : Type 0 where
  pub some_cpus : 1 ≤ r.cpus
  pub cpus : r.cpus ≤ MOST_CPUS
  pub some_buckets : 1 ≤ r.buckets
  pub buckets : r.buckets ≤ MOST_BUCKETS
  pub some_entries : 1 ≤ r.buffer
  pub entries : r.buffer ≤ MOST_ENTRIES

-- how many samples, records, records that end a part, and steps
pub record KeepsLimits (r : Recording) : Type 0 where
  pub samples : length (samples_in r) ≤ MOST_SAMPLES
  pub records : length (records_in r) ≤ MOST_RECORDS
  pub parts : count_by ends_part (records_in r) ≤ MOST_PARTS
  pub steps : length r.schedule ≤ MOST_STEPS

-- each record has the ranges of the format, its base and length are multiples of 4, and its image has a name
pub record KeepsRanges (r : Recording) : Type 0 where
  pub ranges : AllByRecursion (λ notice. keeps_ranges notice ≡ true) (records_in r)
  pub names : AllByRecursion (λ notice. is_named r.images notice ≡ true) (records_in r)

-- each sample, and each step of the schedule, is of one of the trace's processors
pub record NamesProcessors (r : Recording) : Type 0 where
  pub samples : AllByRecursion (names_below r.cpus) r.lines
  pub steps : AllByRecursion (steps_below r.cpus) r.schedule

-- each place that the records give an address, at any moment, is in one of the trace's images
abbrev pub PlacesHaveImages : Recording → Type 0
PlacesHaveImages r = (applied pid pc : ℕ) → HasImage r.images (place_at (records_in r) applied pid pc)
