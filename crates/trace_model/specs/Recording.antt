-- A recorded trace as a value, and what its lines say.
use Rattle.std.specs.Prelude.{◌≡◌, ℕ, ◌&&◌, Bool, true, if◌then◌else◌, List, [], ◌∷◌, ◌++◌, ◌<◌, length, map, slice_get, unwrap_or}
use Rattle.std.specs.declared.option.Option.{Option}
use Rattle.std.specs.declared.option.Option.TheVariants.{Some, None}
use Rattle.std.specs.List.{list_any, flat_map, fold}
use Rattle.std.specs.Option.{is_none}
use Rattle.std.specs.Str.{bytes_eq}
use Rattle.text_num.specs.Lines.{text_of_lines}
use Rattle.trace_model.specs.declared.notices.Record.{Record}
use Rattle.trace_model.specs.declared.notices.Record.TheVariants.{Scan, Load, Unload, Exec, Exit, Kernel, Drain, Merge, Epoch}
use Rattle.trace_model.specs.declared.notices.Place.{Place}
use Rattle.trace_model.specs.declared.notices.Line.{Line}
use Rattle.trace_model.specs.declared.notices.Line.TheVariants.{Sample, Rec}
use Rattle.trace_model.specs.declared.notices.Step.{Step}
use Rattle.trace_model.specs.declared.notices.Step.TheVariants.{Lane, Poll, Advance}
use Rattle.trace_model.specs.Said.{Said, LongHeader, Sampled, Scanned, Loaded, Unloaded, Executed, Exited, KernelMapped, Drained, Merged, EpochBegun, Ended, Turned, Polled, Advanced, line_text, images_named, every, tested, is_within, is_aligned, is_titled}
use Rattle.trace_model.specs.Grammar.{first_that_applies, value_tests, Says}

-- a trace: its sizes, the names of its images, its body and its schedule
pub record Recording : Type 0 where
  pub cpus : ℕ
  pub buckets : ℕ
  pub buffer : ℕ
  pub images : List (List ℕ)
  pub lines : List Line
  pub schedule : List Step

abbrev pub recording : ℕ → ℕ → ℕ → List (List ℕ) → List Line → List Step → Recording
recording cpus buckets buffer images lines schedule = record {
  cpus = cpus;
  buckets = buckets;
  buffer = buffer;
  images = images;
  lines = lines;
  schedule = schedule;
}

-- the image of this index, or no name where there is none
abbrev pub name_at : List (List ℕ) → ℕ → List ℕ
name_at images index = unwrap_or (slice_get images index) []

-- the image of a place is one of these
abbrev pub HasImage : List (List ℕ) → Option Place → Type 0
HasImage images None = Unit {0}
HasImage images (Some place) = place.image < length images

-- what a record says, its image by name
abbrev pub record_said : List (List ℕ) → Record → Said ℕ
record_said images (Scan pid base length image) = Scanned pid base length (name_at images image)
record_said images (Load pid base length image) = Loaded pid base length (name_at images image)
record_said images (Unload pid base length) = Unloaded pid base length
record_said images (Exec pid base length image) = Executed pid base length (name_at images image)
record_said images (Exit pid) = Exited pid
record_said images (Kernel base length image) = KernelMapped base length (name_at images image)
record_said images Drain = Drained
record_said images Merge = Merged
record_said images Epoch = EpochBegun

-- a record has the ranges of the format, and its base and length, where it has them, are multiples of 4
abbrev pub keeps_ranges : Record → Bool
keeps_ranges notice = every is_within (tested (record_said [] notice)) && every is_aligned (tested (record_said [] notice))

-- the image of a record, where it names one, has a name
abbrev pub is_named : List (List ℕ) → Record → Bool
is_named images notice = every is_titled (tested (record_said images notice))

-- what a line of the body says
abbrev pub line_said : List (List ℕ) → Line → Said ℕ
line_said images (Sample cpu key) = Sampled cpu key.pid key.pc key.event
line_said images (Rec notice) = record_said images notice

-- what a step says
abbrev pub step_said : Step → Said ℕ
step_said (Lane cpu) = Turned cpu
step_said (Poll cpu cell) = Polled cpu cell
step_said Advance = Advanced

-- what the trace says, line by line
abbrev pub said_in : Recording → List (Said ℕ)
said_in r = LongHeader r.cpus r.buckets r.buffer ∷ (map (line_said r.images) r.lines ++ Ended ∷ map step_said r.schedule)

-- the text of a trace, in the long form: the lines that say it, each ended by a line feed
abbrev pub trace_text : Recording → List ℕ
trace_text r = text_of_lines (map line_text (said_in r))

-- nothing is wrong with the values of these lines, after what the lines before them said
abbrev pub are_good : List (Said ℕ) → List (Said ℕ) → Bool
are_good before [] = true
are_good before (said ∷ more) = is_none (first_that_applies (value_tests before said)) && are_good (before ++ said ∷ []) more

-- the facts of a `Trace`: nothing is wrong with its lines
abbrev pub AreGood : ℕ → ℕ → ℕ → List (List ℕ) → List Line → List Step → Type 0
AreGood cpus buckets buffer images lines schedule =
    are_good [] (said_in (recording cpus buckets buffer images lines schedule)) ≡ true

-- names in order of first use
abbrev pub with_name : List (List ℕ) → List ℕ → List (List ℕ)
with_name names name = if list_any (bytes_eq name) names then names else names ++ name ∷ []

abbrev pub images_in_order : List (Said ℕ) → List (List ℕ)
images_in_order said = fold with_name [] (flat_map images_named said)

-- and its images are those that its lines name, in order of first use
abbrev pub InOrder : ℕ → ℕ → ℕ → List (List ℕ) → List Line → List Step → Type 0
InOrder cpus buckets buffer images lines schedule =
    images ≡ images_in_order (said_in (recording cpus buckets buffer images lines schedule))

-- the bytes read as this trace
pub record Reads (bytes : List ℕ) (r : Recording) : Type 0 where
  pub says : Says bytes (said_in r)
  pub images : r.images ≡ images_in_order (said_in r)
