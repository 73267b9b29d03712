-- What the reader keeps of the body and the schedule, and what they say.
use Rattle.std.specs.Prelude.{◌≡◌, ℕ, ◌+◌, ◌≤◌, nat_lt, Bool, true, if◌then◌else◌, List, [], ◌∷◌, ◌++◌, map, length}
use Rattle.std.specs.declared.option.Option.{Option}
use Rattle.std.specs.declared.option.Option.TheVariants.{Some, None}
use Rattle.std.specs.List.{list_all, count_by}
use Rattle.std.specs.Ordering.{nat_cmp}
use Rattle.std.specs.Cmp.Lexicographic.{slice_cmp}
use Rattle.std.specs.BTreeMap.{get}
use Rattle.std.specs.Str.{bytes_eq}
use Rattle.sample_key.specs.declared.limits.TheConstants.{MOST_SAMPLES}
use Rattle.trace_model.specs.declared.notices.Record.{Record}
use Rattle.trace_model.specs.declared.notices.Record.TheVariants.{Scan, Load, Unload, Exec, Exit, Kernel, Drain, Merge, Epoch}
use Rattle.trace_model.specs.declared.notices.Line.{Line}
use Rattle.trace_model.specs.declared.notices.Line.TheVariants.{Sample, Rec}
use Rattle.trace_model.specs.declared.notices.Step.{Step}
use Rattle.trace_model.specs.Said.{Said, Ended, is_sample, is_record, is_step, is_part_end, may_precede_scan}
use Rattle.trace_model.specs.declared.limits.TheConstants.{MOST_PARTS, MOST_RECORDS, MOST_STEPS}
use Rattle.trace_model.specs.declared.reasons.TraceWhy.{TraceWhy}
use Rattle.trace_model.specs.Grammar.{context_tests, first_that_applies, value_tests}
use Rattle.trace_model.specs.Recording.{Recording, said_in, line_said, step_said, images_in_order, are_good}
use Rattle.trace_text.specs.declared.body.Body.{Body}
use Rattle.trace_text.specs.declared.headers.Sizes.{Sizes}
use Rattle.trace_text.specs.Judging.{size_shown}

-- nothing is wrong with a line's values, after what the lines before it said
abbrev pub Passes : List (Said ℕ) → Said ℕ → Type 0
Passes before said = first_that_applies (value_tests before said) ≡ None

-- the first reason that the lines before it give against a line, where one does
abbrev pub FaultOf : List (Said ℕ) → Said ℕ → Option TraceWhy → Type 0
FaultOf before said fault = fault ≡ first_that_applies (context_tests before said)

-- a trace has the images that its lines name, in order of first use
abbrev pub HasItsImages : Recording → Type 0
HasItsImages r = r.images ≡ images_in_order (said_in r)

-- the header, and what the lines of the body say so far
abbrev pub said_in_body : Body → List (Said ℕ)
said_in_body b = size_shown b.sizes ∷ map (line_said b.images.items) b.lines.items

-- what no line of the body changes: the sizes, and for how many processors the lines are cut, where they are
abbrev pub frame_of : Body → Sizes × Option ℕ
frame_of b = (b.sizes, b.lines.cpus)

-- for how many processors lines are to be cut, where they are
abbrev pub cut_for : Bool → ℕ → Option ℕ
cut_for cuts cpus = if cuts then Some cpus else None

-- the header and the body, with the end and the steps behind it
abbrev pub said_with_steps : Body → List Step → List (Said ℕ)
said_with_steps b steps = said_in_body b ++ Ended ∷ map step_said steps

-- the index of a name, counted from n
abbrev pub index_from : ℕ → List (List ℕ) → List ℕ → Option ℕ
index_from n [] name = None
index_from n (first ∷ more) name = if bytes_eq name first then Some n else index_from (n + 1) more name

-- the image that a record names by an index is among so many
abbrev pub is_among : ℕ → Record → Bool
is_among n (Scan pid base size image) = nat_lt image n
is_among n (Load pid base size image) = nat_lt image n
is_among n (Unload pid base size) = true
is_among n (Exec pid base size image) = nat_lt image n
is_among n (Exit pid) = true
is_among n (Kernel base size image) = nat_lt image n
is_among n Drain = true
is_among n Merge = true
is_among n Epoch = true

abbrev pub line_is_among : ℕ → Line → Bool
line_is_among n (Sample cpu key) = true
line_is_among n (Rec notice) = is_among n notice

-- what the reader counts agrees with what the lines say, which are all good
pub record Tracks (said : List (Said ℕ)) (images : List (List ℕ)) (samples records parts : ℕ) (scans : Bool) : Type 0 where
  pub images_are : images ≡ images_in_order said
  pub samples_are : samples ≡ count_by is_sample said
  pub records_are : records ≡ count_by is_record said
  pub parts_are : parts ≡ count_by is_part_end said
  pub no_steps : count_by is_step said ≡ 0
  pub scans_are : scans ≡ list_all may_precede_scan said
  pub samples_most : samples ≤ MOST_SAMPLES
  pub records_most : records ≤ MOST_RECORDS
  pub parts_most : parts ≤ MOST_PARTS
  pub few_images : length images ≤ records
  pub good : are_good [] said ≡ true

pub record IsSound (b : Body) : Type 0 where
  pub tracks : Tracks (said_in_body b) b.images.items b.samples b.records b.parts b.scans
  pub index : (name : List ℕ) → get (slice_cmp nat_cmp) b.index name ≡ index_from 0 b.images.items name
  pub among : list_all (line_is_among (length b.images.items)) b.lines.items ≡ true
  pub lines_are : length b.lines.items ≡ b.samples + b.records

-- the steps behind a body
pub record AreSteps (b : Body) (steps : List Step) : Type 0 where
  pub images_are : b.images.items ≡ images_in_order (said_with_steps b steps)
  pub steps_are : length steps ≡ count_by is_step (said_with_steps b steps)
  pub steps_most : length steps ≤ MOST_STEPS
  pub good : are_good [] (said_with_steps b steps) ≡ true
