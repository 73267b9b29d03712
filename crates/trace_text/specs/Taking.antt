-- What taking a line of the body changes.
use Rattle.std.specs.Prelude.{◌≡◌, ℕ, ◌+◌, ◌<◌, ◌&&◌, Bool, true, false, cond, List, [], ◌∷◌, ◌++◌, length}
use Rattle.std.specs.declared.result.Result.{Result}
use Rattle.std.specs.declared.result.Result.TheVariants.{Ok, Err}
use Rattle.std.specs.List.{fold}
use Rattle.std.specs.Ordering.{nat_cmp}
use Rattle.std.specs.Cmp.Lexicographic.{slice_cmp}
use Rattle.std.specs.BTreeMap.{get}
use Rattle.trace_model.specs.declared.limits.TheConstants.{MOST_RECORDS}
use Rattle.trace_model.specs.declared.reasons.TraceWhy.{TraceWhy}
use Rattle.trace_model.specs.declared.notices.Record.{Record}
use Rattle.trace_model.specs.declared.notices.Line.{Line}
use Rattle.trace_model.specs.declared.notices.Line.TheVariants.{Rec}
use Rattle.trace_model.specs.Said.{Said, Ended, images_named}
use Rattle.trace_model.specs.Recording.{line_said, record_said, name_at, with_name}
use Rattle.trace_text.specs.declared.body.Body.{Body}
use Rattle.trace_text.specs.declared.body.Taken.{Taken}
use Rattle.trace_text.specs.declared.body.Taken.TheVariants as kinds
use Rattle.trace_text.specs.Forms.{BodyValues, values_shown}
use Rattle.trace_text.specs.State.{IsSound, frame_of, said_in_body, index_from, is_among, line_is_among}
use Rattle.trace_model.specs.Parts.{ends_part}
use Rattle.trace_text.specs.Entries.{record_may_precede_scan}
use Rattle.trace_text.specs.Progress.{SaysNext}

-- a line of the body was taken, or the end
abbrev pub TakesLine : Taken → Body → List ℕ → Body → Type 0
TakesLine kinds.Line old line new = IsSound new × (frame_of new ≡ frame_of old) × SaysNext (said_in_body old) line (said_in_body new)
TakesLine kinds.End old line new = (new ≡ old) × SaysNext (said_in_body old) line (said_in_body old ++ Ended ∷ [])

-- a line that is a good sample's was taken, or nothing
abbrev pub TakesSample : Bool → Body → List ℕ → Body → Type 0
TakesSample true old line new = TakesLine kinds.Line old line new
TakesSample false old line new = new ≡ old

abbrev pub Adds : Taken → Body → Said ℕ → Body → Type 0
Adds kinds.Line old said new = IsSound new × (frame_of new ≡ frame_of old) × (said_in_body new ≡ said_in_body old ++ said ∷ [])
Adds kinds.End old said new = (new ≡ old) × (said ≡ Ended)

-- what was judged of a line
abbrev pub IsJudged : Result BodyValues TraceWhy → Result (Said ℕ) TraceWhy → Type 0
IsJudged (Ok values) judged = judged ≡ Ok (values_shown values)
IsJudged (Err why) judged = judged ≡ Err why

-- the index finds each image
abbrev pub IsIndexed : Body → Type 0
IsIndexed b = ((name : List ℕ) → get (slice_cmp nat_cmp) b.index name ≡ index_from 0 b.images.items name) × (length b.images.items < MOST_RECORDS)

-- an image has this index now, and the rest stays
pub record IsNamed (old new : Body) : Type 0 where
  pub sizes : new.sizes ≡ old.sizes
  pub lines : new.lines ≡ old.lines
  pub samples : new.samples ≡ old.samples
  pub records : new.records ≡ old.records
  pub parts : new.parts ≡ old.parts
  pub scans : new.scans ≡ old.scans
  pub index : (name : List ℕ) → get (slice_cmp nat_cmp) new.index name ≡ index_from 0 new.images.items name

pub record NamesImage (old new : Body) (name : List ℕ) (at : ℕ) : Type 0 where
  pub kept : IsNamed old new
  pub images : new.images.items ≡ with_name old.images.items name
  pub within : at < length new.images.items
  pub named : name_at new.images.items at ≡ name

-- this record says so, its image by index
pub record Names (old new : Body) (said : Said ℕ) (notice : Record) : Type 0 where
  pub kept : IsNamed old new
  pub images : new.images.items ≡ fold with_name old.images.items (images_named said)
  pub among : is_among (length new.images.items) notice ≡ true
  pub says : record_said new.images.items notice ≡ said

pub record PushesRecord (old new : Body) (notice : Record) : Type 0 where
  pub sizes : new.sizes ≡ old.sizes
  pub images : new.images ≡ old.images
  pub index : new.index ≡ old.index
  pub cpus : new.lines.cpus ≡ old.lines.cpus
  pub lines : new.lines.items ≡ old.lines.items ++ Rec notice ∷ []
  pub samples : new.samples ≡ old.samples
  pub records : new.records ≡ old.records + 1
  pub parts : new.parts ≡ old.parts + cond (ends_part notice) 1 0
  pub scans : new.scans ≡ (old.scans && record_may_precede_scan notice)

pub record PushesSample (old new : Body) (said : Said ℕ) : Type 0 where
  pub sizes : new.sizes ≡ old.sizes
  pub images : new.images ≡ old.images
  pub index : new.index ≡ old.index
  pub cpus : new.lines.cpus ≡ old.lines.cpus
  pub lines : (line : Line) × (new.lines.items ≡ old.lines.items ++ line ∷ []) × ((images : List (List ℕ)) → line_said images line ≡ said) × ((n : ℕ) → line_is_among n line ≡ true)
  pub samples : new.samples ≡ old.samples + 1
  pub records : new.records ≡ old.records
  pub parts : new.parts ≡ old.parts
  pub scans : new.scans ≡ false
