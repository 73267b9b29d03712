-- The grammar of a trace: what each line says after those before it, or the first reason why it is refused.
use Rattle.std.specs.Prelude.{◌≡◌, ◌≢◌, ℕ, ◌+◌, ◌≤◌, ◌==◌, ◌&&◌, ◌||◌, nat_le, Bool, true, false, not, if◌then◌else◌, List, [], ◌∷◌, ◌++◌, length, codes, unwrap_or}
use Rattle.std.specs.declared.option.Option.{Option}
use Rattle.std.specs.declared.option.Option.TheVariants.{Some, None}
use Rattle.std.specs.declared.result.Result.{Result}
use Rattle.std.specs.declared.result.Result.TheVariants.{Ok, Err}
use Rattle.std.specs.List.{list_all, list_any, count_by, slice_split, AllByRecursion}
use Rattle.std.specs.Option.{option_map, is_some}
use Rattle.std.specs.Str.{bytes_eq}
use Rattle.sample_key.specs.Events.{event_named}
use Rattle.sample_key.specs.declared.limits.TheConstants.{MOST_SAMPLES}
use Rattle.text_num.specs.Lines.{HasNoLineFeed, text_of_lines}
use Rattle.trace_model.specs.declared.limits.TheConstants.{MOST_LINE_BYTES, MOST_PARTS, MOST_RECORDS, MOST_STEPS}
use Rattle.trace_model.specs.declared.reasons.TraceWhy.{TraceWhy}
use Rattle.trace_model.specs.declared.reasons.TraceWhy.TheVariants.{NotHeader, BadWord, AfterEnd, BadNumber, OutOfRange, Unaligned, BadName, NoSuchCpu, ScanTooLate, TooManySamples, TooManyRecords, NoEnd}
use Rattle.trace_model.specs.Said.{Said, ShortHeader, LongHeader, Sampled, Scanned, Loaded, Unloaded, Executed, Exited, KernelMapped, Drained, Merged, EpochBegun, Ended, Turned, Polled, Advanced, values_of, every, tested, is_spelled, is_within, is_aligned, is_titled, is_sample, is_scan, is_end, is_step, is_record, is_part_end, may_precede_scan, cpu_named}

-- where a line stands: all that is asked of the lines before it is the list of what they said
pub data Stage : Type 0 where
  AtHeader : Stage
  AtBody : Stage
  AtSchedule : Stage

abbrev pub stage_after : List (Said ℕ) → Stage
stage_after [] = AtHeader
stage_after (said ∷ more) = if list_any is_end (said ∷ more) then AtSchedule else AtBody

-- the fields of a line: it is cut at each space
abbrev pub cut_at_spaces : List ℕ → List (List ℕ)
cut_at_spaces line = slice_split (λ byte. byte == 32) line

-- a header, short or long
abbrev pub header_of : List (List ℕ) → Option (Said (List ℕ))
header_of (a ∷ b ∷ c ∷ cpus ∷ []) =
    if bytes_eq a (codes "dcpi-trace") && bytes_eq b (codes "1") && bytes_eq c (codes "cpus") then Some (ShortHeader cpus) else None
header_of (a ∷ b ∷ c ∷ cpus ∷ d ∷ buckets ∷ e ∷ buffer ∷ []) =
    if bytes_eq a (codes "dcpi-trace") && bytes_eq b (codes "1") && bytes_eq c (codes "cpus") && bytes_eq d (codes "buckets") && bytes_eq e (codes "buffer")
    then Some (LongHeader cpus buckets buffer) else None
header_of _ = None

-- a line of the body, by its word and the number of its fields
abbrev pub body_of : List (List ℕ) → Option (Said (List ℕ))
body_of (word ∷ []) =
    if bytes_eq word (codes "drain") then Some Drained else
    (if bytes_eq word (codes "merge") then Some Merged else
    (if bytes_eq word (codes "epoch") then Some EpochBegun else
    (if bytes_eq word (codes "end") then Some Ended else None)))
body_of (word ∷ a ∷ []) = if bytes_eq word (codes "exit") then Some (Exited a) else None
body_of (word ∷ a ∷ b ∷ c ∷ []) =
    if bytes_eq word (codes "unload") then Some (Unloaded a b c) else
    (if bytes_eq word (codes "kernel") then Some (KernelMapped a b c) else None)
body_of (word ∷ a ∷ b ∷ c ∷ d ∷ []) =
    if bytes_eq word (codes "s") then option_map (Sampled a b c) (event_named d) else
    (if bytes_eq word (codes "load") then Some (Loaded a b c d) else
    (if bytes_eq word (codes "scan") then Some (Scanned a b c d) else
    (if bytes_eq word (codes "exec") then Some (Executed a b c d) else None)))
body_of _ = None

-- a line of the schedule
abbrev pub step_of : List (List ℕ) → Option (Said (List ℕ))
step_of (word ∷ []) = if bytes_eq word (codes "a") then Some Advanced else None
step_of (word ∷ a ∷ []) = if bytes_eq word (codes "l") then Some (Turned a) else None
step_of (word ∷ a ∷ b ∷ []) = if bytes_eq word (codes "d") then Some (Polled a b) else None
step_of _ = None

abbrev pub form_at : Stage → List (List ℕ) → Option (Said (List ℕ))
form_at AtHeader fields = header_of fields
form_at AtBody fields = body_of fields
form_at AtSchedule fields = step_of fields

-- why a line of no form is refused, and a line that is too long
abbrev pub why_no_form : Stage → TraceWhy
why_no_form AtHeader = NotHeader
why_no_form AtBody = BadWord
why_no_form AtSchedule = AfterEnd

-- the number of processors that the header gave
abbrev pub cpus_in : List (Said ℕ) → ℕ
cpus_in (ShortHeader cpus ∷ more) = cpus
cpus_in (LongHeader cpus buckets buffer ∷ more) = cpus
cpus_in _ = 0

abbrev pub names_no_cpu : List (Said ℕ) → Said ℕ → Bool
names_no_cpu before said = is_some (cpu_named said) && nat_le (cpus_in before) (unwrap_or (cpu_named said) 0)

abbrev pub scans_too_late : List (Said ℕ) → Said ℕ → Bool
scans_too_late before said = is_scan said && not (list_all may_precede_scan before)

abbrev pub is_sample_too_many : List (Said ℕ) → Said ℕ → Bool
is_sample_too_many before said = is_sample said && nat_le MOST_SAMPLES (count_by is_sample before)

-- 65,536 records, of which 1,024 end a part, and 4,000,000 steps
abbrev pub is_record_too_many : List (Said ℕ) → Said ℕ → Bool
is_record_too_many before said =
    if is_step said then nat_le MOST_STEPS (count_by is_step before)
    else (if is_part_end said then nat_le MOST_RECORDS (count_by is_record before) || nat_le MOST_PARTS (count_by is_part_end before)
    else (is_record said && nat_le MOST_RECORDS (count_by is_record before)))

-- the first of these that applies
abbrev pub first_that_applies : List (TraceWhy × Bool) → Option TraceWhy
first_that_applies [] = None
first_that_applies (test ∷ more) = if test.1 then Some test.0 else first_that_applies more

-- what may be wrong with the fields of a line, whatever stands before it
abbrev pub field_tests : Said ℕ → List (TraceWhy × Bool)
field_tests said =
    (OutOfRange, not (every is_within (tested said)))
    ∷ (Unaligned, not (every is_aligned (tested said)))
    ∷ (BadName, not (every is_titled (tested said)))
    ∷ []

-- what may be wrong with a line after what the lines before it said
abbrev pub context_tests : List (Said ℕ) → Said ℕ → List (TraceWhy × Bool)
context_tests before said =
    (NoSuchCpu, names_no_cpu before said)
    ∷ (ScanTooLate, scans_too_late before said)
    ∷ (TooManySamples, is_sample_too_many before said)
    ∷ (TooManyRecords, is_record_too_many before said)
    ∷ []

-- what may be wrong with the values of a line
abbrev pub value_tests : List (Said ℕ) → Said ℕ → List (TraceWhy × Bool)
value_tests before said = field_tests said ++ context_tests before said

-- what may be wrong with a line whose words are in order, in the order in which it is tested
abbrev pub tests_of : List (Said ℕ) → Said (List ℕ) → List (TraceWhy × Bool)
tests_of before raw = (BadNumber, not (every is_spelled (tested raw))) ∷ value_tests before (values_of raw)

abbrev pub judged : Said ℕ → Option TraceWhy → Result (Said ℕ) TraceWhy
judged said None = Ok said
judged said (Some why) = Err why

-- what a line with its words in order says, or the first reason why it is refused
abbrev pub verdict_on : List (Said ℕ) → Said (List ℕ) → Result (Said ℕ) TraceWhy
verdict_on before raw = judged (values_of raw) (first_that_applies (tests_of before raw))

abbrev pub verdict_of_form : List (Said ℕ) → Option (Said (List ℕ)) → Result (Said ℕ) TraceWhy
verdict_of_form before None = Err (why_no_form (stage_after before))
verdict_of_form before (Some raw) = verdict_on before raw

-- what a finished line of at most 400 bytes says after these, or the first reason why it is refused
abbrev pub verdict : List (Said ℕ) → List ℕ → Result (Said ℕ) TraceWhy
verdict before line = verdict_of_form before (form_at (stage_after before) (cut_at_spaces line))

abbrev pub where_said : Result (Said ℕ) TraceWhy → (Said ℕ → Option (List (Said ℕ))) → Option (List (Said ℕ))
where_said (Ok said) next = next said
where_said (Err why) next = None

-- all that lines say after these, where none is refused
abbrev pub said_by : List (Said ℕ) → List (List ℕ) → Option (List (Said ℕ))
said_by before [] = Some before
said_by before (line ∷ lines) = where_said (verdict before line) (λ said. said_by (before ++ said ∷ []) lines)

-- a line of at most 400 bytes, without its line feed
abbrev pub IsLine : List ℕ → Type 0
IsLine bytes = HasNoLineFeed bytes × (length bytes ≤ MOST_LINE_BYTES)

-- the bytes are lines that say this, and the end is among them
pub record Says (bytes : List ℕ) (said : List (Said ℕ)) : Type 0 where
  pub lines : List (List ℕ)
  pub are_lines : AllByRecursion IsLine lines
  pub text : bytes ≡ text_of_lines lines
  pub says : said_by [] lines ≡ Some said
  pub ended : list_any is_end said ≡ true

-- how what stands next is refused, after lines that said this
pub data Refuses (before : List (Said ℕ)) (rest : List ℕ) (why : TraceWhy) : Type 0 where
  -- a finished line
  Finished : (line more : List ℕ) → IsLine line → rest ≡ line ++ 10 ∷ more → verdict before line ≡ Err why → Refuses before rest why
  -- the input stops in a line, or after one, and the end was not read
  Stopped : IsLine rest → list_any is_end before ≡ false → why ≡ NoEnd → Refuses before rest why
  -- a piece of a line after the end
  Unfinished : IsLine rest → rest ≢ [] → list_any is_end before ≡ true → why ≡ AfterEnd → Refuses before rest why
  -- more than 400 bytes without a line feed
  Overlong : (line more : List ℕ) → HasNoLineFeed line → length line ≡ MOST_LINE_BYTES + 1 → rest ≡ line ++ more → why ≡ why_no_form (stage_after before) → Refuses before rest why

-- the first bad line, counted from 1, and the first reason that applies to it
pub record FirstBad (bytes : List ℕ) (number : ℕ) (why : TraceWhy) : Type 0 where
  pub lines : List (List ℕ)
  pub rest : List ℕ
  pub said : List (Said ℕ)
  pub are_lines : AllByRecursion IsLine lines
  pub text : bytes ≡ text_of_lines lines ++ rest
  pub says : said_by [] lines ≡ Some said
  pub number_is : number ≡ length lines + 1
  pub refused : Refuses said rest why
