-- Lines whose words are in order, as the reader holds them.
use Rattle.std.specs.Prelude.{◌≡◌, ℕ, ◌<◌, length, ◌&&◌, Bool, true, false, if◌then◌else◌, List, [], ◌∷◌}
use Rattle.std.specs.declared.option.Option.{Option}
use Rattle.std.specs.declared.option.Option.TheVariants.{Some, None}
use Rattle.std.specs.Borrow.{Bor}
use Rattle.text_num.specs.Fields.{fields_behind}
use Rattle.text_num.specs.Numbers.{value_of}
use Rattle.trace_model.specs.Grammar.{cut_at_spaces}
use Rattle.trace_model.specs.Said.{Said, ShortHeader, LongHeader, Sampled, Scanned, Loaded, Unloaded, Executed, Exited, KernelMapped, Drained, Merged, EpochBegun, Ended, Turned, Polled, Advanced, Field, Decimal, PowerOfTwo, Address, Mapping, Title, every, tested, is_spelled, is_within, values_of}
use Rattle.trace_text.specs.declared.fields.Four.{Four}
use Rattle.trace_text.specs.declared.headers.HeaderForm.{HeaderForm}
use Rattle.trace_text.specs.declared.headers.HeaderForm.TheVariants as headers
use Rattle.trace_text.specs.declared.body_lines.BodyLine.{BodyLine}
use Rattle.trace_text.specs.declared.body_lines.BodyLine.TheVariants as bodies
use Rattle.trace_text.specs.declared.body_lines.MappingLine.{MappingLine}
use Rattle.trace_text.specs.declared.body_lines.NoticeLine.{NoticeLine}
use Rattle.trace_text.specs.declared.body_lines.NoticeLine.TheVariants as notices
use Rattle.trace_text.specs.declared.body_lines.SampleLine.{SampleLine}
use Rattle.trace_text.specs.declared.schedule.StepForm.{StepForm}
use Rattle.trace_text.specs.declared.schedule.StepForm.TheVariants as steps

-- four fields were cut off, or there are fewer
abbrev pub CutsFour : List ℕ → Option Four → Type 0
CutsFour text None = length (cut_at_spaces text) < 4
CutsFour text (Some f) = cut_at_spaces text ≡ f.a.now ∷ f.b.now ∷ f.c.now ∷ f.d.now ∷ fields_behind 32 f.rest

-- four fields, and those behind them
abbrev pub four_fields : Four → List (List ℕ) → List (List ℕ)
four_fields f more = f.a.now ∷ f.b.now ∷ f.c.now ∷ f.d.now ∷ more

-- the value of a field
abbrev pub field_value : Field (List ℕ) → Field ℕ
field_value (Decimal least most text) = Decimal least most (value_of 10 text)
field_value (PowerOfTwo text) = PowerOfTwo (value_of 10 text)
field_value (Address text) = Address (value_of 16 text)
field_value (Mapping base size) = Mapping (value_of 16 base) (value_of 16 size)
field_value (Title name) = Title name

-- a field is canonical and in its range
abbrev pub read_field : Field (List ℕ) → Bool
read_field field = is_spelled field && is_within (field_value field)

-- a field was read as this number, or refused
abbrev pub ReadsAs : Bool → ℕ → Option ℕ → Type 0
ReadsAs reads value None = reads ≡ false
ReadsAs reads value (Some n) = (reads ≡ true) × (n ≡ value)

abbrev pub header_shown : HeaderForm → Said (List ℕ)
header_shown (headers.Short cpus) = ShortHeader cpus.now
header_shown (headers.Long cpus buckets buffer) = LongHeader cpus.now buckets.now buffer.now

-- the lines of the body, with texts or with numbers
abbrev pub BodyForm : Type 0
BodyForm = BodyLine (Bor (List ℕ)) (Bor (List ℕ))

abbrev pub BodyValues : Type 0
BodyValues = BodyLine ℕ ℕ

abbrev pub NoticeForm : Type 0
NoticeForm = NoticeLine (Bor (List ℕ)) (Bor (List ℕ))

abbrev pub NoticeValues : Type 0
NoticeValues = NoticeLine ℕ ℕ

abbrev pub MappingForm : Type 0
MappingForm = MappingLine (Bor (List ℕ)) (Bor (List ℕ))

-- the text of a borrowed field, and a number as it is
abbrev pub text_of : Bor (List ℕ) → List ℕ
text_of text = text.now

abbrev pub number_of : ℕ → ℕ
number_of number = number

-- the fields of a mapping that are tested
abbrev pub mapping_fields : MappingForm → List (Field (List ℕ))
mapping_fields form = Decimal 0 4294967295 form.pid.now ∷ Mapping form.base.now form.length.now ∷ Title form.image.now ∷ []

-- what a sample says, what a record says, and what a line of the body says
abbrev pub sample_said : {D H N : Type 0} → (D → N) → (H → N) → SampleLine D H → Said N
sample_said dec hex line = Sampled (dec line.cpu) (dec line.pid) (hex line.pc) line.event

abbrev pub notice_said : {D H N : Type 0} → (D → N) → (H → N) → NoticeLine D H → Said N
notice_said dec hex (notices.Scan m) = Scanned (dec m.pid) (hex m.base) (hex m.length) m.image.now
notice_said dec hex (notices.Load m) = Loaded (dec m.pid) (hex m.base) (hex m.length) m.image.now
notice_said dec hex (notices.Unload pid base size) = Unloaded (dec pid) (hex base) (hex size)
notice_said dec hex (notices.Exec m) = Executed (dec m.pid) (hex m.base) (hex m.length) m.image.now
notice_said dec hex (notices.Exit pid) = Exited (dec pid)
notice_said dec hex (notices.Kernel base size image) = KernelMapped (hex base) (hex size) image.now
notice_said dec hex notices.Drain = Drained
notice_said dec hex notices.Merge = Merged
notice_said dec hex notices.Epoch = EpochBegun

abbrev pub body_said : {D H N : Type 0} → (D → N) → (H → N) → BodyLine D H → Said N
body_said dec hex (bodies.Sample line) = sample_said dec hex line
body_said dec hex (bodies.Notice line) = notice_said dec hex line
body_said dec hex bodies.End = Ended

abbrev pub sample_shown : SampleLine (Bor (List ℕ)) (Bor (List ℕ)) → Said (List ℕ)
sample_shown line = sample_said text_of text_of line

abbrev pub notice_shown : NoticeForm → Said (List ℕ)
notice_shown line = notice_said text_of text_of line

abbrev pub body_shown : BodyForm → Said (List ℕ)
body_shown line = body_said text_of text_of line

abbrev pub sample_values : SampleLine ℕ ℕ → Said ℕ
sample_values line = sample_said number_of number_of line

abbrev pub notice_values : NoticeValues → Said ℕ
notice_values line = notice_said number_of number_of line

abbrev pub values_shown : BodyValues → Said ℕ
values_shown line = body_said number_of number_of line

-- the values of a line's fields were read, where each is canonical and in its range
abbrev pub ReadsLine : Said (List ℕ) → Option (Said ℕ) → Type 0
ReadsLine raw read = read ≡ (if every read_field (tested raw) then Some (values_of raw) else None)

-- a mapping's fields were read
abbrev pub ReadsMapping : MappingForm → Option (MappingLine ℕ ℕ) → Type 0
ReadsMapping form None = every read_field (mapping_fields form) ≡ false
ReadsMapping form (Some m) =
    (every read_field (mapping_fields form) ≡ true) × (m.pid ≡ value_of 10 form.pid.now)
    × (m.base ≡ value_of 16 form.base.now) × (m.length ≡ value_of 16 form.length.now) × (m.image.now ≡ form.image.now)

-- a base and a length were read
abbrev pub ReadsRange : List ℕ → List ℕ → Option (ℕ × ℕ) → Type 0
ReadsRange base size None = read_field (Mapping base size) ≡ false
ReadsRange base size (Some m) = (read_field (Mapping base size) ≡ true) × (m.0 ≡ value_of 16 base) × (m.1 ≡ value_of 16 size)

abbrev pub step_shown : StepForm → Said (List ℕ)
step_shown (steps.Lane cpu) = Turned cpu.now
step_shown (steps.Poll cpu cell) = Polled cpu.now cell.now
step_shown steps.Advance = Advanced
